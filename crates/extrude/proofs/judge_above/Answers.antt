use borrow.Author.Tests.{not-true, not-false}
use mathlib.Core.Path.{sym, ◌∙◌}
use Rattle.extrude.proofs.Judged.{lift_stuck, lift_plain, beside_standing, lift_beside, lift_deep}
use Rattle.extrude.proofs.judge_above.Goals as goal

pub returns-then-not-floats_over : goal.returns-then-not-floats_over
returns-then-not-floats_over c t d h = lift_stuck _ _ _ _ _ t d h (sym c.floats_over.ensures ∙ not-true _ c.if-not-floats_over.true-raw)

pub returns-then-kind-ne-PARALLEL : goal.returns-then-kind-ne-PARALLEL
returns-then-kind-ne-PARALLEL c t d h = lift_plain _ _ _ _ _ t d h (sym c.floats_over.ensures ∙ not-false _ c.if-not-floats_over.false-raw) c.if-kind-ne-PARALLEL.true

pub deeper-requires : goal.deeper-requires
deeper-requires c = let q = c.requires in
    rw (c.beside.ensures, c.from.ensures) (beside_standing _ _ _ _ _ q.term q.atom q.lifting c.if-kind-ne-PARALLEL.false)

pub returns-then-deeper : goal.returns-then-deeper
returns-then-deeper c t d h = lift_deep _ _ _ _ _ t d h c.if-kind-ne-PARALLEL.false _ (rw (c.beside.ensures, c.from.ensures) at c.deeper.ensures) c.if-deeper.true

pub returns : goal.returns
returns c t d h = lift_beside _ _ _ _ _ t d h c.if-kind-ne-PARALLEL.false _ (rw (c.beside.ensures, c.from.ensures) at c.deeper.ensures) c.if-deeper.false
