use borrow.Author.Tests.{not-true}
use mathlib.Core.Path.{sym, ap, ◌∙◌}
use native.Mathlib.Omega.{arith}
use Rattle.cows.proofs.Basics.{or_false}
use Rattle.records.specs.Answers.{found_of}
use Rattle.ways.proofs.KnownTables.{table_inside}
use Rattle.holding.proofs.Bits.{zeros_unmarked}
use Rattle.holding.proofs.Marking.{unlabelled_outside, unmarked_outside}
use Rattle.holding.proofs.Around.{none-held, first_either, first_either_flipped}
use Rattle.holding.proofs.first_held.Goals as goal

pub returns-then-not-labelled : goal.returns-then-not-labelled
returns-then-not-labelled c t h va vb = let q = c.requires in
    let (x, y) = or_false _ _ (not-true _ c.if-not-labelled.true-raw) in
    let i = table_inside _ _ t h in
    let o = unlabelled_outside t h.within.right in
    ap found_of (sym (none-held t h.within _ _ (i _ q.0) (i _ q.1) va vb (o _ (c.labelled.ensures x t h)) (o _ (c.labelled-2.ensures y t h))))

pub returns-then-not-mark_kills : goal.returns-then-not-mark_kills
returns-then-not-mark_kills c t h va vb = let q = c.requires in
    let (e, m) = c.mark_kills.ensures (zeros_unmarked 256) in
    let i = table_inside _ _ t h in
    let o = unmarked_outside t h.within.right _ (m t h) (e (not-true _ c.if-not-mark_kills.true-raw)) in
    ap found_of (sym (none-held t h.within _ _ (i _ q.0) (i _ q.1) va vb (o _) (o _)))

pub returns-then-a-b : goal.returns-then-a-b
returns-then-a-b c t h va vb = c.first_marked.ensures t h ((c.mark_kills.ensures (zeros_unmarked 256)).1 t h) va vb ∙ ap found_of (sym (first_either t _ _ (omega arith)))

pub returns : goal.returns
returns c t h va vb = c.first_marked-2.ensures t h ((c.mark_kills.ensures (zeros_unmarked 256)).1 t h) vb va
    ∙ ap found_of (sym (first_either_flipped t _ _ (omega arith)))
