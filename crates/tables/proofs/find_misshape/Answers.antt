use native.Mathlib.Omega.{arith}
use mathlib.Core.Path.{sym, ◌∙◌}
use Rattle.tables.proofs.Judging.{judge_apart, judge_whole, slice_bytes}
use Rattle.tables.proofs.Passing.{readable}
use Rattle.tables.proofs.find_misshape.Goals as goal

pub returns-then-end-n : goal.returns-then-end-n
returns-then-end-n c = let e = c.ends.ensures in
    (rw c.min.ensures (judge_apart _ _ c.requires.0.right (c.from-end.ensures ∙ e.end 0 (omega arith) (omega arith)) c.if-end-n.true), e)

pub find_fault-requires : goal.find_fault-requires
find_fault-requires c = let e = c.ends.ensures in
    let end = c.from-end.ensures ∙ e.end 0 (omega arith) (omega arith) in
    readable _ _ (slice_bytes c.args.s.now (λ i. omega (arith, c.type_inv.s i))) c.requires.0.bytes c.requires.0.right (sym end ∙ c.if-end-n.false) e

pub returns : goal.returns
returns c = let e = c.ends.ensures in
    let end = c.from-end.ensures ∙ e.end 0 (omega arith) (omega arith) in
    let b = slice_bytes c.args.s.now (λ i. omega (arith, c.type_inv.s i)) in
    (judge_whole _ _ c.requires.0.right end b c.requires.0.bytes.whole c.if-end-n.false c.find_fault.result c.find_fault.ensures, e)
