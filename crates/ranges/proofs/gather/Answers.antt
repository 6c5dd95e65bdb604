use Rattle.std.proofs.Common.{arith, length-set, ◌∙◌}
use Rattle.ranges.proofs.Gathering.{gather_turn}
use Rattle.ranges.proofs.gather.Goals as goal

pub loop-j-preserved : goal.loop-j-preserved
loop-j-preserved c = let a = c.args in
    let v = c.loop-j in
    let (g, r) = gather_turn a.s.now a.k a.low.now a.span.now a.out.now v.out v.j c.beyond.result (omega arith)
    (rw c.word_at.ensures at c.beyond.ensures) v.invariant.1 v.invariant.2 in
    (length-set v.out _ _ ∙ v.invariant.0, g, r)
