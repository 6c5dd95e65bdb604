use Rattle.std.proofs.Common.{rules}
use Rattle.printing.proofs.Reading.{more}
use Rattle.printing.proofs.read_full.Goals as goal

pub loop-done-preserved : goal.loop-done-preserved
loop-done-preserved g c =
    let before = c.loop-done.invariant in
    let read = c.in-Ok.ensures in
    (search rules, search rules, more _ _ _ _ _ _ _ _ before.0 read.bound.0 before.2 read.bytes.0)
