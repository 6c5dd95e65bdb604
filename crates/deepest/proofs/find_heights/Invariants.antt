use Rattle.deepest.specs.Deepest.{Heights}
use Rattle.deepest.proofs.find_heights.Given as goal

abbrev pub invariant-loop-i : goal.invariant-loop-i
invariant-loop-i l = Heights l.table.bytes.now l.heights l.i
