use Rattle.std.proofs.Common.{◌≡◌, drop}
use Rattle.cows.specs.Format.{records}
use Rattle.cows.specs.Tables.{first_wrong}
use Rattle.ranges.proofs.find_wrong.Given as goal

abbrev pub invariant-loop-i : goal.invariant-loop-i
invariant-loop-i l = first_wrong 0 (records l.s) ≡ first_wrong l.i (drop l.i (records l.s))
