-- A digit is put behind no more than 100,000.
use Rattle.std.proofs.Common.{◌≤◌}
use Rattle.conformance.proofs.number.Given as goal

abbrev pub invariant-loop-b : goal.invariant-loop-b
invariant-loop-b l = l.n ≤ 1000015
