-- The sum is a remainder.
use Rattle.std.proofs.Common.{◌<◌}
use Rattle.conformance.proofs.checksum.Given as goal

abbrev pub invariant-loop-b : goal.invariant-loop-b
invariant-loop-b l = l.sum < 65521
