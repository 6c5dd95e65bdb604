-- A line fewer each time.
use Rattle.std.proofs.Common.{length}
use Rattle.conformance.proofs.run_all.Given as goal

abbrev pub decreases-loop-rest : goal.decreases-loop-rest
decreases-loop-rest g l = length l.rest
