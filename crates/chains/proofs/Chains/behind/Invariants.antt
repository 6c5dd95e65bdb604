use Prim.Native.Nat.{◌/◌, ◌≤◌}
use lib.ListN.{length}
use Rattle.chains.proofs.Chaining.{steps_left}
use Rattle.chains.proofs.Finding.{Finding}
use Rattle.chains.proofs.Chains.behind.Given as goal

abbrev pub invariant-loop-e : goal.invariant-loop-e
invariant-loop-e l = (l.e ≤ length l.s / 16) × Finding l.s l.atom l.e

abbrev pub decreases-loop-e : goal.decreases-loop-e
decreases-loop-e l = steps_left (length l.s / 16) l.e
