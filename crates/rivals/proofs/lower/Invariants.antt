use mathlib.Core.Path.{◌≡◌}
use Prim.Native.Nat.{◌/◌, ◌≤◌}
use lib.ListN.{length}
use Rattle.chains.proofs.Chaining.{steps_left}
use Rattle.rivals.proofs.Lowering.{Lowering}
use Rattle.rivals.proofs.lower.Given as goal

abbrev pub invariant-loop-e : goal.invariant-loop-e
invariant-loop-e l = (l.e ≤ length l.s / 16) × (length l.fewest ≡ length l.initial.fewest) × Lowering l.s l.cast l.r l.initial.fewest l.fewest l.e

abbrev pub decreases-loop-e : goal.decreases-loop-e
decreases-loop-e l = steps_left (length l.s / 16) l.e
