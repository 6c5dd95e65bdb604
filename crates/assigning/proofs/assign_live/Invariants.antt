use mathlib.Core.Path.{◌≡◌}
use Prim.Native.Nat.{ℕ, ◌-◌, ◌≤◌, ◌<◌}
use lib.ListN.{length}
use Rattle.cows.specs.Terms.{Term, size}
use Rattle.ways.specs.TermOf.{TermOf}
use Rattle.roles.specs.Roles.{role_at, ready_role}
use Rattle.assigning.proofs.Living.{Living}
use Rattle.assigning.proofs.assign_live.Given as goal

abbrev pub invariant-loop-i : goal.invariant-loop-i
invariant-loop-i l = (l.i ≤ l.n) × (length l.cast ≡ length l.initial.cast) × ((t : Term) → TermOf l.table t → ((k : ℕ) → k < size t → role_at l.initial.cast k ≡ ready_role t k) → Living t l.i l.held l.cast)

abbrev pub decreases-loop-i : goal.decreases-loop-i
decreases-loop-i l = l.n - l.i
