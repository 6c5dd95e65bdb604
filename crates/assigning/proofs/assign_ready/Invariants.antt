use mathlib.Core.Path.{◌≡◌}
use Prim.Native.Nat.{◌-◌, ◌≤◌}
use lib.ListN.{length}
use Rattle.cows.specs.Terms.{Term}
use Rattle.ways.specs.TermOf.{TermOf}
use Rattle.roles.specs.Roles.{Unassigned}
use Rattle.assigning.proofs.Noting.{Noting}
use Rattle.assigning.proofs.assign_ready.Given as goal

abbrev pub invariant-loop-i : goal.invariant-loop-i
invariant-loop-i l = (l.i ≤ l.n) × (length l.cast ≡ length l.initial.cast) × ((t : Term) → TermOf l.table t → Unassigned l.initial.cast → Noting t l.i l.cast)

abbrev pub decreases-loop-i : goal.decreases-loop-i
decreases-loop-i l = l.n - l.i
