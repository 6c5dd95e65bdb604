use mathlib.Core.Path.{◌≡◌}
use mathlib.Core.Bool.{false}
use Prim.Native.Nat.{◌-◌, ◌≤◌}
use lib.ListN.{length}
use Rattle.cows.specs.Terms.{Term}
use Rattle.ways.specs.TermOf.{TermOf}
use Rattle.holding.specs.Holding.{Unmarked}
use Rattle.holding.proofs.Marking.{Marking}
use Rattle.holding.proofs.mark_kills.Given as goal

abbrev pub invariant-loop-i : goal.invariant-loop-i
invariant-loop-i l = (l.i ≤ l.n) × (length l.marks ≡ 256) × (Unmarked l.initial.marks → (l.any ≡ false → Unmarked l.marks) × ((t : Term) → TermOf l.table t → Marking l.marks t l.i))

abbrev pub decreases-loop-i : goal.decreases-loop-i
decreases-loop-i l = l.n - l.i
