use mathlib.Core.Path.{◌≡◌}
use mathlib.Core.Bool.{true}
use Prim.Native.Nat.{◌-◌, ◌≤◌}
use Rattle.cows.specs.Terms.{Term, Action}
use Rattle.cows.specs.Kinds.{ready_kind}
use Rattle.cows.specs.Moves.{closed_action}
use Rattle.ways.specs.TermOf.{TermOf}
use Rattle.matching.specs.Matching.{ActionAt}
use Rattle.ways.proofs.Seeking.{Seeking}
use Rattle.holding.proofs.Marking.{}
use Rattle.holding.proofs.Conflicting.{tightening}
use Rattle.holding.proofs.conflicts.first_tighter.Given as goal

abbrev pub invariant-loop-i : goal.invariant-loop-i
invariant-loop-i l = (l.i ≤ l.n) × ((t : Term) (m : Action) → TermOf l.table t → ActionAt l.table.bytes.now l.b m → closed_action m ≡ true → Seeking ready_kind (tightening l.l m) t l.i)

abbrev pub decreases-loop-i : goal.decreases-loop-i
decreases-loop-i l = l.n - l.i
