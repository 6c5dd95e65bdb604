use mathlib.Core.Path.{◌≡◌}
use Prim.Native.Nat.{◌*◌, ◌≤◌}
use lib.ListN.{length}
use Rattle.cows.specs.Terms.{Term}
use Rattle.ways.specs.TermOf.{TermOf}
use Rattle.stopper.proofs.Gathers.{Gathering}
use Rattle.stopper.proofs.gathering.gather.Given as goal

abbrev pub invariant-loop-i : goal.invariant-loop-i
invariant-loop-i l = (length l.scopes ≡ length l.initial.scopes) × (l.gone ≤ 2048 * l.i) × ((t : Term) → TermOf l.table t → Gathering t l.kills l.scopes l.i l.gone)
