use mathlib.Core.Path.{◌≡◌}
use Prim.Native.Nat.{ℕ, ◌<◌}
use lib.ListN.{get_or}
use Rattle.cows.specs.Terms.{Term, size}
use Rattle.ways.specs.TermOf.{TermOf}
use Rattle.roles.specs.Roles.{unfit, Cast}
use Rattle.rivals.proofs.Counted.{Counted}
use Rattle.rivals.proofs.find_fewest.Given as goal

abbrev pub invariant-loop-r : goal.invariant-loop-r
invariant-loop-r l = (t : Term) → TermOf l.table t → Cast t l.cast → ((b : ℕ) → b < size t → get_or l.initial.fewest b 0 ≡ unfit) → Counted t l.fewest l.r
