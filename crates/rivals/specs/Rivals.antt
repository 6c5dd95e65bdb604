-- One ready receive against all invokes that may be a party (15).
use Rattle.std.specs.Prelude.{◌≡◌, ◌≢◌, true, List, ℕ, ◌/◌, ◌≤◌, ◌<◌, min, length, get_or}
use mathlib.Core.Option.{some}
use Rattle.cows.specs.Terms.{Term, Action, size, invokes}
use Rattle.cows.specs.Places.{spot_at, sub}
use Rattle.roles.specs.declared.Role.{Role}
use Rattle.roles.specs.Roles.{unfit, ready_bound, sending}
use Rattle.chains.specs.Chains.{BySender}

-- The number at place b is lowered to l, if that is less.
pub record LoweredAt (b l : ℕ) (old new : List ℕ) : Type 0 where
  pub here : get_or new b 0 ≡ min (get_or old b 0) l
  pub others : (j : ℕ) → j ≢ b → get_or new j 0 ≡ get_or old j 0

-- The invokes that may be a party are chained, r is a place, and there is a role and a number for each place.
pub record Rivals (s : List ℕ) (cast : List Role) (heads next : List ℕ) (r : ℕ) (fewest : List ℕ) : Type 0 where
  pub senders : BySender s cast heads next
  pub inside : r < length s / 16
  pub roles : length s / 16 ≤ length cast
  pub room : length s / 16 ≤ length fewest

-- The record at place r has been counted: of an invoke that it does not fit, or where it is no ready receive, the number is as it was.
abbrev pub LoweredAll : Term → ℕ → List ℕ → List ℕ → Type 0
LoweredAll t r old new =
    (b : ℕ) (m : Action) → b < size t → sending t b ≡ true → invokes (sub t b) ≡ some m → get_or old b 0 ≤ unfit → get_or new b 0 ≡ min (get_or old b 0) (ready_bound m (spot_at t r))
