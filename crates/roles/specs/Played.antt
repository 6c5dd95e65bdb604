-- What the list of meetings knows of a table beside its ends: the roles of its records, and the fewest variables that a ready receive binds (15).
use Rattle.std.specs.Prelude.{◌≡◌, true, List, ℕ, ◌/◌, ◌≤◌, ◌<◌, length, get_or}
use mathlib.Core.Option.{some}
use Rattle.cows.specs.Terms.{Term, Action, size, invokes}
use Rattle.cows.specs.Places.{sub}
use Rattle.ways.specs.Known.{Table, Known}
use Rattle.roles.specs.declared.Role.{Role}
use Rattle.roles.specs.Roles.{sending, fewest_bound, Cast}

-- The table is known, and `cast` has the roles of its term.
pub record Played (s ends : List ℕ) (cast : List Role) : Type 0 where
  pub known : Known s ends
  pub roles : (t : Term) → Table s ends t → Cast t cast
  pub room : length s / 16 ≤ length cast

-- `fewest` has the number for each invoke that may be a party.
abbrev pub Fewest : Term → List ℕ → Type 0
Fewest t fewest = (b : ℕ) (m : Action) → b < size t → sending t b ≡ true → invokes (sub t b) ≡ some m → get_or fewest b 0 ≡ fewest_bound t m
