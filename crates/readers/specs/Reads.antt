-- What the service reader and the guard reader answer: refusal 5, the first child of a choice that is no guard, among the places of a table that holds a term.
use Rattle.std.specs.Prelude.{◌≡◌, false, not, List, ℕ, ◌-◌, ◌/◌, ◌<◌, length}
use Rattle.std.specs.Prelude as rust
use Rattle.std.specs.Prelude.{Ok, Err}
use mathlib.Core.Option.{Option, none, some}
use Rattle.cows.specs.Basics.{first_from}
use Rattle.cows.specs.Terms.{Term}
use Rattle.cows.specs.Kinds.{guard}
use Rattle.cows.specs.Places.{spot_at, way_to, sub}
use Rattle.cows.specs.Tables.{in_choice, no_guard}
use Rattle.records.specs.Holds.{Holds}
use Rattle.records.specs.Ends.{EndsFrom}

-- What reading asks: the table s holds a term, `ends` has the ends of its parts, and one of them stands at the place.
pub record Readable (s ends : List ℕ) (at : ℕ) : Type 0 where
  pub term : Term
  pub holds : Holds s term
  pub end : EndsFrom s ends 0
  pub inside : at < length s / 16

-- the first child of a choice that is no guard, of the places of a term from i up to j
unfoldable pub fault_from : Term → ℕ → ℕ → Option ℕ
fault_from t i j = first_from (λ m. no_guard m (spot_at t m)) i (j - i)

-- r names that place as a fault, or is right if there is none
abbrev pub faults : Option ℕ → rust.Result Unit ℕ
faults none = Ok tt
faults (some p) = Err p

abbrev pub Names : Term → ℕ → ℕ → rust.Result Unit ℕ → Type 0
Names t i j r = r ≡ faults (fault_from t i j)

-- by the service reader: what stands at `at` is no child of a choice
abbrev pub ReadService : List ℕ → ℕ → ℕ → rust.Result Unit ℕ → Type 0
ReadService s at end r = (t : Term) → Holds s t → in_choice (way_to t at) ≡ false → Names t at end r

-- by the guard reader: what stands at `at` is a child of a choice, or else a guard
abbrev pub ReadGuard : List ℕ → ℕ → ℕ → rust.Result Unit ℕ → Type 0
ReadGuard s at end r = (t : Term) → Holds s t → no_guard at (spot_at t at) ≡ not (guard (sub t at)) → Names t at end r
