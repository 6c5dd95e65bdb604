-- What a reader that stands at a place finds of the term there.
use Rattle.std.specs.Prelude.{◌≡◌, false, List, ℕ, ◌+◌, ◌/◌, length, get_or}
use Rattle.std.specs.Prelude as rust
use Rattle.std.specs.Prelude.{Ok, Err}
use mathlib.Core.Option.{Option, none, some}
use Rattle.cows.specs.Terms.{Term}
use Rattle.cows.specs.Places.{way_to}
use Rattle.cows.specs.Tables.{in_choice}
use Rattle.records.specs.Holds.{Holds}
use Rattle.readers.specs.Reads.{fault_from}

-- where it stands then: behind the term, at its end; or the fault there, the first child of a choice that is no guard
abbrev pub reached_place : ℕ → Option ℕ → rust.Result ℕ ℕ
reached_place end none = Ok end
reached_place end (some p) = Err p

-- so it is with r, of a table with the ends of its terms, if what stands at `at` is no child of a choice
abbrev pub ReadTo : List ℕ → List ℕ → ℕ → rust.Result ℕ ℕ → Type 0
ReadTo s ends at r =
    (t : Term) → Holds s t → in_choice (way_to t at) ≡ false → r ≡ reached_place (get_or ends at 0) (fault_from t at (get_or ends at 0))
