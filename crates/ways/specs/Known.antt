-- What the moves know of a table: it is well formed, and the ends of its terms are at hand.
use Rattle.std.specs.Prelude.{◌≡◌, Bool, true, false, List, ℕ, ◌+◌, ◌*◌, ◌/◌, ◌≤◌, ◌<◌, length, get_or}
use Rattle.cows.specs.Limits.{max_records}
use Rattle.cows.specs.Terms.{Term, size}
use Rattle.cows.specs.Basics.{Result, refuse, accept}
use Rattle.cows.specs.Places.{sub}
use Rattle.cows.specs.Tables.{judge}
use Rattle.cows.specs.Within.{Within}
use Rattle.records.specs.Holds.{Holds}
use Rattle.records.specs.Ends.{EndsFrom}

-- The bytes s are the table of the term t within the limits, and `ends` has the ends of its terms.
pub record Table (s ends : List ℕ) (t : Term) : Type 0 where
  pub holds : Holds s t
  pub within : Within t
  pub end : EndsFrom s ends 0

-- There is such a term. The other fields follow; they are here for `omega`.
pub record Known (s ends : List ℕ) : Type 0 where
  pub term : Term
  pub table : Table s ends term
  pub whole : length s ≡ 16 * (length s / 16)
  pub few : length s / 16 ≤ max_records
  pub room : length s / 16 + 1 < length ends

-- the end of the term at each place
abbrev pub EndPlaces : List ℕ → Term → Type 0
EndPlaces ends t = (j : ℕ) → j < size t → get_or ends j 0 ≡ j + size (sub t j)

-- What is said of a table and its ends as one fact, with no term named: the bytes are accepted, and `ends` has the ends of the terms.
abbrev pub is_accepted : Result Term → Bool
is_accepted (refuse n p) = false
is_accepted (accept t) = true

pub record WellFormed (s ends : List ℕ) : Type 0 where
  pub bytes : (i : ℕ) → get_or s i 0 < 256
  pub accepted : is_accepted (judge s) ≡ true
  pub end : EndsFrom s ends 0
