-- A table that holds a term, and the fields of the record at a place.
use Rattle.std.specs.Prelude.{◌≡◌, List, ℕ}
use Rattle.cows.specs.Terms.{Term}
use Rattle.cows.specs.Format.{encode}
use Rattle.cows.specs.Within.{Right}

-- The bytes s are the table of the term t, whose records are right.
pub record Holds (s : List ℕ) (t : Term) : Type 0 where
  pub is : s ≡ encode t
  pub right : Right t
