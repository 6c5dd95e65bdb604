-- What code knows that steps over whole terms by their ends.
use Rattle.std.specs.Prelude.{◌≡◌, List, ℕ, ◌%◌}
use Rattle.records.specs.Ends.{EndsFrom}

-- `ends` has the end of the term at each place of s, and byte i is the first byte of a place.
pub record Aligned (s ends : List ℕ) (i : ℕ) : Type 0 where
  pub from : EndsFrom s ends 0
  pub whole : i % 16 ≡ 0
