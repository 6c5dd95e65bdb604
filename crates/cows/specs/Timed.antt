-- A time move on a table (2026-04): what the theorems on it ask of the bytes.
use Rattle.std.specs.Prelude.{◌≡◌, List, ℕ}
use mathlib.Core.Option.{some}
use Rattle.cows.specs.Terms.{Term}
use Rattle.cows.specs.Format.{encode}
use Rattle.cows.specs.Within.{Within}
use Rattle.cows.specs.Proposed.{Elapse}
use Rattle.cows.specs.Step.{read_move}

-- The bytes m propose that the time d passes, on the table of a term within the limits.
pub record ProposesTime (table m : List ℕ) (d : ℕ) : Type 0 where
  pub term : Term
  pub within : Within term
  pub table_of : encode term ≡ table
  pub reads : read_move m ≡ some (Elapse d)
