-- Demand 2, its right side: when a move on a table is to be accepted, and with which successor. No word of what a program does.
use Rattle.std.specs.Prelude.{◌≡◌, List, ℕ, ◌*◌, ◌≤◌}
use mathlib.Core.Option.{some}
use Rattle.cows.specs.Limits.{max_records, max_depth}
use Rattle.cows.specs.Terms.{Term, size, depth}
use Rattle.cows.specs.Format.{encode}
use Rattle.cows.specs.Within.{Within}
use Rattle.cows.specs.Proposed.{Move}
use Rattle.cows.specs.Allows.{Allows}
use Rattle.cows.specs.Step.{read_move}

-- The table is well formed: it is that of a term within the limits. The bytes m are a move, the rules allow it with the successor s, and s keeps the
-- limits and fits the room.
pub record Accepts (table m : List ℕ) (room : ℕ) (s : Term) : Type 0 where
  pub term : Term
  pub within : Within term
  pub table_of : encode term ≡ table
  pub move : Move
  pub reads : read_move m ≡ some move
  pub allows : Allows term move s
  pub small : size s ≤ max_records
  pub shallow : depth s ≤ max_depth
  pub fits : 16 * size s ≤ room
