-- What the quick test of tables is lent, what its parts find, and what it shows.
use Rattle.std.specs.Prelude.{◌≡◌, true, List, ℕ, ◌+◌, ◌*◌, ◌/◌, ◌<◌, ◌≤◌, min, length}
use mathlib.Core.Option.{none}
use Rattle.cows.specs.Limits.{max_depth}
use Rattle.cows.specs.Terms.{Term, depth}
use Rattle.cows.specs.Format.{records}
use Rattle.cows.specs.Tables.{first_wrong}
use Rattle.records.specs.Ends.{end_at, EndsFrom}
use Rattle.records.specs.Holds.{Holds}
use Rattle.ranges.specs.Ranges.{ranged}
use Rattle.index.specs.Index.{TableLists}
use Rattle.std.specs.Prelude.{Ok}
use Rattle.tables.specs.Verdict.{verdict_reply, check_reply, judge_shape}

-- room for the ends, a stack and two lists
pub record Lent (s ends stack marks users : List ℕ) : Type 0 where
  pub ends_room : length s / 16 + 1 < length ends
  pub stack_room : min (length s / 16) max_depth + 1 < length stack
  pub marks_room : length s / 16 < length marks
  pub users_room : length s / 16 < length users

-- Every record is within its ranges, the records are one term that is not too deep, and its ends, its delimitations and its users of atoms are at hand.
pub record Sound (s ends marks users : List ℕ) : Type 0 where
  pub fields : (i : ℕ) → i < length s / 16 → ranged s (16 * i) ≡ true
  pub whole : end_at s 0 ≡ length s / 16
  pub low : (t : Term) → Holds s t → depth t ≤ max_depth
  pub lists : TableLists s ends marks users

-- refusals 2 to 7 do not apply, and the ends are those of the terms
pub record Passes (s ends : List ℕ) : Type 0 where
  pub right : first_wrong 0 (records s) ≡ none
  pub reply : verdict_reply (Ok (length s / 16)) ≡ check_reply (judge_shape s)
  pub end : EndsFrom s ends 0
