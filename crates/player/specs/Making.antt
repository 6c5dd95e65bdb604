-- The successor of an allowed move, made in the table's own buffer or in the other one: what that asks and gives.
use Rattle.std.specs.Prelude.{◌≡◌, cond, Some, List, ℕ, ◌*◌, ◌≤◌, ◌<◌, length}
use mathlib.Core.Option.{some}
use Rattle.cows.specs.Limits.{max_bytes}
use Rattle.cows.specs.Basics.{accept}
use Rattle.cows.specs.Terms.{Term, size}
use Rattle.cows.specs.Step.{proposed}
use Rattle.cows.specs.Within.{Within}
use Rattle.ways.specs.Known.{Table, Known}
use Rattle.elapse.specs.Waits.{wait_places, Lists}
use Rattle.plans.specs.Plans.{Asks}
use Rattle.proposals.specs.declared.Move.{Move}
use Rattle.proposals.specs.Proposals.{move_of}
use Rattle.moves.specs.Places.{plan_place}
use Rattle.player.specs.declared.turns.Kept.{Kept}
use Rattle.player.specs.Turns.{held}

-- The table that is kept in t is known. If its live waits are listed, `to` lists them; it has room for them.
pub record CanList (k : Kept) (t ends to : List ℕ) : Type 0 where
  pub known : Known (held k.records t) ends
  pub lists : (w : ℕ) → k.waits ≡ Some w → Lists to w (wait_places known.term)
  pub inside : 16 * k.records ≤ length t
  pub room : length to ≡ max_bytes

-- The move m is allowed on the table that is kept in t, with `from` as the place of its plan and a successor of so many records within the limits.
pub record CanMake (k : Kept) (t ends : List ℕ) (m : Move) (from records : ℕ) (to : List ℕ) : Type 0 where
  pub asks : Asks (proposed (some (move_of m))) (plan_place m) (held k.records t) ends from to
  pub within : Within asks.successor
  pub count : records ≡ size asks.successor
  pub lists : (w : ℕ) → k.waits ≡ Some w → Lists to w (wait_places asks.known.term)
  pub inside : 16 * k.records ≤ length t
  pub room : length to ≡ max_bytes
  pub ends_room : 2049 < length ends

-- The successor u of the table v is kept, with its ends, in the second buffer if r says so (t is the second one if k does); and if its live waits are said
-- to be listed, the other buffer lists them.
pub record Makes (k : Kept) (t ends : List ℕ) (m : Move) (records : ℕ) (t' to' ends' : List ℕ) (r : Kept) : Type 0 where
  pub count : r.records ≡ records
  pub table : (v u : Term) → Table (held k.records t) ends v → proposed (some (move_of m)) v ≡ accept u → Table (held records (cond r.second (cond k.second t' to') (cond k.second to' t'))) ends' u
  pub lists : (w : ℕ) → r.waits ≡ Some w → (v u : Term) → Table (held k.records t) ends v → proposed (some (move_of m)) v ≡ accept u
      → Lists (cond r.second (cond k.second to' t') (cond k.second t' to')) w (wait_places u)
