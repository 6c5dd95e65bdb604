-- One move of a list: what is asked and given by its judgement, and by keeping the successor in one of two buffers.
use Rattle.std.specs.Prelude as rust
use Rattle.std.specs.Prelude.{◌≡◌, ◌≢◌, Ok, Err, cond, Some, List, ℕ, ◌*◌, ◌≤◌, ◌<◌, length, take}
use mathlib.Core.Option.{Option, some}
use Rattle.cows.specs.Limits.{max_bytes, max_records}
use Rattle.cows.specs.Basics.{accept}
use Rattle.cows.specs.Terms.{Term, size}
use Rattle.cows.specs.Moves.{Move}
use Rattle.cows.specs.Step.{proposed, step_term, reply_to}
use Rattle.cows.specs.Load.{copies}
use Rattle.cows.specs.Run.{no_tally, RunState, judgement, turn, kept}
use Rattle.ways.specs.Known.{Table, Known}
use Rattle.elapse.specs.Waits.{wait_places, Lists}
use Rattle.proposals.specs.declared.Move as code
use Rattle.proposals.specs.Proposals.{move_of, read_as}
use Rattle.plans.specs.Plans.{Asks}
use Rattle.moves.specs.Places.{plan_place}
use Rattle.tables.specs.declared.Reply.{Reply}
use Rattle.stepper.specs.Replies.{reply_of}
use Rattle.tally.specs.declared.Tally.{Tally}
use Rattle.tally.specs.Counted.{tally_of, sum_of, Small}
use Rattle.player.specs.declared.turns.Kept.{Kept}
use Rattle.player.specs.declared.turns.Tried.{Tried}
use Rattle.player.specs.declared.turns.Next.{Next}

-- The move m is accepted on the table s.
pub record Accepted (s ends : List ℕ) (m : code.Move) : Type 0 where
  pub known : Known s ends
  pub successor : Term
  pub accepted : step_term known.term (some (move_of m)) max_bytes ≡ accept successor

-- r is the load that the move copies.
pub record Copied (s ends : List ℕ) (m : code.Move) (r : ℕ) : Type 0 where
  pub is : (t : Term) → Table s ends t → r ≡ copies t (move_of m)
  pub few : r ≤ max_records

-- What the judgement of a move gives in the run q: the step's reply; and what the move counts, added to the tally, is the tally of the run's next turn.
pub record Judged (q : RunState) (m : Option Move) (reply : Reply) (counts : Tally) : Type 0 where
  pub replies : reply ≡ reply_of (reply_to (judgement q m))
  pub counted : sum_of (tally_of q.tally) counts ≡ tally_of (turn q m).tally
  pub few : Small counts 1

-- And of a move m, as it was read, that is accepted: what making it asks of the table s, with a buffer for any successor.
pub record Allows (s ends : List ℕ) (m : rust.Option code.Move) (r : Tried) : Type 0 where
  pub read : m ≡ Some r.m
  pub judged : (q : RunState) → Table s ends q.table → Judged q (some (move_of r.m)) (record { answer = 0; place = 0; records = r.plan.records }) r.counts
  pub asks : (out : List ℕ) → length out ≡ max_bytes → Asks (proposed (some (move_of r.m))) (plan_place r.m) s ends r.plan.from out

-- A refused one counts nothing.
pub record Refuses (s ends : List ℕ) (m : rust.Option code.Move) (r : Reply) : Type 0 where
  pub judged : (q : RunState) → Table s ends q.table → Judged q (read_as m) r (tally_of no_tally)
  pub no_zero : r.answer ≢ 0

abbrev pub Judges : (s ends : List ℕ) → rust.Option code.Move → rust.Result Tried Reply → Type 0
Judges s ends m (Ok r) = Allows s ends m r
Judges s ends m (Err r) = Refuses s ends m r

-- The table of n records that lies in a buffer.
abbrev pub held : ℕ → List ℕ → List ℕ
held n x = take (16 * n) x

-- The table of the run q is kept: in one of the buffers, with its ends and its number of records. If its live waits are listed, the other buffer lists them.
pub record KeepsRun (q : RunState) (x y ends : List ℕ) (k : Kept) : Type 0 where
  pub table : Table (held k.records (cond k.second y x)) ends q.table
  pub count : k.records ≡ size q.table
  pub lists : (w : ℕ) → k.waits ≡ Some w → Lists (cond k.second x y) w (wait_places q.table)
  pub first_room : length x ≡ max_bytes
  pub second_room : length y ≡ max_bytes
  pub ends_room : 2049 < length ends

-- That of some run is.
pub record Going (x y ends : List ℕ) (k : Kept) : Type 0 where
  pub run : RunState
  pub keeps : KeepsRun run x y ends k

-- What a move on the kept table gives: the run goes on by it, and reply and counts are the book's.
pub record GoesOn (m : Option Move) (k : Kept) (x y ends x' y' ends' : List ℕ) (r : Next) : Type 0 where
  pub keeps : (q : RunState) → KeepsRun q x y ends k → KeepsRun (turn q m) x' y' ends' r.kept
  pub replies : (q : RunState) → KeepsRun q x y ends k → r.reply ≡ reply_of (kept q (judgement q m))
  pub counted : (q : RunState) → KeepsRun q x y ends k → sum_of (tally_of q.tally) r.counts ≡ tally_of (turn q m).tally
  pub few : Small r.counts 1

-- A turn of the table that is kept in t; `to` is the other buffer. What it asks and gives is that of a move on the kept table.
abbrev pub Turns : Kept → (t ends to : List ℕ) → Type 0
Turns k t ends to = Going (cond k.second to t) (cond k.second t to) ends k

abbrev pub Turned : Kept → Option Move → (t ends to t' ends' to' : List ℕ) → Next → Type 0
Turned k m t ends to t' ends' to' r = GoesOn m k (cond k.second to t) (cond k.second t to) ends (cond k.second to' t') (cond k.second t' to') ends' r
