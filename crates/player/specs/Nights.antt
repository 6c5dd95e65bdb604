-- A list of moves on a table (document 01, A night played): what play replies and leaves in its two buffers.
use Rattle.std.specs.Prelude.{◌≡◌, List, ◌++◌, ℕ, ◌*◌, ◌/◌, ◌≤◌, ◌<◌, length, take, drop}
use mathlib.Core.Option.{Option}
use Rattle.cows.specs.Limits.{max_bytes, max_list_bytes}
use Rattle.cows.specs.Basics.{Result, accept}
use Rattle.cows.specs.Terms.{Term}
use Rattle.cows.specs.Format.{bytes2}
use Rattle.cows.specs.Moves.{Move}
use Rattle.cows.specs.Step.{Reply, read_move}
use Rattle.cows.specs.Run.{no_tally, RunState, start, run, judgement, turn, kept, replies, reply_bytes, moves_of, play_from, played_reply, played_tally, played_output, played_replies, reply6}
use Rattle.cows.specs.Run as meaning
use Rattle.cows.specs.Cut.{pieces}
use Rattle.records.specs.Rewrites.{put}
use Rattle.ways.specs.Known.{Known}
use Rattle.tables.specs.Verdict.{refusal, accepted}
use Rattle.stepper.specs.Replies.{reply_of}
use Rattle.tally.specs.declared.Tally.{Tally}
use Rattle.tally.specs.Counted.{tally_of, sum_of, Small}
use Rattle.player.specs.declared.turns.Kept.{Kept}
use Rattle.player.specs.declared.nights.Moved.{Moved}
use Rattle.player.specs.declared.Played.{Played}
use Rattle.player.specs.Turns.{KeepsRun, Going}

-- answer, place and records in six bytes
abbrev pub six_bytes : ℕ → ℕ → ℕ → List ℕ
six_bytes a p n = bytes2 a ++ (bytes2 p ++ bytes2 n)

-- The run of the first i moves of a list from the table of t, and its replies.
unfoldable pub book_at : Term → List ℕ → ℕ → RunState
book_at t l i = run (start t) (pieces 6 i l)

unfoldable pub replies_at : Term → List ℕ → ℕ → List Reply
replies_at t l i = replies (start t) (pieces 6 i l)

-- Move i of a list: its bytes, and as it is read.
abbrev pub bytes_at : List ℕ → ℕ → List ℕ
bytes_at l i = take 6 (drop (6 * i) l)

abbrev pub move_at : List ℕ → ℕ → Option Move
move_at l i = read_move (bytes_at l i)

-- What move i of a list of at most 10,000 asks: a kept table, and room for the replies.
pub record CanMove (moves : List ℕ) (i : ℕ) (k : Kept) (x y ends slots : List ℕ) : Type 0 where
  pub going : Going x y ends k
  pub inside : i < length moves / 6
  pub short : length moves ≤ max_list_bytes
  pub slots_room : 6 * (length moves / 6) ≤ length slots

-- What it gives: the run goes on by the move, its reply stands in its place, and what it counts, added to the tally, is the run's then.
pub record Made (moves : List ℕ) (i : ℕ) (k : Kept) (x y ends slots x' y' ends' slots' : List ℕ) (r : Moved) : Type 0 where
  pub keeps : (q : RunState) → KeepsRun q x y ends k → KeepsRun (turn q (move_at moves i)) x' y' ends' r.kept
  pub replies : (q : RunState) → KeepsRun q x y ends k → slots' ≡ put slots (6 * i) (reply6 (kept q (judgement q (move_at moves i))))
  pub counted : (q : RunState) → KeepsRun q x y ends k → sum_of (tally_of q.tally) r.tally ≡ tally_of (turn q (move_at moves i)).tally
  pub few : Small r.tally 1

-- The same, and what the move counts is added to the tally c that is lent.
pub record Recorded (moves : List ℕ) (i : ℕ) (k : Kept) (x y ends slots : List ℕ) (c : Tally) (x' y' ends' slots' : List ℕ) (c' : Tally) (k' : Kept) : Type 0 where
  pub counts : Tally
  pub made : Made moves i k x y ends slots x' y' ends' slots' (record { kept = k'; tally = counts })
  pub added : c' ≡ sum_of c counts

-- What a night of n moves asks: a kept table, the whole of a list of at most 10,000 moves, and room for the replies.
pub record CanPlay (moves : List ℕ) (n : ℕ) (first : Kept) (x y ends slots : List ℕ) : Type 0 where
  pub term : Term
  pub keeps : KeepsRun (start term) x y ends first
  pub all : n ≡ length moves / 6
  pub short : length moves ≤ max_list_bytes
  pub slots_room : 6 * (length moves / 6) ≤ length slots

-- The state after i moves: the run of these is kept, their replies are the book's, and c is the tally.
pub record Playing (moves : List ℕ) (first : Kept) (x₀ y₀ ends₀ slots : List ℕ) (i : ℕ) (k : Kept) (x y ends replied : List ℕ) (c : Tally) : Type 0 where
  pub inside : i ≤ length moves / 6
  pub keeps : (t : Term) → KeepsRun (start t) x₀ y₀ ends₀ first → KeepsRun (book_at t moves i) x y ends k
  pub replies_are : (t : Term) → KeepsRun (start t) x₀ y₀ ends₀ first → replied ≡ reply_bytes (replies_at t moves i) ++ drop (6 * i) slots
  pub tallied : (t : Term) → KeepsRun (start t) x₀ y₀ ends₀ first → c ≡ tally_of (book_at t moves i).tally
  pub small : Small c i
  pub same_first : length x ≡ length x₀
  pub same_second : length y ≡ length y₀
  pub same_ends : length ends ≡ length ends₀
  pub same_slots : length replied ≡ length slots

-- What it gives: the run of the whole list is kept, and replies and tally are the book's.
pub record NightOver (t : Term) (moves x y ends slots after : List ℕ) (r : Moved) : Type 0 where
  pub keeps : KeepsRun (run (start t) (moves_of moves)) x y ends r.kept
  pub replied : after ≡ reply_bytes (replies (start t) (moves_of moves)) ++ drop (6 * (length moves / 6)) slots
  pub tallied : r.tally ≡ tally_of (run (start t) (moves_of moves)).tally

-- What playing on a known table asks: room for all that play writes.
pub record Clear (table ends moves out slots : List ℕ) : Type 0 where
  pub known : Known table ends
  pub ends_room : 2049 < length ends
  pub short : length moves ≤ max_list_bytes
  pub out_room : max_bytes ≤ length out
  pub slots_room : 6 * (length moves / 6) ≤ length slots

-- A play refused whole.
abbrev pub refused_with : ℕ → ℕ → Played
refused_with n p = record { reply = refusal n p; tally = tally_of no_tally }

-- what is accepted, and its tally
abbrev pub accepted_with : ℕ → Tally → Played
accepted_with n c = record { reply = accepted n; tally = c }

-- The reply, the tally, and every byte of both buffers are those of a result.
pub record PlayGives (r : Result meaning.PlayEnd) (out after slots after' : List ℕ) (p : Played) : Type 0 where
  pub replied : p.reply ≡ reply_of (played_reply r)
  pub tallied : p.tally ≡ tally_of (played_tally r)
  pub output : after ≡ played_output r out
  pub slots_are : after' ≡ played_replies r slots

-- What play gives on any bytes, and on the table of t where nothing refuses it whole.
abbrev pub Plays : (table moves out after slots after' : List ℕ) → Played → Type 0
Plays table moves out after slots after' p = PlayGives (meaning.play table moves out slots) out after slots after' p

abbrev pub PlaysTerm : Term → (moves out after slots after' : List ℕ) → Played → Type 0
PlaysTerm t moves out after slots after' p = PlayGives (accept (play_from t (moves_of moves))) out after slots after' p
