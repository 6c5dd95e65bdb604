-- A list of moves (01, A night played): the run, which is the paper's night book, and play's replies, outputs and tally.
use Rattle.std.specs.Prelude.{◌||◌, ℕ, ◌+◌, ◌-◌, ◌*◌, ◌/◌, ltb, length, drop, replicate}
use mathlib.Core.List.{List, [], ◌∷◌, ◌++◌, flat_map}
use mathlib.Core.Option.{Option, none, some}
use Rattle.cows.specs.Limits.{max_bytes, max_list_bytes}
use Rattle.cows.specs.Basics.{place_if, Result, refuse, accept, ◌>>=◌, ◌>>◌, forbid}
use Rattle.cows.specs.Terms.{Term, size}
use Rattle.cows.specs.Format.{bytes2, encode}
use Rattle.cows.specs.Tables.{judge}
use Rattle.cows.specs.Moves.{Move, Kill, Communicate, Timeout, Elapse, Unfold, Extrude}
use Rattle.cows.specs.Step.{Reply, read_move, step_term}
use Rattle.cows.specs.Load.{lost, copies}
use Rattle.cows.specs.Cut.{cut}

-- The tally: communications (meetings), kills (stops), timeouts (expiries), and the load copied by unfoldings.
pub record Tally : Type 0 where
  pub communications : ℕ
  pub kills : ℕ
  pub timeouts : ℕ
  pub copied : ℕ

-- a tally by its counts; none; two tallies added
unfoldable pub counted : (communications kills timeouts copied : ℕ) → Tally
counted m k e l = record { communications = m; kills = k; timeouts = e; copied = l }

unfoldable pub no_tally : Tally
no_tally = counted 0 0 0 0

unfoldable pub sum : Tally → Tally → Tally
sum c d = counted (c.communications + d.communications) (c.kills + d.kills) (c.timeouts + d.timeouts) (c.copied + d.copied)

-- What an accepted move adds to the tally, if it copies the load l: 1 to the meetings, the stops or the expiries, if it is one, and l.
unfoldable pub adds : ℕ → Move → Tally
adds l (Kill a) = counted 0 1 0 l
adds l (Communicate a b) = counted 1 0 0 l
adds l (Timeout a) = counted 0 0 1 l
adds l (Elapse d) = counted 0 0 0 l
adds l (Unfold a) = counted 0 0 0 l
adds l (Extrude a) = counted 0 0 0 l

-- The run keeps a table, at first the start table, and the tally, at first zeros.
pub record RunState : Type 0 where
  pub table : Term
  pub tally : Tally

unfoldable pub start : Term → RunState
start t = record { table = t; tally = no_tally }

-- It judges each move, as it was read, singly on that table, with 32,768 bytes of output. Refused: table and tally stay. Accepted: the successor is kept and counted.
unfoldable pub judgement : RunState → Option Move → Result Term
judgement r m = step_term r.table m max_bytes

unfoldable pub enter : RunState → Option Move → Result Term → RunState
enter r move (refuse n p) = r
enter r none (accept s) = r
enter r (some move) (accept s) = record { table = s; tally = sum r.tally (adds (copies r.table move) move) }

unfoldable pub turn : RunState → Option Move → RunState
turn r m = enter r m (judgement r m)

unfoldable pub run : RunState → List (List ℕ) → RunState
run r [] = r
run r (m ∷ ms) = run (turn r (read_move m)) ms

-- Its reply to each: answer, place and the number of records then kept.
unfoldable pub kept : RunState → Result Term → Reply
kept r (refuse n p) = record { answer = n; place = p; records = size r.table }
kept r (accept s) = record { answer = 0; place = 0; records = size s }

unfoldable pub replies : RunState → List (List ℕ) → List Reply
replies r [] = []
replies r (m ∷ ms) = kept r (judgement r (read_move m)) ∷ replies (turn r (read_move m)) ms

-- The load that a list's accepted moves lost, each on the table that it was judged on.
unfoldable pub lost_by : Term → Option Move → Result Term → ℕ
lost_by t move (refuse n p) = 0
lost_by t none (accept s) = 0
lost_by t (some move) (accept s) = lost t move

unfoldable pub losses : RunState → List (List ℕ) → ℕ
losses r [] = 0
losses r (m ∷ ms) = lost_by r.table (read_move m) (judgement r (read_move m)) + losses (turn r (read_move m)) ms

-- Move n of a list is its n-th six bytes, whatever they hold; a tail of 1 to 5 bytes is no move.
abbrev pub moves_of : List ℕ → List (List ℕ)
moves_of l = cut 6 l

-- a reply in play's 6 bytes; replies one behind the other
abbrev pub reply6 : Reply → List ℕ
reply6 r = bytes2 r.answer ++ (bytes2 r.place ++ bytes2 r.records)

abbrev pub reply_bytes : List Reply → List ℕ
reply_bytes rs = flat_map reply6 rs

-- Play: the run and its replies, or a refusal of the whole: 1 to 7; 19, a list over 60,000 bytes; 21, an output of less than 32,768 bytes
-- or a reply buffer of less than 6 for each move.
pub record PlayEnd : Type 0 where
  pub last : RunState
  pub answers : List Reply

unfoldable pub play_from : Term → List (List ℕ) → PlayEnd
play_from t ms = record { last = run (start t) ms; answers = replies (start t) ms }

unfoldable pub judge_play : (table moves : List ℕ) → (room slots : ℕ) → Result PlayEnd
judge_play table moves room slots = do
  t ← judge table
  forbid 19 (place_if (ltb max_list_bytes (length moves)) 0)
  forbid 21 (place_if (ltb room max_bytes || ltb slots (6 * (length moves / 6))) 0)
  accept (play_from t (moves_of moves))

unfoldable pub played_reply : Result PlayEnd → Reply
played_reply (refuse n p) = record { answer = n; place = p; records = 0 }
played_reply (accept r) = record { answer = 0; place = 0; records = size r.last.table }

unfoldable pub played_tally : Result PlayEnd → Tally
played_tally (refuse n p) = no_tally
played_tally (accept r) = r.last.tally

-- The output: the last table, zeros up to byte 32,768, and the rest untouched. The reply buffer: 6 bytes a move, and the rest untouched.
unfoldable pub played_output : Result PlayEnd → List ℕ → List ℕ
played_output (refuse n p) out = out
played_output (accept r) out =
    encode r.last.table ++ replicate (max_bytes - 16 * size r.last.table) 0 ++ drop max_bytes out

unfoldable pub played_replies : Result PlayEnd → List ℕ → List ℕ
played_replies (refuse n p) slots = slots
played_replies (accept r) slots = reply_bytes r.answers ++ drop (6 * length r.answers) slots

unfoldable pub play : (table moves out slots : List ℕ) → Result PlayEnd
play table moves out slots = judge_play table moves (length out) (length slots)

-- (for computed checks) to unfold this is to unfold every definition of this file
unfoldable pub open_run : Unit {0}
unfolding counted no_tally sum adds start judgement enter turn run kept replies lost_by losses play_from judge_play played_reply played_tally played_output played_replies play
open_run = tt
