-- One move on any bytes: refusals 10, 20 and 21, the reply and every output byte (01, Moves and Who can cause which refusal).
use Rattle.std.specs.Prelude.{Bool, ◌&&◌, ◌||◌, List, [], ◌∷◌, ◌++◌, ℕ, ◌*◌, ltb, eqb, length, drop}
use mathlib.Core.Option.{Option}
use lib.ListN.{get_elem?}
use Rattle.cows.specs.Limits.{max_records, max_depth}
use Rattle.cows.specs.Basics.{place_if, only, Result, refuse, accept, ◌>>=◌, ◌>>◌, forbid, need}
use Rattle.cows.specs.Terms.{Term, size, depth}
use Rattle.cows.specs.Format.{byte, word, encode}
use Rattle.cows.specs.Tables.{judge}
use Rattle.cows.specs.Moves.{Move, Kill, Communicate, Timeout, Elapse, Unfold, Extrude, successor}

-- A move is 6 bytes: kind, a zero byte, number a, number b. Only a communication uses b; elsewhere b is zero.
unfoldable pub right_move : List ℕ → Bool
right_move m = eqb (length m) 6 && eqb (byte m 1) 0 && (eqb (byte m 0) 1 || eqb (word m 4) 0)

-- the moves of the numbers a and b, by kind
unfoldable pub six_moves : (a b : ℕ) → List Move
six_moves a b = Kill a ∷ Communicate a b ∷ Timeout a ∷ Elapse a ∷ Unfold a ∷ Extrude a ∷ []

unfoldable pub read_move : List ℕ → Option Move
read_move m = only (right_move m) (get_elem? (six_moves (word m 2) (word m 4)) (byte m 0))

-- A move on a term, as it was read: 10 if it is none, and else its own refusals, 11 to 18, and the successor.
unfoldable pub proposed : Option Move → Term → Result Term
proposed m t = do
  move ← need 10 0 m
  successor t move

-- 20: successor over 2,048 records or depth 256.
unfoldable pub over_limits : Term → Bool
over_limits s = ltb max_records (size s) || ltb max_depth (depth s)

-- The successor, with room for so many bytes: 20; 21, output shorter than the successor.
unfoldable pub fitted : ℕ → Term → Result Term
fitted room s = do
  forbid 20 (place_if (over_limits s) 0)
  forbid 21 (place_if (ltb room (16 * size s)) 0)
  accept s

-- A move on a term, with room for so many bytes: refusals 10 to 21.
unfoldable pub step_term : Term → Option Move → ℕ → Result Term
step_term t m room = proposed m t >>= fitted room

-- A move on a table.
unfoldable pub judge_step : List ℕ → List ℕ → ℕ → Result Term
judge_step table m room = do
  t ← judge table
  step_term t (read_move m) room

-- The reply; the output as it then is: the successor from its start and the rest untouched, or all untouched.
pub record Reply : Type 0 where
  pub answer : ℕ
  pub place : ℕ
  pub records : ℕ

unfoldable pub reply_to : Result Term → Reply
reply_to (refuse n p) = record { answer = n; place = p; records = 0 }
reply_to (accept s) = record { answer = 0; place = 0; records = size s }

unfoldable pub written : Result Term → List ℕ → List ℕ
written (refuse n p) out = out
written (accept s) out = encode s ++ drop (16 * size s) out

unfoldable pub step_reply : (table m out : List ℕ) → Reply
step_reply table m out = reply_to (judge_step table m (length out))

unfoldable pub step_output : (table m out : List ℕ) → List ℕ
step_output table m out = written (judge_step table m (length out)) out

-- (for computed checks) to unfold this is to unfold every definition of this file
unfoldable pub open_step : Unit {0}
unfolding right_move six_moves read_move proposed over_limits fitted step_term judge_step reply_to written step_reply step_output
open_step = tt
