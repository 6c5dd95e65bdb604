-- Ticks from the controller (request 2026-05): a time move from two readings of a clock of 32 bits, on any table.
use Rattle.std.specs.Prelude.{ℕ, ◌+◌, ◌-◌, ◌%◌, cond, List, length, ◌==◌, nat_le, nat_lt}
use Rattle.cows.specs.Basics.{place_if, Result, ◌>>=◌, ◌>>◌, forbid}
use Rattle.cows.specs.Terms.{Term}
use Rattle.cows.specs.Tables.{judge}
use Rattle.cows.specs.Step.{fitted, judge_step, Reply, reply_to, written}
use Rattle.cows.specs.Papers.{time}

-- The clock rolls over at 2^32. Half of that and more is a clock gone back; a time move has 16 bits for its time.
abbrev pub rollover : ℕ
rollover = 4294967296

abbrev pub gone_back : ℕ
gone_back = 2147483648

abbrev pub longest_time : ℕ
longest_time = 65535

-- 2026-05: elapsed is the later reading less the earlier, rolling over at the top, so 4,294,967,290 then 4 is 10.
unfoldable pub ticks_between : (earlier later : ℕ) → ℕ
ticks_between earlier later = (rollover + later - earlier) % rollover

-- 2026-05: straight after the table's refusals 23, a clock gone back, and 24, over 65,535, both at place 0. Elapsed 0 makes no move: the table as it came, or 21
-- (20 cannot be, since a well-formed table keeps the limits). Else all is as in the step whose move is time by what has elapsed.
unfoldable pub judge_elapsed : (table : List ℕ) → (d room : ℕ) → Result Term
judge_elapsed table d room = do
  t ← judge table
  forbid 23 (place_if (nat_le gone_back d) 0)
  forbid 24 (place_if (nat_lt longest_time d) 0)
  cond (d == 0) (fitted room t) (judge_step table (time d) room)

unfoldable pub judge_ticks : (table : List ℕ) → (earlier later room : ℕ) → Result Term
judge_ticks table earlier later room = judge_elapsed table (ticks_between earlier later) room

-- the reply; the output as it then is
unfoldable pub ticks_reply : (table : List ℕ) → (earlier later : ℕ) → (out : List ℕ) → Reply
ticks_reply table earlier later out = reply_to (judge_ticks table earlier later (length out))

unfoldable pub ticks_output : (table : List ℕ) → (earlier later : ℕ) → (out : List ℕ) → List ℕ
ticks_output table earlier later out = written (judge_ticks table earlier later (length out)) out

-- (for computed checks) to unfold this is to unfold every definition of this file
unfoldable pub open_ticks : Unit {0}
unfolding ticks_between judge_elapsed judge_ticks ticks_reply ticks_output
open_ticks = tt
