-- Ticks as the code takes them: those that are the time of a move, and those that make no move, with their refusal and what is answered with it.
use Rattle.std.specs.Prelude.{ℕ, Bool, cond, ◌&&◌, List, Option, Some, None, nat_le, nat_lt}
use Rattle.cows.specs.Basics.{Result, refuse, ◌>>=◌}
use Rattle.cows.specs.Terms.{Term}
use Rattle.cows.specs.Tables.{judge}
use Rattle.cows.specs.Step.{fitted}
use Rattle.ticks.specs.Ticks.{gone_back, longest_time}

-- 1 to 65,535
abbrev pub is_time : ℕ → Bool
is_time d = nat_lt 0 d && nat_le d longest_time

-- 23, 24, or none
abbrev pub refused_with : ℕ → Option ℕ
refused_with d = cond (nat_le gone_back d) (Some 23) (cond (nat_lt longest_time d) (Some 24) None)

-- the ticks' refusal, or the table as it came, or 21
abbrev pub unmoved : Option ℕ → (room : ℕ) → Term → Result Term
unmoved None room t = fitted room t
unmoved (Some n) room t = refuse n 0

-- the table's refusals first
unfoldable pub judge_unmoved : Option ℕ → List ℕ → (room : ℕ) → Result Term
judge_unmoved n table room = do
  t ← judge table
  unmoved n room t
