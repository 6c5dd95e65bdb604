-- What cutting a choice out of a table asks of the numbers.
use Rattle.std.specs.Prelude.{◌≡◌, List, ◌++◌, ℕ, ◌+◌, ◌*◌, ◌-◌, ◌/◌, ◌≤◌, ◌<◌, length, get_or, take, drop}
use Rattle.cows.specs.Limits.{max_records}

-- The prefix at place a stands inside the choice at place `from`, in a table of n records.
pub record Span (ends : List ℕ) (n a from : ℕ) : Type 0 where
  pub few : n ≤ max_records
  pub low : from ≤ a
  pub inside : a < n
  pub room : n ≤ length ends
  pub some : a < get_or ends a 0
  pub inner : get_or ends a 0 ≤ get_or ends from 0
  pub outer : get_or ends from 0 ≤ n

-- What is left of a table of whole records fits an output.
pub record Room (s ends : List ℕ) (a from : ℕ) (out : List ℕ) : Type 0 where
  pub whole : length s ≡ 16 * (length s / 16)
  pub fits : 16 * from + 16 * (get_or ends a 0 - a - 1) + (length s - 16 * get_or ends from 0) ≤ length out

-- the bytes ahead of the choice, those of the continuation, and those behind the choice
unfoldable pub cut_of : (s ends : List ℕ) (a from : ℕ) → List ℕ
cut_of s ends a from = take (16 * from) s ++ (take (16 * (get_or ends a 0 - a - 1)) (drop (16 * (a + 1)) s) ++ drop (16 * get_or ends from 0) s)
