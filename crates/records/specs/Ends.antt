-- Where the terms of a table end, by the kinds of its records.
use Rattle.std.specs.Prelude.{◌≡◌, ℕ, suc, ◌+◌, ◌/◌, ◌<◌, ◌≤◌, cond, List, length, get_or, drop, eqb}
use Rattle.cows.specs.Limits.{max_records}
use Rattle.cows.specs.Kinds.{children_of}
use Rattle.cows.specs.Format.{byte, records}
use Rattle.cows.specs.Tables.{end_of}
use Rattle.records.specs.Answers.{place_or}

-- the terms that a record wants behind it; the end of the term at place m, one past the number of records where they run out
abbrev pub wants : List ℕ → ℕ
wants b = children_of (byte b 0)

unfoldable pub end_at : List ℕ → ℕ → ℕ
end_at s m = place_or (suc (length s / 16)) (end_of wants 1 m (drop m (records s)))

unfoldable pub pick_end : ℕ → ℕ → ℕ → ℕ → ℕ
pick_end c x a b = cond (eqb c 0) x (cond (eqb c 1) a b)

-- `ends` has the end of the term at each place from i on, and one past the last place behind them.
pub record EndsFrom (s ends : List ℕ) (i : ℕ) : Type 0 where
  pub few : length s / 16 ≤ max_records
  pub room : length s / 16 + 1 < length ends
  pub end : (m : ℕ) → i ≤ m → m ≤ length s / 16 + 1 → get_or ends m 0 ≡ end_at s m
