-- The ends of a table whose choice at place `from` becomes the continuation of the prefix at place a: what cutting them asks and gives.
use Rattle.std.specs.Prelude.{◌≡◌, cond, List, ℕ, ◌+◌, ◌-◌, ◌≤◌, ◌<◌, ltb, length, get_or}
use Rattle.cows.specs.Limits.{max_records}
use Rattle.plans.specs.Cutting.{Span}

-- The ends at the places ahead of `from` can be lowered where they lie behind it; up to place i they are.
pub record Around (ends : List ℕ) (from by : ℕ) : Type 0 where
  pub few : from ≤ max_records
  pub less : by ≤ max_records
  pub room : from ≤ length ends
  pub high : (k : ℕ) → k < from → from < get_or ends k 0 → by ≤ get_or ends k 0

pub record LoweredAround (ends : List ℕ) (from by i : ℕ) (ends' : List ℕ) : Type 0 where
  pub done : (k : ℕ) → k < i → get_or ends' k 0 ≡ cond (ltb from (get_or ends k 0)) (get_or ends k 0 - by) (get_or ends k 0)
  pub left : (k : ℕ) → i ≤ k → get_or ends' k 0 ≡ get_or ends k 0

-- The ends from `low` up to `high` can be those of the places that are `by` higher, lowered by as much; they are.
pub record Lowers (ends : List ℕ) (low high by : ℕ) : Type 0 where
  pub order : low ≤ high
  pub few : high ≤ max_records + 2
  pub less : by ≤ max_records
  pub room : high + by ≤ length ends
  pub later : (k : ℕ) → low ≤ k → k < high → by ≤ get_or ends (k + by) 0

pub record Lowered (ends : List ℕ) (low high by : ℕ) (ends' : List ℕ) : Type 0 where
  pub before : (k : ℕ) → k < low → get_or ends' k 0 ≡ get_or ends k 0
  pub within : (k : ℕ) → low ≤ k → k < high → get_or ends' k 0 ≡ get_or ends (k + by) 0 - by
  pub behind : (k : ℕ) → high ≤ k → get_or ends' k 0 ≡ get_or ends k 0

-- The records that go ahead of the continuation, and all that go.
abbrev pub inner_of : ℕ → ℕ → ℕ
inner_of a from = a + 1 - from

abbrev pub outer_of : List ℕ → ℕ → ℕ → ℕ
outer_of ends a from = inner_of a from + (get_or ends from 0 - get_or ends a 0)

-- The choice and the prefix in it, in a table of n records: no end lies ahead of its place, and one behind the choice's place is none ahead of the choice's end.
pub record CutsEnds (ends : List ℕ) (n a from : ℕ) : Type 0 where
  pub span : Span ends n a from
  pub room : n + 1 < length ends
  pub later : (k : ℕ) → k ≤ n + 1 → k ≤ get_or ends k 0
  pub around : (k : ℕ) → k < from → from < get_or ends k 0 → get_or ends from 0 ≤ get_or ends k 0

pub record EndsCut (ends : List ℕ) (n a from : ℕ) (ends' : List ℕ) : Type 0 where
  pub ahead : (k : ℕ) → k < from → get_or ends' k 0 ≡ cond (ltb from (get_or ends k 0)) (get_or ends k 0 - outer_of ends a from) (get_or ends k 0)
  pub within : (k : ℕ) → from ≤ k → k < get_or ends a 0 - inner_of a from → get_or ends' k 0 ≡ get_or ends (k + inner_of a from) 0 - inner_of a from
  pub behind : (k : ℕ) → get_or ends a 0 - inner_of a from ≤ k → k < n + 2 - outer_of ends a from → get_or ends' k 0 ≡ get_or ends (k + outer_of ends a from) 0 - outer_of ends a from
