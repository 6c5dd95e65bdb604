-- The shape of a table, and lists of some of its places.
use Rattle.std.specs.Prelude.{◌≡◌, cond, List, ℕ, suc, ◌+◌, ◌*◌, ◌/◌, ◌<◌, ◌≤◌, min, max, eqb, length, get_or}
use Rattle.cows.specs.Limits.{max_records, max_depth}
use Rattle.cows.specs.Terms.{Term, depth}
use Rattle.records.specs.Ends.{end_at, EndsFrom}
use Rattle.records.specs.Holds.{Holds}
use Rattle.ranges.specs.Lists.{Listed}

-- the height of a term of c children, by theirs
unfoldable pub pick_height : ℕ → ℕ → ℕ → ℕ
pick_height c a b = cond (eqb c 0) 1 (cond (eqb c 1) (suc a) (suc (max a b)))

-- The masks that a record of c children has for the place behind it, which is its end if it has none, for its first child's number, of which a record with a
-- second child wants the height alone, and for its second child's.
abbrev pub Masks : (c behind first second : ℕ) → Type 0
Masks c behind first second =
    (c ≤ 2) × (behind ≡ cond (eqb c 0) 65535 0) × (first ≡ cond (eqb c 0) 0 (cond (eqb c 1) 4294967295 4294901760)) × (second ≡ cond (eqb c 0) 0 (cond (eqb c 1) 0 4294967295))

-- The kinds of all records are known, and there is room for what is found of them.
pub record Roomy (s ends stack marks users : List ℕ) : Type 0 where
  pub few : length s / 16 ≤ max_records
  pub known : (i : ℕ) → i < length s / 16 → get_or s (16 * i) 0 < 10
  pub end : length s / 16 + 1 < length ends
  pub below : min (length s / 16) max_depth + 1 < length stack
  pub mark : length s / 16 < length marks
  pub user : length s / 16 < length users

-- The records are one term, of height h, at most max_depth; its ends, its m delimitations, and its u kills, invokes and receives.
pub record Shaped (s ends marks users : List ℕ) (h m u : ℕ) : Type 0 where
  pub whole : end_at s 0 ≡ length s / 16
  pub end : EndsFrom s ends 0
  pub height : (t : Term) → Holds s t → depth t ≡ h
  pub low : (t : Term) → Holds s t → depth t ≤ max_depth
  pub mark : Listed s 8 8 marks (length s / 16) m
  pub user : Listed s 1 3 users (length s / 16) u
