-- The depth of the term at a place, and the first record in it that is too deep.
use Rattle.std.specs.Prelude.{List, ℕ, ◌+◌, ◌*◌, ◌/◌, ◌<◌, ltb, length}
use mathlib.Core.Option.{Option}
use Rattle.cows.specs.Limits.{max_depth}
use Rattle.cows.specs.Basics.{place_if, or_else}
use Rattle.cows.specs.Terms.{Term, leaf, under, both, size}
use Rattle.records.specs.Ends.{EndsFrom}
use Rattle.records.specs.Rewrites.{StandsIn}

-- Some term stands at place i of s, and the ends of terms are at hand. The other fields follow; they are here for `omega`.
pub record Standing (s ends : List ℕ) (i : ℕ) : Type 0 where
  pub term : Term
  pub stands : StandsIn s (16 * i) term
  pub end : EndsFrom s ends 0
  pub inside : i < length s / 16

-- the first record that is too deep, in a term whose first record stands at a place and has the depth d
unfoldable pub deep_in : ℕ → ℕ → Term → Option ℕ
deep_in d at (leaf x) = place_if (ltb max_depth d) at
deep_in d at (under u t) = or_else (place_if (ltb max_depth d) at) (deep_in (d + 1) (at + 1) t)
deep_in d at (both j l r) = or_else (place_if (ltb max_depth d) at) (or_else (deep_in (d + 1) (at + 1) l) (deep_in (d + 1) (at + 1 + size l) r))
