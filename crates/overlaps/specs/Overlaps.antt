-- Terms that overlap, by their places and their ends.
use mathlib.Core.Option.{Option, none}
use Rattle.std.specs.Prelude.{Bool, ◌||◌, List, [], ◌∷◌, ◌++◌, ℕ, ◌<◌, get_or, length, All}
use Rattle.cows.specs.Basics.{any, place_if, or_else}
use Rattle.settling.specs.Searching.{between}

-- the term at place q is the one at place p or lies inside it, or the other way round
unfoldable pub overlap : (ends : List ℕ) → (p q : ℕ) → Bool
overlap ends p q = between p (get_or ends p 0) q || between q (get_or ends q 0) p

-- which of the places is the first whose term overlaps that of another: `before` are those ahead of the rest
unfoldable pub first_overlap : (ends before behind : List ℕ) → Option ℕ
first_overlap ends before [] = none
first_overlap ends before (p ∷ ps) = or_else (place_if (any (overlap ends p) (before ++ ps)) (length before)) (first_overlap ends (before ++ (p ∷ [])) ps)

abbrev pub AllBefore : ℕ → List ℕ → Type 0
AllBefore n ps = All (λ p. p < n) ps
