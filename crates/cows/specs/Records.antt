-- The records of a term around a place, and those of variables that take their values: definitions for contracts on tables. No rule rests on them.
use Rattle.std.specs.Prelude.{◌≡◌, Bool, false, cond, ℕ, zero, suc, ◌+◌, ◌<◌, max}
use mathlib.Core.List.{List, [], ◌∷◌, ◌++◌, flat_map}
use Rattle.cows.specs.Basics.{any}
use Rattle.cows.specs.Terms.{Term, size, delimits_atom, delimits_at}
use Rattle.cows.specs.Places.{Frame, inside, left_of, right_of, Way, way_to, sub}
use Rattle.cows.specs.Kinds.{Node, basic, prefix, join}
use Rattle.cows.specs.Format.{nodes}
use Rattle.cows.specs.Moves.{Substitution, map_node, image}

-- At place n of t stands s, and w is the way to it.
abbrev pub At : Term → ℕ → Way → Term → Type 0
At t n w s = (n < size t) × (sub t n ≡ s) × (way_to t n ≡ w)

-- the records of a frame ahead of the child on the way, and behind it
unfoldable pub opens : Frame → List Node
opens (inside u) = prefix u ∷ []
opens (left_of j t) = join j ∷ []
opens (right_of j s) = join j ∷ nodes s

unfoldable pub closes : Frame → List Node
closes (inside u) = []
closes (left_of j t) = nodes t
closes (right_of j s) = []

-- the records of a table ahead of the place at the end of a way, and behind what stands there
unfoldable pub ahead : Way → List Node
ahead [] = []
ahead (f ∷ w) = ahead w ++ opens f

unfoldable pub behind : Way → List Node
behind [] = []
behind (f ∷ w) = closes f ++ behind w

-- the farthest end of a delimitation of a among the places below j
unfoldable pub reach_of : Term → ℕ → ℕ → ℕ
reach_of t a zero = 0
reach_of t a (suc j) = cond (delimits_at a (sub t j)) (max (reach_of t a j) (j + size (sub t j))) (reach_of t a j)

-- the record is a delimitation of d
unfoldable pub node_delimits : ℕ → Node → Bool
node_delimits d (basic x) = false
node_delimits d (prefix u) = delimits_atom d u
node_delimits d (join j) = false

-- one record when the variables of σ take their values: a delimitation of one of them goes, in every other record each is replaced
unfoldable pub bind_node : Substitution → Node → List Node
bind_node σ n = cond (any (λ (p : ℕ × ℕ). node_delimits p.0 n) σ) [] (map_node (image σ) n ∷ [])

-- the same of each record, one behind the other
abbrev pub bound_nodes : Substitution → List Node → List Node
bound_nodes σ ns = flat_map (bind_node σ) ns
