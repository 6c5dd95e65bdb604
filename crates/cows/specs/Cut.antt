-- Records of one width in a list of bytes, whatever they are records of: cut out of it, and the first that fails a test. Tables, moves and replies are instances.
-- (Written one behind the other, they are `flat_map write`.)
use Rattle.std.specs.Prelude.{Bool, not, ℕ, zero, suc, ◌/◌, length, take, drop}
use mathlib.Core.List.{List, [], ◌∷◌, flat_map}
use mathlib.Core.Option.{Option, none}
use Rattle.cows.specs.Basics.{place_if, or_else}

-- n pieces of w bytes; as many as there are whole ones
unfoldable pub pieces : ℕ → ℕ → List ℕ → List (List ℕ)
pieces w zero b = []
pieces w (suc n) b = take w b ∷ pieces w n (drop w b)

unfoldable pub cut : ℕ → List ℕ → List (List ℕ)
cut w b = pieces w (length b / w) b

-- the place of the first that fails the test, where they are counted from n on
unfoldable pub first_failing : {A : Type 0} → (A → Bool) → ℕ → List A → Option ℕ
first_failing test n [] = none
first_failing test n (b ∷ bs) = or_else (place_if (not (test b)) n) (first_failing test (suc n) bs)

-- (for computed checks) to unfold this is to unfold every definition of this file
unfoldable pub open_cut : Unit {0}
unfolding flat_map pieces cut first_failing
open_cut = tt
