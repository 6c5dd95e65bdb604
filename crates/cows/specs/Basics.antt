-- Small tools of the other files: tests on lists, a place that may be missing, and the result of a judgement.
use Rattle.std.specs.Prelude.{Bool, true, false, ◌&&◌, ◌||◌, List, [], ◌∷◌, ℕ, zero, suc, eqb}
use mathlib.Core.Option.{Option, none, some}

infixl 20 ◌>>=◌
infixl 20 ◌>>◌
-- 1 where a test holds, else 0
abbrev pub one_if : Bool → ℕ
one_if true = 1
one_if false = 0

-- some element passes; every element passes
unfoldable pub any : {A : Type 0} → (A → Bool) → List A → Bool
any f [] = false
any f (x ∷ xs) = f x || any f xs

unfoldable pub every : {A : Type 0} → (A → Bool) → List A → Bool
every f [] = true
every f (x ∷ xs) = f x && every f xs

-- the statement P of each element
abbrev pub All : {A : Type 0} → (A → Type 0) → List A → Type 0
All P [] = Unit {0}
All P (x ∷ xs) = P x × All P xs

unfoldable pub member : ℕ → List ℕ → Bool
member a xs = any (eqb a) xs

-- two lists are equal
unfoldable pub same_list : List ℕ → List ℕ → Bool
same_list [] [] = true
same_list [] (y ∷ ys) = false
same_list (x ∷ xs) [] = false
same_list (x ∷ xs) (y ∷ ys) = eqb x y && same_list xs ys

-- the test passes of the value, if there is one; there is a value
unfoldable pub found_with : {A : Type 0} → (A → Bool) → Option A → Bool
found_with f none = false
found_with f (some a) = f a

unfoldable pub found : {A : Type 0} → Option A → Bool
found none = false
found (some a) = true

-- the value, if the test passes; a place, if the test passes; the first of two places
unfoldable pub only : {A : Type 0} → Bool → Option A → Option A
only true o = o
only false o = none

unfoldable pub place_if : Bool → ℕ → Option ℕ
place_if true n = some n
place_if false n = none

unfoldable pub or_else : Option ℕ → Option ℕ → Option ℕ
or_else none q = q
or_else (some p) q = some p

-- the first of the k numbers from n on that passes
unfoldable pub first_from : (ℕ → Bool) → ℕ → ℕ → Option ℕ
first_from f n zero = none
first_from f n (suc k) = or_else (place_if (f n) n) (first_from f (suc n) k)

-- What a judgement gives: a refusal, with its answer and its place, or a value.
pub data Result (A : Type 0) : Type 0 where
  refuse : ℕ → ℕ → Result A
  accept : A → Result A

-- One judgement after the other: the first refusal stands.
unfoldable pub ◌>>=◌ : {A B : Type 0} → Result A → (A → Result B) → Result B
refuse n p >>= k = refuse n p
accept a >>= k = k a

unfoldable pub ◌>>◌ : {B : Type 0} → Result (Unit {0}) → Result B → Result B
refuse n p >> k = refuse n p
accept a >> k = k

-- refused with this answer at the place, if there is one
unfoldable pub forbid : ℕ → Option ℕ → Result (Unit {0})
forbid n none = accept tt
forbid n (some p) = refuse n p

-- refused with this answer and place, if there is no value
unfoldable pub need : {A : Type 0} → ℕ → ℕ → Option A → Result A
need n p none = refuse n p
need n p (some a) = accept a

-- (for computed checks) to unfold this is to unfold every definition of this file
unfoldable pub open_basics : Unit {0}
unfolding any every member same_list found_with found only place_if or_else first_from ◌>>=◌ ◌>>◌ forbid need
open_basics = tt
