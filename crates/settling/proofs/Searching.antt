-- Laws of searching a list (specs/Searching), from its i-th place on: what one turn of a loop knows.
use mathlib.Core.Path.{◌≡◌, refl, ◌∙◌}
use mathlib.Core.Logic.{◌≢◌}
use mathlib.Core.Bool.{Bool, cond}
use mathlib.Core.List.{List, [], ◌∷◌, ◌++◌}
use Prim.Native.Nat.{ℕ, suc, ◌+◌, ◌≤◌, ◌<◌}
use native.Mathlib.Omega.{arith}
use native.Mathlib.Numerals.{add-one}
use lib.Dec.{eqb, ltb}
use lib.ListN.{length, get_or, take, drop}
use lib.Seq.{take-suc, drop-cons, drop-length}
use borrow.Author.Tests.{ltb-true}
use Rattle.cows.specs.Basics.{any}
use Rattle.cows.proofs.Basics.{bool_case}
use Rattle.std.proofs.lemmas.Bool.{ltb-false}
use Rattle.std.specs.Prelude.{position, Option, Some, None}
use Rattle.std.specs.List.{list_any, position_or_len}

-- behind the last place there is none
pub drop-end : (xs : List ℕ) (i : ℕ) → i ≤ length xs → length xs ≤ i → drop i xs ≡ []
drop-end xs i l h = let e : i ≡ length xs = omega arith in rw e (drop-length xs)

-- the i-th place, between those before it and those behind it
module _ (xs : List ℕ) (i : ℕ) {a : ℕ} (l : i < length xs) (at : a ≡ get_or xs i 0) where
  pub drop_here : drop i xs ≡ a ∷ drop (i + 1) xs
  drop_here = drop-cons xs i 0 l ∙ rw (at, add-one i)

  pub take_here : take (i + 1) xs ≡ take i xs ++ (a ∷ [])
  take_here = rw (add-one i) (take-suc xs i 0 l ∙ rw at)

-- whether any passes, in the library's word
pub any_listed : (f : ℕ → Bool) (xs : List ℕ) → any f xs ≡ list_any f xs
unfolding any
any_listed f [] = refl
any_listed f (x ∷ xs) = rw (any_listed f xs)

-- which of the list is p, the first one, from 0 on; the length of the list if none is
unfoldable pub index_of : ℕ → List ℕ → ℕ
index_of p [] = 0
index_of p (q ∷ qs) = cond (eqb p q) 0 (suc (index_of p qs))

index_library : (p : ℕ) (xs : List ℕ) → position_or_len (eqb p) xs ≡ index_of p xs
unfolding index_of
index_library p [] = refl
index_library p (x ∷ xs) = bool_case _ (eqb p x) (λ e. rw e refl) (λ e. rw e (omega (arith, index_library p xs)))

-- what a search for p answers: its index, or that it is not there
pub index_found : (p i : ℕ) (xs : List ℕ) → Some i ≡ position (eqb p) xs → (i ≡ index_of p xs) × (i < length xs)
index_found p i xs h = let a = position_or_len (eqb p) xs in
    bool_case _ (ltb a (length xs))
    (λ e. let g : Some i ≡ Some a = rw e at h in let f : i ≡ a = cc in (f ∙ index_library p xs, omega (arith, ltb-true a (length xs) e)))
    (λ e. let g : Some i ≡ None = rw e at h in absurd cc)

pub index_none : (p : ℕ) (xs : List ℕ) (r : Option ℕ) → ((i : ℕ) → r ≢ Some i) → r ≡ position (eqb p) xs → length xs ≤ index_of p xs
index_none p xs r miss h = let a = position_or_len (eqb p) xs in
    bool_case _ (ltb a (length xs))
    (λ e. absurd (miss a (rw e at h)))
    (λ e. omega (arith, ltb-false a (length xs) e, index_library p xs))
