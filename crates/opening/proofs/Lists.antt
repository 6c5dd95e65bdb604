-- Laws of the list tools of specs/Opening: what is in a list, how long it is, a list by its parts, and lists that ascend.
use mathlib.Core.Path.{◌≡◌, refl, sym, ap, subst, ◌∙◌}
use mathlib.Core.Logic.{◌⊎◌, inl, inr, ⊎_elim}
use mathlib.Core.Bool.{Bool, true, false, cond}
use mathlib.Core.List.{List, [], ◌∷◌, ◌++◌, map, flat_map}
use Prim.Native.Nat.{ℕ, zero, suc, ◌+◌, ◌*◌, ◌≤◌, ◌<◌}
use native.Mathlib.Omega.{arith}
use lib.Dec.{eqb}
use lib.ListN.{length, length-append, length-map}
use borrow.Author.Tests.{eqb-true, eq-eqb}
use Rattle.cows.specs.Basics.{same_list}
use Rattle.cows.proofs.Basics.{never, cond_case, cond_case₂, lt_case, and_true, true_and, not_so}
use Rattle.opening.specs.Opening.{up_from, filter, each, IsIn, Ascending, count}

-- What is in a list.
pub in_append : {A : Type 0} (x : A) (xs ys : List A) → IsIn x (xs ++ ys) → IsIn x xs ⊎ IsIn x ys
in_append x [] ys h = inr h
in_append x (z ∷ xs) ys (inl e) = inl (inl e)
in_append x (z ∷ xs) ys (inr h) = ⊎_elim (λ p. inl (inr p)) (λ q. inr q) (in_append x xs ys h)

pub in_left : {A : Type 0} (x : A) (xs ys : List A) → IsIn x xs → IsIn x (xs ++ ys)
in_left x [] ys h = absurd h
in_left x (z ∷ xs) ys (inl e) = inl e
in_left x (z ∷ xs) ys (inr h) = inr (in_left x xs ys h)

pub in_right : {A : Type 0} (x : A) (xs ys : List A) → IsIn x ys → IsIn x (xs ++ ys)
in_right x [] ys h = h
in_right x (z ∷ xs) ys h = inr (in_right x xs ys h)

pub in_map : {A B : Type 0} (f : A → B) (y : B) (xs : List A) → IsIn y (map f xs) → (x : A) × IsIn x xs × (y ≡ f x)
in_map f y [] h = absurd h
in_map f y (x ∷ xs) (inl e) = (x, inl refl, e)
in_map f y (x ∷ xs) (inr h) = let (z, p, e) = in_map f y xs h in (z, inr p, e)

pub map_in : {A B : Type 0} (f : A → B) (x : A) (xs : List A) → IsIn x xs → IsIn (f x) (map f xs)
map_in f x [] h = absurd h
map_in f x (y ∷ xs) (inl e) = inl (ap f e)
map_in f x (y ∷ xs) (inr h) = inr (map_in f x xs h)

pub in_filter : {A : Type 0} (f : A → Bool) (x : A) (xs : List A) → IsIn x (filter f xs) → IsIn x xs × (f x ≡ true)
unfolding filter
in_filter f x [] h = absurd h
in_filter f x (y ∷ xs) h = go (f y) refl (in_filter f x xs) h
  where
    go : (b : Bool) → f y ≡ b → (IsIn x (filter f xs) → IsIn x xs × (f x ≡ true)) → IsIn x (cond b (y ∷ filter f xs) (filter f xs)) → IsIn x (y ∷ xs) × (f x ≡ true)
    go true e r (inl p) = (inl p, ap f p ∙ e)
    go true e r (inr h) = let (p, q) = r h in (inr p, q)
    go false e r h = let (p, q) = r h in (inr p, q)

pub filter_in : {A : Type 0} (f : A → Bool) (x : A) (xs : List A) → IsIn x xs → f x ≡ true → IsIn x (filter f xs)
unfolding filter
filter_in f x [] h e = absurd h
filter_in f x (y ∷ xs) (inl p) e = rw (ap f (sym p) ∙ e) (inl p)
filter_in f x (y ∷ xs) (inr h) e = cond_case (λ l. IsIn x l) (f y) (λ _. inr (filter_in f x xs h e)) (λ _. filter_in f x xs h e)

pub in_each : {A B : Type 0} (f : A → List B) (y : B) (xs : List A) → IsIn y (each f xs) → (x : A) × IsIn x xs × IsIn y (f x)
unfolding flat_map
in_each f y [] h = absurd h
in_each f y (x ∷ xs) h =
    ⊎_elim (λ p. (x, inl refl, p)) (λ q. let (z, p, e) = in_each f y xs q in (z, inr p, e)) (in_append y (f x) (each f xs) h)

pub each_in : {A B : Type 0} (f : A → List B) (y : B) (x : A) (xs : List A) → IsIn x xs → IsIn y (f x) → IsIn y (each f xs)
unfolding flat_map
each_in f y x [] h k = absurd h
each_in f y x (z ∷ xs) (inl e) k = in_left y (f z) (each f xs) (subst (λ w. IsIn y (f w)) e k)
each_in f y x (z ∷ xs) (inr h) k = in_right y (f z) (each f xs) (each_in f y x xs h k)

pub in_up_from : (x n k : ℕ) → IsIn x (up_from n k) → (n ≤ x) × (x < n + k)
unfolding up_from
in_up_from x n zero h = absurd h
in_up_from x n (suc k) (inl e) = (omega arith, omega arith)
in_up_from x n (suc k) (inr h) = let (p, q) = in_up_from x (suc n) k h in (omega arith, omega arith)

pub up_from_in : (x n k : ℕ) → n ≤ x → x < n + k → IsIn x (up_from n k)
unfolding up_from
up_from_in x n zero h l = absurd (omega arith)
up_from_in x n (suc k) h l = lt_case (IsIn x (n ∷ up_from (suc n) k)) n x (λ m. inr (up_from_in x (suc n) k (omega arith) (omega arith))) (λ m. inl (omega arith))

-- How long it is.
pub length_up_from : (n k : ℕ) → length (up_from n k) ≡ k
unfolding up_from
length_up_from n zero = refl
length_up_from n (suc k) = ap suc (length_up_from (suc n) k)

pub length-filter : {A : Type 0} (f : A → Bool) (xs : List A) → length (filter f xs) ≤ length xs
unfolding filter
length-filter f [] = omega arith
length-filter {A} f (x ∷ xs) =
    let r = length-filter f xs in
    cond_case (λ (l : List A). length l ≤ suc (length xs)) (f x) {x = x ∷ filter f xs} {y = filter f xs} (λ _. omega arith) (λ _. omega arith)

pub length-each : {A B : Type 0} (f : A → List B) (n : ℕ) (xs : List A) → ((x : A) → length (f x) ≡ n) → length (each f xs) ≡ length xs * n
unfolding flat_map
length-each f n [] h = omega arith
length-each f n (x ∷ xs) h = length-append (f x) (each f xs) ∙ (rw (h x, length-each f n xs h) (step (length xs) n))
  where
    step : (k n : ℕ) → n + k * n ≡ suc k * n
    step k n = omega arith

-- fewer pass a stronger test
filter_weaker : {A : Type 0} (f g : A → Bool) → ((x : A) → f x ≡ true → g x ≡ true) → (xs : List A) → length (filter f xs) ≤ length (filter g xs)
unfolding filter
filter_weaker f g h [] = omega arith
filter_weaker f g h (x ∷ xs) = go (f x) (g x) (h x) (filter_weaker f g h xs)
  where
    go : (b c : Bool) → (b ≡ true → c ≡ true) → length (filter f xs) ≤ length (filter g xs) → length (cond b (x ∷ filter f xs) (filter f xs)) ≤ length (cond c (x ∷ filter g xs) (filter g xs))
    go true true k r = omega arith
    go true false k r = never (k refl)
    go false true k r = omega arith
    go false false k r = r

none_pass : {A : Type 0} (f : A → Bool) → ((x : A) → f x ≡ false) → (xs : List A) → filter f xs ≡ []
unfolding filter
none_pass f h [] = refl
none_pass f h (x ∷ xs) = rw (h x) (none_pass f h xs)

-- Pairs that pass a test of both are no more than the pairs of those that pass a test of their own, whatever is made of them.
module _ {A : Type 0} (f : ℕ → ℕ → Bool) (p q : ℕ → Bool) (both : (a b : ℕ) → f a b ≡ true → (p a ≡ true) × (q b ≡ true)) (g : ℕ → ℕ → A) where
  pub few_pairs : (xs ys : List ℕ) → length (each (λ a. map (g a) (filter (f a) ys)) xs) ≤ length (filter p xs) * length (filter q ys)
  unfolding flat_map filter
  few_pairs [] ys = omega arith
  few_pairs (x ∷ xs) ys = go (p x) refl (few_pairs xs ys)
    where
      here : List A
      here = map (g x) (filter (f x) ys)

      rest : List A
      rest = each (λ a. map (g a) (filter (f a) ys)) xs

      go : (b : Bool) → p x ≡ b → length rest ≤ length (filter p xs) * length (filter q ys) → length (here ++ rest) ≤ length (cond b (x ∷ filter p xs) (filter p xs)) * length (filter q ys)
      go true e r = omega (arith, length-append here rest, length-map (filter (f x) ys) (g x), filter_weaker (f x) q (λ b k. (both x b k).1) ys)
      go false e r = rw (none_pass (f x) (λ b. not_so (λ k. never (sym e ∙ (both x b k).0))) ys) r

-- A list by its parts; a list by another test, or other parts, that agree.
pub up_more : (n k : ℕ) → up_from n (suc k) ≡ up_from n k ++ ((n + k) ∷ [])
unfolding up_from
up_more n zero = let z : n ≡ n + 0 = omega arith in ap (λ i. i ∷ []) z
up_more n (suc k) = let z : suc n + k ≡ n + suc k = omega arith in ap (λ l. n ∷ l) (up_more (suc n) k ∙ ap (λ i. up_from (suc n) k ++ (i ∷ [])) z)

pub filter_append : {A : Type 0} (f : A → Bool) (xs ys : List A) → filter f (xs ++ ys) ≡ filter f xs ++ filter f ys
unfolding filter
filter_append f [] ys = refl
filter_append f (x ∷ xs) ys = let r = filter_append f xs ys in cond_case₂ (λ l m. l ≡ m ++ filter f ys) (f x) (λ _. ap (λ l. x ∷ l) r) (λ _. r)

pub filter_map : {A B : Type 0} (f : B → Bool) (g : A → B) (xs : List A) → filter f (map g xs) ≡ map g (filter (λ x. f (g x)) xs)
unfolding filter
filter_map f g [] = refl
filter_map f g (x ∷ xs) = let r = filter_map f g xs in cond_case₂ (λ l m. l ≡ map g m) (f (g x)) (λ _. ap (λ l. g x ∷ l) r) (λ _. r)

pub filter-each : {A B C : Type 0} (f : B → Bool) (g : A → C → B) (ys : List C) (xs : List A)
    → filter f (each (λ x. map (g x) ys) xs) ≡ each (λ x. map (g x) (filter (λ y. f (g x y)) ys)) xs
unfolding flat_map
filter-each f g ys [] = unfold filter in refl
filter-each f g ys (x ∷ xs) = filter_append f (map (g x) ys) (each (λ x. map (g x) ys) xs) ∙ rw (filter_map f (g x) ys, filter-each f g ys xs)

pub each_ext : {A B : Type 0} (f g : A → List B) → ((x : A) → f x ≡ g x) → (xs : List A) → each f xs ≡ each g xs
unfolding flat_map
each_ext f g h [] = refl
each_ext f g h (x ∷ xs) = rw (h x, each_ext f g h xs)

-- Lists that ascend.
module _ {A : Type 0} (key : A → ℕ) where
  pub ascending_append : (xs ys : List A) → Ascending key xs → Ascending key ys → ((x y : A) → IsIn x xs → IsIn y ys → key x < key y) → Ascending key (xs ++ ys)
  ascending_append [] ys h k f = k
  ascending_append (x ∷ xs) ys (l, h) k f =
      ((λ y p. ⊎_elim (λ q. l y q) (λ q. f x y (inl refl) q) (in_append y xs ys p)), ascending_append xs ys h k (λ z y p q. f z y (inr p) q))

  pub ascending_filter : (f : A → Bool) (xs : List A) → Ascending key xs → Ascending key (filter f xs)
  unfolding filter
  ascending_filter f [] h = h
  ascending_filter f (x ∷ xs) (l, h) =
      cond_case (λ z. Ascending key z) (f x) (λ _. ((λ y p. l y (in_filter f y xs p).0), ascending_filter f xs h)) (λ _. ascending_filter f xs h)

  pub ascending_map : {B : Type 0} (f : B → A) (xs : List B) → Ascending (λ x. key (f x)) xs → Ascending key (map f xs)
  ascending_map f [] h = h
  ascending_map f (x ∷ xs) (l, h) = ((λ y p. let (z, q, e) = in_map f y xs p in rw e (l z q)), ascending_map f xs h)

  pub ascending_each : (f : ℕ → List A) (n k : ℕ) → ((x : ℕ) → Ascending key (f x)) → ((x y : ℕ) (u v : A) → x < y → IsIn u (f x) → IsIn v (f y) → key u < key v) → Ascending key (each f (up_from n k))
  unfolding flat_map up_from
  ascending_each f n zero h g = tt
  ascending_each f n (suc k) h g =
      ascending_append (f n) (each f (up_from (suc n) k)) (h n) (ascending_each f (suc n) k h g)
      (λ u v p q. let (y, r, s) = in_each f v (up_from (suc n) k) q in g n y u v (omega (arith, in_up_from y (suc n) k r)) p s)

pub ascending_up_from : (key : ℕ → ℕ) → ((x y : ℕ) → x < y → key x < key y) → (n k : ℕ) → Ascending key (up_from n k)
unfolding up_from
ascending_up_from key h n zero = tt
ascending_up_from key h n (suc k) = ((λ y p. h n y (omega (arith, in_up_from y (suc n) k p))), ascending_up_from key h (suc n) k)

-- in a list that ascends, each element stands once
same_eq : (m x : List ℕ) → same_list m x ≡ true → m ≡ x
unfolding same_list
same_eq [] [] e = refl
same_eq [] (y ∷ x) e = never e
same_eq (z ∷ m) [] e = never e
same_eq (z ∷ m) (y ∷ x) e = let (p, q) = and_true (eqb z y) (same_list m x) e in rw (eqb-true z y p, same_eq m x q)

same_refl : (m : List ℕ) → same_list m m ≡ true
unfolding same_list
same_refl [] = refl
same_refl (x ∷ m) = true_and (eq-eqb x x refl) (same_refl m)

absent : (m : List ℕ) (xs : List (List ℕ)) → (IsIn m xs → ⊥) → count (same_list m) xs ≡ 0
unfolding filter
absent m [] h = refl
absent m (x ∷ xs) h = cond_case (λ (l : List (List ℕ)). length l ≡ 0) (same_list m x) (λ e. absurd (h (inl (same_eq m x e)))) (λ _. absent m xs (λ p. h (inr p)))

pub once : (key : List ℕ → ℕ) (m : List ℕ) (xs : List (List ℕ)) → Ascending key xs → IsIn m xs → count (same_list m) xs ≡ 1
unfolding filter
once key m [] h p = absurd p
once key m (x ∷ xs) (l, h) (inl p) =
    rw (ap (same_list m) (sym p) ∙ same_refl m) (ap suc (absent m xs (λ q. let z = l m q in let y : key m ≡ key x = ap key p in omega arith)))
once key m (x ∷ xs) (l, h) (inr p) =
    cond_case (λ (l : List (List ℕ)). length l ≡ 1) (same_list m x) (λ e. absurd (let z = l m p in let y : key m ≡ key x = ap key (same_eq m x e) in omega arith)) (λ _. once key m xs h p)

-- two lists that ascend and have the same elements are equal
module _ {A : Type 0} (key : A → ℕ) where
  heads : (x y : A) (xs ys : List A) → ((z : A) → IsIn z xs → key x < key z) → ((z : A) → IsIn z ys → key y < key z) → IsIn x (y ∷ ys) → IsIn y (x ∷ xs) → x ≡ y
  heads x y xs ys f g (inl e) q = e
  heads x y xs ys f g (inr p) (inl e) = sym e
  heads x y xs ys f g (inr p) (inr q) = absurd (let u = f y q in let v = g x p in omega arith)

  tails : (x y z : A) (xs ys : List A) → x ≡ y → ((z : A) → IsIn z xs → key x < key z) → IsIn z xs → IsIn z (y ∷ ys) → IsIn z ys
  tails x y z xs ys e f p (inl q) = absurd (let u = f z p in let v : key z ≡ key x = ap key (q ∙ sym e) in omega arith)
  tails x y z xs ys e f p (inr q) = q

  pub ascending_unique : (xs ys : List A) → Ascending key xs → Ascending key ys → ((z : A) → IsIn z xs → IsIn z ys) → ((z : A) → IsIn z ys → IsIn z xs) → xs ≡ ys
  ascending_unique [] [] h k f g = refl
  ascending_unique [] (y ∷ ys) h k f g = absurd (g y (inl refl))
  ascending_unique (x ∷ xs) [] h k f g = absurd (f x (inl refl))
  ascending_unique (x ∷ xs) (y ∷ ys) (l, h) (m, k) f g =
      let e = heads x y xs ys l m (f x (inl refl)) (g y (inl refl)) in
      let r = ascending_unique xs ys h k (λ z p. tails x y z xs ys e l p (f z (inr p))) (λ z p. tails y x z ys xs (sym e) m p (g z (inr p))) in
      cc
