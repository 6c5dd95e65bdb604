-- Searches from a place on (roles, specs/Roles, first_of), one record more in its chain, and the walk along a chain.
use mathlib.Core.Path.{◌≡◌, refl, sym, ap, ◌∙◌}
use mathlib.Core.Logic.{◌≢◌}
use mathlib.Core.Bool.{Bool, true, false, cond}
use mathlib.Core.List.{List}
use mathlib.Core.Option.{Option, none, some}
use Prim.Native.Nat.{ℕ, zero, suc, ◌+◌, ◌-◌, ◌≤◌, ◌<◌}
use native.Mathlib.Omega.{arith}
use native.Mathlib.Numerals.{add-one}
use lib.Dec.{eqb}
use lib.ListN.{length, get_or, set}
use lib.Seq.{get_or-set_same, get_or-set_other}
use borrow.Author.Tests.{eqb-true, eq-eqb, ne_eqb}
use Rattle.cows.specs.Basics.{place_if, or_else, first_from}
use Rattle.cows.proofs.Basics.{clash, and_none, and_true, true_and, eq_case, lt_case, same_some, from_next, from_end, from_skip}
use Rattle.roles.specs.Roles.{after, first_of}
use Rattle.chains.specs.Chains.{Blank, in_class, Chained}

-- a search from place i on among n places: the place passes, or not; none is left
module _ (f : ℕ → Bool) (n i : ℕ) where
  pub hit : i < n → f i ≡ true → first_of f n i ≡ suc i
  unfolding first_of place_if or_else after
  hit l e = let q : or_else (place_if (f i) i) (first_from f (i + 1) (n - (i + 1))) ≡ some i = rw e in ap after (from_next f i n l ∙ q)

  pub miss : i < n → f i ≡ false → first_of f n i ≡ first_of f n (i + 1)
  unfolding first_of place_if or_else
  miss l e = let q : or_else (place_if (f i) i) (first_from f (i + 1) (n - (i + 1))) ≡ first_from f (i + 1) (n - (i + 1)) = rw e in ap after (from_next f i n l ∙ q)

  pub ended : n ≤ i → first_of f n i ≡ 0
  unfolding first_of after
  ended l = ap after (from_end f i n l)

  pub skip_to : (m : ℕ) → i ≤ m → m ≤ n → ((j : ℕ) → i ≤ j → j < m → f j ≡ false) → first_of f n i ≡ first_of f n m
  unfolding first_of
  skip_to m h l g = ap after (from_skip f i m n h l g)

-- what is found: it is at i or behind it, one of the places, passes, and is the first
pub record FirstAt (f : ℕ → Bool) (n i q : ℕ) : Type 0 where
  pub behind : i ≤ q
  pub inside : q < n
  pub passes : f q ≡ true
  pub before : (j : ℕ) → i ≤ j → j < q → f j ≡ false

module _ (f : ℕ → Bool) where
  found_from : (n k p : ℕ) → first_from f n k ≡ some p → FirstAt f (n + k) n p
  unfolding first_from place_if or_else
  found_from n zero p e = absurd (let z : ◌≡◌ {A = ℕ} 0 1 = cc in omega arith)
  found_from n (suc k) p e = go (f n) refl (found_from (suc n) k p) e
    where
      go : (b : Bool) → f n ≡ b → (first_from f (suc n) k ≡ some p → FirstAt f (suc n + k) (suc n) p) → or_else (place_if b n) (first_from f (suc n) k) ≡ some p → FirstAt f (n + suc k) n p
      go true q r e = let z : n ≡ p = same_some e in record { behind = omega arith; inside = omega arith; passes = ap f (sym z) ∙ q; before = λ j h l. absurd (omega arith) }
      go false q r e =
          let x = r e in
          record {
            behind = omega (arith, x.behind);
            inside = omega (arith, x.inside);
            passes = x.passes;
            before = λ j u v. lt_case (f j ≡ false) n j (λ y. x.before j (omega arith) v) (λ y. let z : j ≡ n = omega arith in ap f z ∙ q);
          }

  none_from : (n k : ℕ) → first_from f n k ≡ none → (j : ℕ) → n ≤ j → j < n + k → f j ≡ false
  unfolding first_from place_if or_else
  none_from n zero e j h l = absurd (omega arith)
  none_from n (suc k) e j h l = go (f n) refl (none_from (suc n) k) e
    where
      go : (b : Bool) → f n ≡ b → (first_from f (suc n) k ≡ none → (j : ℕ) → suc n ≤ j → j < suc n + k → f j ≡ false) → or_else (place_if b n) (first_from f (suc n) k) ≡ none → f j ≡ false
      go true q r e = absurd (let z : ◌≡◌ {A = ℕ} 0 1 = cc in omega arith)
      go false q r e = lt_case (f j ≡ false) n j (λ x. r e j (omega arith) (omega arith)) (λ x. let z : j ≡ n = omega arith in ap f z ∙ q)

  pub some_of : (n i q : ℕ) → first_of f n i ≡ suc q → FirstAt f n i q
  unfolding first_of after
  some_of n i q e = go (first_from f i (n - i)) refl e
    where
      go : (o : Option ℕ) → first_from f i (n - i) ≡ o → after o ≡ suc q → FirstAt f n i q
      go none h e = absurd (omega arith)
      go (some p) h e =
          let x = found_from i (n - i) p h in
          let k : p ≡ q = omega arith in
          record { behind = omega (arith, x.behind); inside = omega (arith, x.behind, x.inside); passes = ap f (sym k) ∙ x.passes; before = λ j u v. x.before j u (omega arith) }

  pub none_of : (n i : ℕ) → first_of f n i ≡ 0 → (j : ℕ) → i ≤ j → j < n → f j ≡ false
  unfolding first_of after
  none_of n i e j h l = go (first_from f i (n - i)) refl e
    where
      go : (o : Option ℕ) → first_from f i (n - i) ≡ o → after o ≡ 0 → f j ≡ false
      go none q e = none_from i (n - i) q j h (omega arith)
      go (some p) q e = absurd (omega arith)

module _ (f : ℕ → Bool) (class : ℕ → ℕ) (n : ℕ) where
  in_class_lem : (c i : ℕ) → f i ≡ true → class i ≡ c → in_class f class c i ≡ true
  unfolding in_class
  in_class_lem c i e q = true_and e (eq-eqb _ _ q)

  pub class_in : (c i : ℕ) → in_class f class c i ≡ true → (f i ≡ true) × (class i ≡ c)
  unfolding in_class
  class_in c i e = let (p, q) = and_true (f i) _ e in (p, eqb-true _ _ q)

  fails_class : (c i : ℕ) → f i ≡ false → in_class f class c i ≡ false
  unfolding in_class
  fails_class c i e = rw e

  other_class : (c i : ℕ) → class i ≢ c → in_class f class c i ≡ false
  unfolding in_class
  other_class c i e = rw (ne_eqb (class i) c e) (and_none (f i))

  -- building
  pub chained_start : (heads next : List ℕ) → Blank heads → Chained f class n heads next n
  chained_start heads next b = record { first = λ c l. b c ∙ sym (ended (in_class f class c) n n (omega arith)); then = λ j h l e. absurd (omega arith) }

  module _ (heads next : List ℕ) (i : ℕ) (l : i < n) (h : Chained f class n heads next (i + 1)) where
    pub chained_other : f i ≡ false → Chained f class n heads next i
    chained_other e = record {
      first = λ c m. h.first c m ∙ sym (miss (in_class f class c) n i l (fails_class c i e));
      then = λ j u v p. lt_case (get_or next j 0 ≡ first_of (in_class f class (class j)) n (j + 1)) i j (λ x. h.then j (omega arith) v p) (λ x. let z : j ≡ i = omega arith in clash (ap f (sym z) ∙ p) e);
    }

    module _ (e : f i ≡ true) (c : ℕ) (q : c ≡ class i) (small : c < 256) (wide : length heads ≡ 256) (room : n ≤ length next) where
      pub chained_put : Chained f class n (set heads c (i + 1)) (set next i (get_or heads c 0)) i
      chained_put = record { first = heads_are; then = next_are }
        where
          heads_are : (d : ℕ) → d < 256 → get_or (set heads c (i + 1)) d 0 ≡ first_of (in_class f class d) n i
          heads_are d m =
              eq_case (get_or (set heads c (i + 1)) d 0 ≡ first_of (in_class f class d) n i) d c
              (λ z. rw z (get_or-set_same heads c (i + 1) 0 (omega arith) ∙ (add-one i ∙ sym (hit (in_class f class c) n i l (in_class_lem c i e (sym q))))))
              (λ z. get_or-set_other heads c d (i + 1) 0 z ∙ (h.first d m ∙ sym (miss (in_class f class d) n i l (other_class d i (λ y. z (sym y ∙ sym q))))))

          next_are : (j : ℕ) → i ≤ j → j < n → f j ≡ true → get_or (set next i (get_or heads c 0)) j 0 ≡ first_of (in_class f class (class j)) n (j + 1)
          next_are j u v p =
              lt_case (get_or (set next i (get_or heads c 0)) j 0 ≡ first_of (in_class f class (class j)) n (j + 1)) i j
              (λ x. get_or-set_other next i j (get_or heads c 0) 0 (λ z. omega arith) ∙ h.then j (omega arith) v p)
              (λ x. let z : j ≡ i = omega arith in rw z (get_or-set_same next i (get_or heads c 0) 0 (omega arith) ∙ (h.first c small ∙ ap (λ d. first_of (in_class f class d) n (i + 1)) q)))

pub first_most : (f : ℕ → Bool) (n i : ℕ) → first_of f n i ≤ n
first_most f n i = go (first_of f n i) refl
  where
    go : (x : ℕ) → first_of f n i ≡ x → x ≤ n
    go zero e = omega arith
    go (suc q) e = omega (arith, (some_of f n i q e).inside)

-- what is left of a walk that stands behind place e - 1
abbrev pub steps_left : ℕ → ℕ → ℕ
steps_left n e = cond (eqb e 0) 0 (n + 2 - e)

-- The walk along the chain of class c has passed the places before `place`, and e is the place behind the next record, or 0.
pub record Walking (f : ℕ → Bool) (class : ℕ → ℕ) (n c place e : ℕ) : Type 0 where
  pub few : place ≤ n
  pub here : e ≡ first_of (in_class f class c) n place

module _ (f : ℕ → Bool) (class : ℕ → ℕ) (n c : ℕ) (heads next : List ℕ) (h : Chained f class n heads next 0) where
  pub walking_start : c < 256 → Walking f class n c 0 (get_or heads c 0)
  walking_start l = record { few = omega arith; here = h.first c l }

  -- at a record: it is of the class, and none is between; the next is behind it, or there is none
  module _ (place e : ℕ) (l : 0 < e) (w : Walking f class n c place e) where
    pub walking_at : FirstAt (in_class f class c) n place (e - 1)
    walking_at = some_of (in_class f class c) n place (e - 1) (let z : e ≡ suc (e - 1) = omega arith in sym w.here ∙ z)

    next_is : get_or next (e - 1) 0 ≡ first_of (in_class f class c) n e
    next_is =
        let (p, q) = class_in f class n c (e - 1) walking_at.passes in
        let z : e - 1 + 1 ≡ e = omega arith in
        h.then (e - 1) (omega arith) walking_at.inside p ∙ (ap (λ d. first_of (in_class f class d) n (e - 1 + 1)) q ∙ ap (first_of (in_class f class c) n) z)

    pub walking_on : Walking f class n c e (get_or next (e - 1) 0)
    walking_on = record { few = omega (arith, walking_at.inside); here = next_is }

    pub walking_less : steps_left n (get_or next (e - 1) 0) < steps_left n e
    walking_less = rw next_is (go (first_of (in_class f class c) n e) refl)
      where
        go : (x : ℕ) → first_of (in_class f class c) n e ≡ x → steps_left n x < steps_left n e
        go zero z = rw (ne_eqb e 0 (λ y. omega arith)) (omega (arith, walking_at.inside))
        go (suc p) z =
            let y = some_of (in_class f class c) n e p z in
            rw (ne_eqb e 0 (λ y. omega arith), ne_eqb (suc p) 0 (λ y. omega arith)) (omega (arith, walking_at.inside, y.behind, y.inside))

  -- at the end: none of the class is left
  pub walking_end : (place : ℕ) → Walking f class n c place 0 → (j : ℕ) → place ≤ j → j < n → in_class f class c j ≡ false
  walking_end place w = none_of (in_class f class c) n place (sym w.here)
