-- What refusals 4 to 7 rule out (specs/Tables) is what the limits and rules of a term say (specs/Within): the search for a place finds none
-- exactly if the term is shallow, guarded, closed, delimits no atom twice and keeps its values private.
use mathlib.Core.Path.{◌≡◌, refl, sym, ap, subst, ◌∙◌}
use mathlib.Core.Bool.{Bool, true, false, not, ◌&&◌}
use mathlib.Core.Option.{Option, none, some}
use mathlib.Core.List.{List, [], ◌∷◌}
use Prim.Native.Nat.{ℕ, zero, suc, ◌+◌, ◌≤◌, ◌<◌}
use native.Mathlib.Omega.{arith}
use native.Mathlib.Nat.{zero-add}
use lib.Dec.{ltb, eqb}
use lib.ListN.{length}
use borrow.Author.Tests.{le-ltb, ltb-true, ltb-false, eqb-true, eq-eqb, not-false}
use Rattle.cows.specs.Basics.{any, found_with, found, first_from, one_if}
use Rattle.cows.specs.Terms.{choice, parallel, Term, leaf, under, both, size, depth, prefixed, delimits, delimits_atom, delimits_at, uses_basic, uses_prefix, uses, bindable}
use Rattle.cows.specs.Kinds.{guard}
use Rattle.cows.specs.Places.{inside, left_of, right_of, Way, Spot, descend, spot_at, sub, first, frame_delimits, enclosed, frame_chooses}
use Rattle.cows.specs.Tables.{too_deep, in_choice, no_guard, unbound, delimited_before, again, escaped, clash}
use Rattle.cows.specs.Within.{Guarded, Bound, Scoped, counts, restricted, Formed}
use Rattle.cows.proofs.Basics.{never, bool_case, or_false, not_so, found_none, first_from-none, none-first_from}
use Rattle.cows.proofs.Places.{Everywhere, Fails, at_first, at_under, at_left, at_right, all_leaf, all_under, all_both, first-none, none_first}

-- P at every place of a term, by recursion on the term
abbrev Every : (ℕ → Spot → Type 0) → Way → ℕ → Term → Type 0
Every P w o (leaf x) = P o (record { way = w; here = leaf x })
Every P w o (under u t) = P o (record { way = w; here = under u t }) × Every P (inside u ∷ w) (suc o) t
Every P w o (both j s t) = P o (record { way = w; here = both j s t }) × Every P (left_of j t ∷ w) (suc o) s × Every P (right_of j s ∷ w) (suc (o + size s)) t

everywhere_every : (P : ℕ → Spot → Type 0) (w : Way) (o : ℕ) (t : Term) → Everywhere P w o t → Every P w o t
everywhere_every P w o (leaf x) h = at_first P w o (leaf x) h
everywhere_every P w o (under u t) h = (at_first P w o (under u t) h, everywhere_every P (inside u ∷ w) (suc o) t (at_under P w o u t h))
everywhere_every P w o (both j s t) h = (
  at_first P w o (both j s t) h,
  everywhere_every P (left_of j t ∷ w) (suc o) s (at_left P w o j s t h),
  everywhere_every P (right_of j s ∷ w) (suc (o + size s)) t (at_right P w o j s t h),
)

every_everywhere : (P : ℕ → Spot → Type 0) (w : Way) (o : ℕ) (t : Term) → Every P w o t → Everywhere P w o t
unfolding size
every_everywhere P w o (leaf x) h = all_leaf P w o (leaf x) refl h
every_everywhere P w o (under u t) h = all_under P w o u t h.0 (every_everywhere P (inside u ∷ w) (suc o) t h.1)
every_everywhere P w o (both j s t) h =
    all_both P w o j s t h.0 (every_everywhere P (left_of j t ∷ w) (suc o) s h.1) (every_everywhere P (right_of j s ∷ w) (suc (o + size s)) t h.2)

first-every : (f : ℕ → Spot → Bool) (t : Term) → first f t ≡ none → Every (Fails f) [] 0 t
first-every f t e = everywhere_every (Fails f) [] 0 t (first-none f t e)

every_first : (f : ℕ → Spot → Bool) (t : Term) → Every (Fails f) [] 0 t → first f t ≡ none
every_first f t h = none_first f t (every_everywhere (Fails f) [] 0 t h)

-- 4: the depth.
depth-every : (w : Way) (o : ℕ) (t : Term) → length w + depth t ≤ 256 → Every (Fails too_deep) w o t
unfolding too_deep depth
depth-every w o (leaf x) h = le-ltb 256 (suc (length w)) (omega arith)
depth-every w o (under u t) h = (le-ltb 256 (suc (length w)) (omega arith), depth-every (inside u ∷ w) (suc o) t (omega arith))
depth-every w o (both j s t) h =
    (le-ltb 256 (suc (length w)) (omega arith), depth-every (left_of j t ∷ w) (suc o) s (omega arith), depth-every (right_of j s ∷ w) (suc (o + size s)) t (omega arith))

every-depth : (w : Way) (o : ℕ) (t : Term) → Every (Fails too_deep) w o t → length w + depth t ≤ 256
unfolding too_deep depth
every-depth w o (leaf x) h = omega (arith, ltb-false 256 (suc (length w)) h)
every-depth w o (under u t) h = omega (arith, every-depth (inside u ∷ w) (suc o) t h.1)
every-depth w o (both j s t) h = omega (arith, every-depth (left_of j t ∷ w) (suc o) s h.1, every-depth (right_of j s ∷ w) (suc (o + size s)) t h.2)

pub shallow_first : (t : Term) → depth t ≤ 256 → first too_deep t ≡ none
shallow_first t h = every_first too_deep t (depth-every [] 0 t (omega arith))

pub first_shallow : (t : Term) → first too_deep t ≡ none → depth t ≤ 256
first_shallow t e = omega (arith, every-depth [] 0 t (first-every too_deep t e))

-- 5: the children of a choice.
guarded_every : (w : Way) (o : ℕ) (t : Term) → no_guard o (record { way = w; here = t }) ≡ false → Guarded t → Every (Fails no_guard) w o t
unfolding no_guard in_choice frame_chooses
guarded_every w o (leaf x) e h = e
guarded_every w o (under u t) e h = (e, guarded_every (inside u ∷ w) (suc o) t refl h)
guarded_every w o (both choice s t) e h =
    (e, guarded_every (left_of choice t ∷ w) (suc o) s (rw h.0.0) h.1, guarded_every (right_of choice s ∷ w) (suc (o + size s)) t (rw h.0.1) h.2)
guarded_every w o (both parallel s t) e h =
    (e, guarded_every (left_of parallel t ∷ w) (suc o) s refl h.1, guarded_every (right_of parallel s ∷ w) (suc (o + size s)) t refl h.2)

every_guarded : (w : Way) (o : ℕ) (t : Term) → Every (Fails no_guard) w o t → (no_guard o (record { way = w; here = t }) ≡ false) × Guarded t
unfolding no_guard in_choice frame_chooses
every_guarded w o (leaf x) h = (h, tt)
every_guarded w o (under u t) h = (h.0, (every_guarded (inside u ∷ w) (suc o) t h.1).1)
every_guarded w o (both choice s t) h =
    let l = every_guarded (left_of choice t ∷ w) (suc o) s h.1 in
    let r = every_guarded (right_of choice s ∷ w) (suc (o + size s)) t h.2 in
    (h.0, ((not-false (guard s) l.0, not-false (guard t) r.0), l.1, r.1))
every_guarded w o (both parallel s t) h =
    let l = every_guarded (left_of parallel t ∷ w) (suc o) s h.1 in
    let r = every_guarded (right_of parallel s ∷ w) (suc (o + size s)) t h.2 in
    (h.0, (tt, l.1, r.1))

-- 6, and 7's uses: every use that must be enclosed is.
pub bound-any : (K E : ℕ → Bool) (l : List ℕ) → Bound K E l → any (λ a. K a && not (E a)) l ≡ false
unfolding any
bound-any K E [] h = refl
bound-any K E (a ∷ l) h = rw (go (K a) (E a) h.0, bound-any K E l h.1)
  where
    go : (p q : Bool) → (p ≡ true → q ≡ true) → (p && not q) ≡ false
    go true true f = refl
    go true false f = sym (f refl)
    go false q f = refl

pub any-bound : (K E : ℕ → Bool) (l : List ℕ) → any (λ a. K a && not (E a)) l ≡ false → Bound K E l
unfolding any
any-bound K E [] h = tt
any-bound K E (a ∷ l) h = let (p, q) = or_false (K a && not (E a)) _ h in ((λ e. not-false (E a) (ap (λ c. c && not (E a)) (sym e) ∙ p)), any-bound K E l q)

-- the test for a use, not enclosed, of an atom of which K holds
module _ (K : ℕ → Bool) where
  abbrev stray : ℕ → Spot → Bool
  stray n z = any (λ a. K a && not (enclosed a z.way)) (uses z.here)

  scoped_every : (w : Way) (o : ℕ) (t : Term) → Scoped K (λ a. enclosed a w) t → Every (Fails stray) w o t
  unfolding uses any enclosed frame_delimits
  scoped_every w o (leaf x) h = bound-any K (λ a. enclosed a w) (uses_basic x) h
  scoped_every w o (under u t) h = (bound-any K (λ a. enclosed a w) (uses_prefix u) h.0, scoped_every (inside u ∷ w) (suc o) t h.1)
  scoped_every w o (both j s t) h = (refl, scoped_every (left_of j t ∷ w) (suc o) s h.0, scoped_every (right_of j s ∷ w) (suc (o + size s)) t h.1)

  every_scoped : (w : Way) (o : ℕ) (t : Term) → Every (Fails stray) w o t → Scoped K (λ a. enclosed a w) t
  unfolding uses any enclosed frame_delimits
  every_scoped w o (leaf x) h = any-bound K (λ a. enclosed a w) (uses_basic x) h
  every_scoped w o (under u t) h = (any-bound K (λ a. enclosed a w) (uses_prefix u) h.0, every_scoped (inside u ∷ w) (suc o) t h.1)
  every_scoped w o (both j s t) h = (every_scoped (left_of j t ∷ w) (suc o) s h.1, every_scoped (right_of j s ∷ w) (suc (o + size s)) t h.2)

-- 7: no atom is delimited twice. How many of the numbers below n pass a test ..
tally : (ℕ → Bool) → ℕ → ℕ
tally f zero = 0
tally f (suc n) = one_if (f n) + tally f n

-- (a number below n + 1 is n or below n)
below_suc : (P : ℕ → Type 0) (n : ℕ) → P n → ((i : ℕ) → i < n → P i) → (i : ℕ) → i < suc n → P i
below_suc P n h k i l = bool_case (P i) (ltb i n) (λ e. k i (ltb-true i n e)) (λ e. subst P (omega (arith, ltb-false i n e)) h)

-- .. is 0 exactly if a search finds none ..
tally_none : (f : ℕ → Bool) (n : ℕ) → ((i : ℕ) → i < n → f i ≡ false) → tally f n ≡ 0
unfolding tally
tally_none f zero h = refl
tally_none f (suc n) h = rw (h n (omega arith), tally_none f n (λ i l. h i (omega arith)))

none_tally : (f : ℕ → Bool) (n : ℕ) → tally f n ≡ 0 → (i : ℕ) → i < n → f i ≡ false
unfolding tally
none_tally f zero h i l = absurd (omega arith)
none_tally f (suc n) h i l = below_suc (λ i. f i ≡ false) n (not_so (λ e. omega (arith, ap one_if e))) (none_tally f n (omega arith)) i l

found_tally : (f : ℕ → Bool) (n : ℕ) → found (first_from f 0 n) ≡ false → tally f n ≡ 0
found_tally f n e = tally_none f n (λ i l. rw zero-add at (first_from-none f 0 n (found_none (first_from f 0 n) e) i l))

tally_found : (f : ℕ → Bool) (n : ℕ) → tally f n ≡ 0 → found (first_from f 0 n) ≡ false
unfolding found
tally_found f n e = rw (none-first_from f 0 n (λ i l. rw zero-add (none_tally f n e i l)))

-- .. and at most 1 exactly if it is 0 below each number that passes.
tally_once : (f : ℕ → Bool) (n : ℕ) → ((i : ℕ) → i < n → f i ≡ true → tally f i ≡ 0) → tally f n ≤ 1
unfolding tally
tally_once f zero h = omega arith
tally_once f (suc n) h = go (f n) refl (tally_once f n (λ i l. h i (omega arith)))
  where
    go : (b : Bool) → f n ≡ b → tally f n ≤ 1 → one_if b + tally f n ≤ 1
    go true e k = omega (arith, h n (omega arith) e)
    go false e k = omega arith

once_tally : (f : ℕ → Bool) (n : ℕ) → tally f n ≤ 1 → (i : ℕ) → i < n → f i ≡ true → tally f i ≡ 0
unfolding tally
once_tally f zero h i l e = absurd (omega arith)
once_tally f (suc n) h i l e = below_suc (λ i. f i ≡ true → tally f i ≡ 0) n (λ e. omega (arith, ap one_if e)) (once_tally f n (omega arith)) i l e

-- the places of a term that delimit d are as many as its delimitations of d
tally_counts : (f : ℕ → Bool) (d : ℕ) (w : Way) (o : ℕ) (t : Term) → Every (λ n z. f n ≡ delimits_at d z.here) w o t → tally f (o + size t) ≡ tally f o + counts d t
unfolding tally size prefixed found_with delimits_atom
tally_counts f d w o (leaf x) h = let z : o + 1 ≡ suc o = omega arith in rw z (omega (arith, ap one_if h))
tally_counts f d w o (under u t) h =
    let z : o + suc (size t) ≡ suc o + size t = omega arith in
    rw z (omega (arith, tally_counts f d (inside u ∷ w) (suc o) t h.1, ap one_if h.0))
tally_counts f d w o (both j s t) h =
    let z : o + suc (size s + size t) ≡ suc (o + size s) + size t = omega arith in
    let y : suc o + size s ≡ suc (o + size s) = omega arith in
    rw z (omega (arith, rw y at (tally_counts f d (left_of j t ∷ w) (suc o) s h.1), tally_counts f d (right_of j s ∷ w) (suc (o + size s)) t h.2, ap one_if h.0))

-- the place n of t delimits d
abbrev marks : Term → ℕ → ℕ → Bool
marks t d n = delimits_at d (sub t n)

tally_marks : (t : Term) (d : ℕ) → tally (marks t d) (size t) ≡ counts d t
unfolding tally sub spot_at
tally_marks t d =
    simp zero-add at
    (tally_counts (marks t d) d [] 0 t (everywhere_every (λ n z. marks t d n ≡ delimits_at d z.here) [] 0 t (λ n l. ap (marks t d) (zero-add n))))

-- a test of the value that may be missing, by the number that it is
holds_one : (p : ℕ → Bool) (a : ℕ) (o : Option ℕ) → found_with p o ≡ false → found_with (eqb a) o ≡ true → p a ≡ false
unfolding found_with
holds_one p a none h e = never e
holds_one p a (some d) h e = rw (eqb-true a d e) h

one_holds : (p : ℕ → Bool) (o : Option ℕ) → ((a : ℕ) → found_with (eqb a) o ≡ true → p a ≡ false) → found_with p o ≡ false
unfolding found_with
one_holds p none h = refl
one_holds p (some d) h = h d (eq-eqb d d refl)

-- no place delimits an atom again exactly if each atom is delimited at most once
again_unique : (t : Term) → Everywhere (Fails (again t)) [] 0 t → (a : ℕ) → counts a t ≤ 1
unfolding again delimited_before sub spot_at
again_unique t h a =
    rw (tally_marks t a) at
    (tally_once (marks t a) (size t)
    (λ i l e. found_tally (marks t a) i (holds_one (delimited_before t i) a (prefixed delimits (sub t i)) (rw zero-add at (h i l)) e)))

unique_again : (t : Term) → ((a : ℕ) → counts a t ≤ 1) → Everywhere (Fails (again t)) [] 0 t
unfolding again delimited_before sub spot_at
unique_again t h n l =
    rw zero-add
    (one_holds (delimited_before t n) (prefixed delimits (sub t n))
    (λ a e. tally_found (marks t a) n (once_tally (marks t a) (size t) (rw (tally_marks t a) (h a)) n l e)))

-- The rules on scopes, both ways.
pub formed_first : (t : Term) → Formed t → (first no_guard t ≡ none) × (first unbound t ≡ none) × (first (clash t) t ≡ none)
unfolding no_guard in_choice enclosed any unbound clash escaped
formed_first t f = (
  every_first no_guard t (guarded_every [] 0 t refl f.guarded),
  every_first unbound t (scoped_every bindable [] 0 t f.closed),
  none_first (clash t) t
      (λ n l. rw (unique_again t f.unique n l, every_everywhere (Fails (escaped t)) [] 0 t (scoped_every (restricted t) [] 0 t f.private) n l)),
)

pub first_formed : (t : Term) → first no_guard t ≡ none → first unbound t ≡ none → first (clash t) t ≡ none → Formed t
unfolding no_guard in_choice enclosed any unbound clash escaped
first_formed t g c k = record {
  guarded = (every_guarded [] 0 t (first-every no_guard t g)).1;
  closed = every_scoped bindable [] 0 t (first-every unbound t c);
  unique = again_unique t (λ n l. (or_false (again t (0 + n) (descend [] t n)) _ (first-none (clash t) t k n l)).0);
  private = every_scoped (restricted t) [] 0 t
      (everywhere_every (Fails (escaped t)) [] 0 t (λ n l. (or_false (again t (0 + n) (descend [] t n)) _ (first-none (clash t) t k n l)).1));
}
