-- The atoms chosen for a copy (specs/Moves, fresh and renaming): not taken, of the same set, the smallest such, and different from each other.
use mathlib.Core.Path.{◌≡◌, refl, sym, ap, subst, ◌∙◌}
use mathlib.Core.Bool.{Bool, true, false, cond, ◌||◌}
use mathlib.Core.List.{List, [], ◌∷◌, ◌++◌}
use Prim.Native.Nat.{ℕ, zero, suc, ◌+◌, ◌≤◌, ◌<◌}
use native.Mathlib.Omega.{arith}
use lib.Dec.{eqb}
use lib.ListN.{length}
use borrow.Author.Tests.{eqb-true, eqb-false, eq-eqb, ne_eqb}
use Rattle.cows.specs.Basics.{any, every, member, one_if}
use Rattle.cows.specs.Terms.{atom}
use Rattle.cows.specs.Moves.{Substitution, image, first_free, least, fresh, renaming}
use Rattle.cows.specs.Allows.{SameSet, Smallest, Renames, finished, renames}
use Rattle.cows.proofs.Basics.{never, cond_case, lt_case, and_true, or_false, or_right, or_second, eqb_swap}
use Rattle.cows.proofs.Sets.{in-values, in-variables, in_labels, alike_sets, value-range, variable-range, label-range, set_case}

-- how often an atom is in a list
abbrev pub times : ℕ → List ℕ → ℕ
times a [] = 0
times a (d ∷ ds) = one_if (eqb a d) + times a ds

pub times_append : (a : ℕ) (xs ys : List ℕ) → times a (xs ++ ys) ≡ times a xs + times a ys
times_append a [] ys = omega arith
times_append a (x ∷ xs) ys = omega (arith, times_append a xs ys)

-- how many of n, n + 1, .. (k of them) are taken
hits : ℕ → ℕ → List ℕ → ℕ
hits n zero taken = 0
hits n (suc k) taken = one_if (member n taken) + hits (suc n) k taken

hit : ℕ → ℕ → ℕ → ℕ
hit n zero u = 0
hit n (suc k) u = one_if (eqb n u) + hit (suc n) k u

hit_above : (n k u : ℕ) → u < n → hit n k u ≡ 0
unfolding hit
hit_above n zero u h = refl
hit_above n (suc k) u h = rw (ne_eqb n u (λ q. omega arith), hit_above (suc n) k u (omega arith))

hit_once : (n k u : ℕ) → hit n k u ≤ 1
unfolding hit
hit_once n zero u = omega arith
hit_once n (suc k) u = go (eqb n u) refl (hit_once (suc n) k u)
  where
    go : (b : Bool) → eqb n u ≡ b → hit (suc n) k u ≤ 1 → one_if b + hit (suc n) k u ≤ 1
    go true e h = omega (arith, hit_above (suc n) k u (omega (arith, eqb-true n u e)))
    go false e h = omega arith

one_or : (p q : Bool) → one_if (p || q) ≤ one_if p + one_if q
one_or true true = omega arith
one_or true false = omega arith
one_or false q = omega arith

hits_cons : (n k u : ℕ) (us : List ℕ) → hits n k (u ∷ us) ≤ hit n k u + hits n k us
unfolding hits hit member any
hits_cons n zero u us = omega arith
hits_cons n (suc k) u us = omega (arith, one_or (eqb n u) (any (eqb n) us), hits_cons (suc n) k u us)

hits_le : (n k : ℕ) (taken : List ℕ) → hits n k taken ≤ length taken
unfolding hits member any
hits_le n zero [] = omega arith
hits_le n (suc k) [] = omega (arith, hits_le (suc n) k [])
hits_le n k (u ∷ us) = omega (arith, hits_cons n k u us, hit_once n k u, hits_le n k us)

smallest_free : (k n : ℕ) (taken : List ℕ) → hits n k taken < k → member (first_free k n taken) taken ≡ false
unfolding first_free hits
smallest_free zero n taken h = absurd (omega arith)
smallest_free (suc k) n taken h =
    cond_case (λ r. member r taken ≡ false) (member n taken)
    (λ e. smallest_free k (suc n) taken (omega (arith, ap one_if e)))
    (λ e. e)

smallest_range : (k n : ℕ) (taken : List ℕ) → (n ≤ first_free k n taken) × (first_free k n taken ≤ n + k)
unfolding first_free
smallest_range zero n taken = (omega arith, omega arith)
smallest_range (suc k) n taken =
    cond_case (λ r. (n ≤ r) × (r ≤ n + suc k)) (member n taken)
    (λ e. (omega (arith, smallest_range k (suc n) taken), omega (arith, smallest_range k (suc n) taken)))
    (λ e. (omega arith, omega arith))

fresh_free : (taken : List ℕ) (d : ℕ) → member (fresh taken d) taken ≡ false
unfolding fresh
fresh_free taken d = smallest_free (suc (length taken)) (least d) taken (omega (arith, hits_le (least d) (suc (length taken)) taken))

-- and the smallest such
pub smallest_least : (k n : ℕ) (taken : List ℕ) (m : ℕ) → n ≤ m → m < first_free k n taken → member m taken ≡ true
unfolding first_free
smallest_least zero n taken m h l = absurd (omega arith)
smallest_least (suc k) n taken m h l = go (member n taken) refl l (smallest_least k (suc n) taken m)
  where
    go : (b : Bool) → member n taken ≡ b → m < cond b (first_free k (suc n) taken) n → (suc n ≤ m → m < first_free k (suc n) taken → member m taken ≡ true) → member m taken ≡ true
    go true e l f = at (eqb n m) refl
      where
        at : (q : Bool) → eqb n m ≡ q → member m taken ≡ true
        at true q = ap (λ c. member c taken) (sym (eqb-true n m q)) ∙ e
        at false q = f (omega (arith, eqb-false n m q)) l
    go false e l f = absurd (omega arith)

-- an atom chosen for d is of d's set
fresh_alike : (taken : List ℕ) (d : ℕ) → atom d ≡ true → length taken < 16383 → SameSet (fresh taken d) d
unfolding fresh least
fresh_alike taken d h k = set_case (SameSet (fresh taken d) d) d h
    (λ e. let (l, u) = value-range d e in
    let s = in-values d l u in
    rw s.0 (alike_sets true false false _ d (in-values _ (omega (arith, smallest_range (suc (length taken)) 1 taken)) (omega (arith, smallest_range (suc (length taken)) 1 taken))) s))
    (λ e. let (l, u) = variable-range d e in
    let s = in-variables d l u in
    rw (s.0, s.1) (alike_sets false true false _ d (in-variables _ (omega (arith, smallest_range (suc (length taken)) 32768 taken)) (omega (arith, smallest_range (suc (length taken)) 32768 taken))) s))
    (λ e. let (l, u) = label-range d e in
    let s = in_labels d l u in
    rw (s.0, s.1) (alike_sets false false true _ d (in_labels _ (omega (arith, smallest_range (suc (length taken)) 49152 taken)) (omega (arith, smallest_range (suc (length taken)) 49152 taken))) s))

-- the whole renaming: atoms not listed stay
pub image_other : (taken ds : List ℕ) (a : ℕ) → member a ds ≡ false → image (renaming taken ds) a ≡ a
unfolding image renaming member any
image_other taken [] a h = refl
image_other taken (d ∷ ds) a h =
    let (h₁, h₂) = or_false (eqb a d) (any (eqb a) ds) h in
    rw h₁ (image_other (fresh taken d ∷ taken) ds a h₂)

-- those listed become smallest ones
pub image_free : (taken ds : List ℕ) (a : ℕ) → member a ds ≡ true → member (image (renaming taken ds) a) taken ≡ false
unfolding image renaming member any
image_free taken [] a h = never h
image_free taken (d ∷ ds) a h =
    cond_case (λ r. any (eqb r) taken ≡ false) (eqb a d) (λ e. unfold member in fresh_free taken d)
    (λ e. (or_false (eqb (image (renaming (fresh taken d ∷ taken) ds) a) (fresh taken d)) _ (image_free (fresh taken d ∷ taken) ds a (or_second e h))).1)

-- of the same set
alike_refl : (a : ℕ) → SameSet a a
alike_refl a = record { values = refl; variables = refl; labels = refl }

pub image_alike : (taken ds : List ℕ) → every atom ds ≡ true → length taken + length ds < 16383 → (a : ℕ) → SameSet (image (renaming taken ds) a) a
unfolding image renaming every
image_alike taken [] h k a = alike_refl a
image_alike taken (d ∷ ds) h k a =
    let (h₁, h₂) = and_true (atom d) (every atom ds) h in
    cond_case (λ r. SameSet r a) (eqb a d)
    (λ e. subst (SameSet (fresh taken d)) (sym (eqb-true a d e)) (fresh_alike taken d h₁ (omega arith)))
    (λ e. image_alike (fresh taken d ∷ taken) ds h₂ (omega arith) a)

-- and different from each other, among the taken ones
member_cons : (a b : ℕ) (l : List ℕ) → member a l ≡ true → member a (b ∷ l) ≡ true
unfolding member any
member_cons a b l h = or_right (eqb a b) (any (eqb a) l) h

-- an atom in use is not renamed to one just fresh
image-not : (taken ds : List ℕ) (f b : ℕ) → member f taken ≡ false → member b taken ≡ true → eqb f (image (renaming (f ∷ taken) ds) b) ≡ false
unfolding member any
image-not taken ds f b hf hb = go (member b ds) refl
  where
    go : (p : Bool) → member b ds ≡ p → eqb f (image (renaming (f ∷ taken) ds) b) ≡ false
    go true e = eqb_swap _ f (or_false (eqb (image (renaming (f ∷ taken) ds) b) f) _ (image_free (f ∷ taken) ds b e)).0
    go false e = rw (image_other (f ∷ taken) ds b e) (ne_eqb f b (λ q. never (sym hf ∙ (ap (λ c. member c taken) q ∙ hb))))

pub image_inj : (taken ds : List ℕ) (a b : ℕ) → member a taken ≡ true → member b taken ≡ true → eqb (image (renaming taken ds) a) (image (renaming taken ds) b) ≡ true → eqb a b ≡ true
unfolding image renaming
image_inj taken [] a b ha hb e = e
image_inj taken (d ∷ ds) a b ha hb e =
    go (eqb a d) refl (eqb b d) refl e (image_inj (fresh taken d ∷ taken) ds a b (member_cons a (fresh taken d) taken ha) (member_cons b (fresh taken d) taken hb))
  where
    f : ℕ
    f = fresh taken d

    go : (p : Bool) → eqb a d ≡ p → (q : Bool) → eqb b d ≡ q
        → eqb (cond p f (image (renaming (f ∷ taken) ds) a)) (cond q f (image (renaming (f ∷ taken) ds) b)) ≡ true
        → (eqb (image (renaming (f ∷ taken) ds) a) (image (renaming (f ∷ taken) ds) b) ≡ true → eqb a b ≡ true) → eqb a b ≡ true
    go true p true q e h = eq-eqb a b (eqb-true a d p ∙ sym (eqb-true b d q))
    go true p false q e h = never (sym (image-not taken ds f b (fresh_free taken d) hb) ∙ e)
    go false p true q e h = never (sym (eqb_swap f _ (image-not taken ds f a (fresh_free taken d) ha)) ∙ e)
    go false p false q e h = h e

-- the first atom of a set is the least of the set
least-below : (c d : ℕ) → atom d ≡ true → SameSet c d → least d ≤ c
unfolding least
least-below c d h s = set_case (least d ≤ c) d h
    (λ e. rw e (value-range c (s.values ∙ e)).0)
    (λ e. let (l, u) = variable-range d e in
    rw ((in-variables d l u).0, e) (variable-range c (s.variables ∙ e)).0)
    (λ e. let (l, u) = label-range d e in
    rw ((in_labels d l u).0, (in_labels d l u).1) (label-range c (s.labels ∙ e)).0)

pub fresh_smallest : (taken : List ℕ) (d : ℕ) → atom d ≡ true → length taken < 16383 → Smallest taken d (fresh taken d)
unfolding fresh
fresh_smallest taken d h k = record {
  set = fresh_alike taken d h k;
  free = fresh_free taken d;
  least = λ c s m. lt_case (fresh taken d ≤ c) c (fresh taken d)
      (λ l. never (sym m ∙ smallest_least (suc (length taken)) (least d) taken c (least-below c d h s) l)) (λ l. l);
}

-- the atoms chosen are those that the rule of unfolding names, and it names no others
pub renaming-renames : (taken ds : List ℕ) → every atom ds ≡ true → length taken + length ds < 16383 → Renames taken ds (renaming taken ds)
unfolding renaming every
renaming-renames taken [] h k = finished
renaming-renames taken (d ∷ ds) h k =
    let (h₁, h₂) = and_true (atom d) (every atom ds) h in
    renames (fresh_smallest taken d h₁ (omega arith)) (renaming-renames (fresh taken d ∷ taken) ds h₂ (omega arith))

smallest_unique : {taken : List ℕ} {d e f : ℕ} → Smallest taken d e → Smallest taken d f → e ≡ f
smallest_unique {e = e} {f = f} h k = omega (arith, h.least f k.set k.free, k.least e h.set h.free)

pub renames_unique : {taken ds : List ℕ} {σ τ : Substitution} → Renames taken ds σ → Renames taken ds τ → σ ≡ τ
renames_unique finished finished = refl
renames_unique {taken = taken} (renames {ds = ds} {d = d} h r) (renames {σ = τ} k q) =
    let e = smallest_unique h k in
    cc (e, renames_unique r (subst (λ c. Renames (c ∷ taken) ds τ) (sym e) q))
