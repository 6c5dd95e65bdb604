-- Laws of specs/Places: a way filled with what stands at its end is the term; the places of a term by its first record; a search that finds nothing;
-- the part at a place, and the places of its children.
use mathlib.Core.Path.{◌≡◌, refl, ap, subst, ◌∙◌}
use mathlib.Core.Bool.{Bool, false}
use mathlib.Core.Option.{none}
use mathlib.Core.List.{[], ◌∷◌, ◌++◌}
use Prim.Native.Nat.{ℕ, zero, suc, ◌+◌, ◌-◌, ◌≤◌, ◌<◌}
use native.Mathlib.Omega.{arith}
use native.Mathlib.Nat.{zero-add}
use native.Mathlib.Numerals.{add-one}
use lib.Dec.{ltb}
use borrow.Author.Tests.{lt-ltb, le-ltb, ltb-true, ltb-false}
use Rattle.cows.specs.Terms.{Prefix, Join, Term, leaf, under, both, size}
use Rattle.cows.specs.Places.{Frame, inside, left_of, right_of, plug, Way, fill, Spot, descend, spot_at, way_to, sub, first}
use Rattle.cows.specs.Records.{At}
use Rattle.cows.proofs.Basics.{cond_case, cond_case₂, first_from-none, none-first_from}

pub size_pos : (t : Term) → 1 ≤ size t
unfolding size
size_pos (leaf x) = omega arith
size_pos (under u t) = omega arith
size_pos (both j s t) = omega arith

-- down and up again
pub fill-descend : (w : Way) (t : Term) (n : ℕ) → fill (descend w t n).way (descend w t n).here ≡ fill w t
unfolding descend fill plug
fill-descend w (leaf x) n = refl
fill-descend w (under u t) zero = refl
fill-descend w (under u t) (suc n) = fill-descend (inside u ∷ w) t n
fill-descend w (both j s t) zero = refl
fill-descend w (both j s t) (suc n) =
    cond_case (λ (z : Spot). fill z.way z.here ≡ fill w (both j s t)) (ltb n (size s))
    (λ e. fill-descend (left_of j t ∷ w) s n) (λ e. fill-descend (right_of j s ∷ w) t (n - size s))

pub fill_spot : (t : Term) (n : ℕ) → fill (way_to t n) (sub t n) ≡ t
unfolding way_to sub spot_at fill
fill_spot t n = fill-descend [] t n

pub fill_append : (v w : Way) (s : Term) → fill (v ++ w) s ≡ fill w (fill v s)
unfolding fill
fill_append [] w s = refl
fill_append (f ∷ v) w s = fill_append v w (plug f s)

-- the same term put in at the end of a way, and what a congruence carries up it
pub fill_ind : (P : Term → Term → Type 0) → ((f : Frame) (s r : Term) → P s r → P (plug f s) (plug f r)) → (w : Way) (s r : Term) → P s r → P (fill w s) (fill w r)
unfolding fill
fill_ind P up [] s r h = h
fill_ind P up (f ∷ w) s r h = fill_ind P up w (plug f s) (plug f r) (up f s r h)

-- the term t with r in the place n
pub replaced : (P : Term → Term → Type 0) → ((f : Frame) (s r : Term) → P s r → P (plug f s) (plug f r)) → (t : Term) (n : ℕ) (r : Term) → P (sub t n) r → P t (fill (way_to t n) r)
replaced P up t n r h = subst (λ q. P q (fill (way_to t n) r)) (fill_spot t n) (fill_ind P up (way_to t n) (sub t n) r h)

-- the way of the whole is added behind
pub descend_way : (v w : Way) (t : Term) (n : ℕ) → (descend (v ++ w) t n).way ≡ (descend v t n).way ++ w
unfolding descend
descend_way v w (leaf x) n = refl
descend_way v w (under u t) zero = refl
descend_way v w (under u t) (suc n) = descend_way (inside u ∷ v) w t n
descend_way v w (both j s t) zero = refl
descend_way v w (both j s t) (suc n) =
    cond_case₂ (λ (x y : Spot). x.way ≡ y.way ++ w) (ltb n (size s))
    (λ e. descend_way (left_of j t ∷ v) w s n) (λ e. descend_way (right_of j s ∷ v) w t (n - size s))

pub descend_here : (v w : Way) (t : Term) (n : ℕ) → (descend v t n).here ≡ (descend w t n).here
unfolding descend
descend_here v w (leaf x) n = refl
descend_here v w (under u t) zero = refl
descend_here v w (under u t) (suc n) = descend_here (inside u ∷ v) (inside u ∷ w) t n
descend_here v w (both j s t) zero = refl
descend_here v w (both j s t) (suc n) =
    cond_case₂ (λ (x y : Spot). x.here ≡ y.here) (ltb n (size s))
    (λ e. descend_here (left_of j t ∷ v) (left_of j t ∷ w) s n) (λ e. descend_here (right_of j s ∷ v) (right_of j s ∷ w) t (n - size s))

-- The places of a term: its first record's, and those of its children.
pub descend-first : (w : Way) (t : Term) → descend w t 0 ≡ record { way = w; here = t }
unfolding descend
descend-first w (leaf x) = refl
descend-first w (under u t) = refl
descend-first w (both j s t) = refl

pub descend-left : (w : Way) (j : Join) (s t : Term) (n : ℕ) → n < size s → descend w (both j s t) (suc n) ≡ descend (left_of j t ∷ w) s n
unfolding descend
descend-left w j s t n h = rw (lt-ltb n (size s) h)

pub descend_right : (w : Way) (j : Join) (s t : Term) (n : ℕ) → descend w (both j s t) (suc (size s + n)) ≡ descend (right_of j s ∷ w) t n
unfolding descend
descend_right w j s t n = rw (le-ltb (size s + n) (size s) (omega arith)) (ap (descend (right_of j s ∷ w) t) (omega arith))

-- P holds at every place of a term whose own way is w and whose own place is o
abbrev pub Everywhere : (ℕ → Spot → Type 0) → Way → ℕ → Term → Type 0
Everywhere P w o t = (n : ℕ) → n < size t → P (o + n) (descend w t n)

pub at_first : (P : ℕ → Spot → Type 0) (w : Way) (o : ℕ) (t : Term) → Everywhere P w o t → P o (record { way = w; here = t })
at_first P w o t h = subst (λ m. P m (record { way = w; here = t })) (omega arith) (rw (descend-first w t) at (h 0 (size_pos t)))

pub at_under : (P : ℕ → Spot → Type 0) (w : Way) (o : ℕ) (u : Prefix) (t : Term) → Everywhere P w o (under u t) → Everywhere P (inside u ∷ w) (suc o) t
unfolding descend size
at_under P w o u t h n l = subst (λ m. P m (descend (inside u ∷ w) t n)) (omega arith) (h (suc n) (omega arith))

pub at_left : (P : ℕ → Spot → Type 0) (w : Way) (o : ℕ) (j : Join) (s t : Term) → Everywhere P w o (both j s t) → Everywhere P (left_of j t ∷ w) (suc o) s
unfolding size
at_left P w o j s t h n l =
    subst (λ m. P m (descend (left_of j t ∷ w) s n)) (omega arith) (rw (descend-left w j s t n l) at (h (suc n) (omega arith)))

pub at_right : (P : ℕ → Spot → Type 0) (w : Way) (o : ℕ) (j : Join) (s t : Term) → Everywhere P w o (both j s t) → Everywhere P (right_of j s ∷ w) (suc (o + size s)) t
unfolding size
at_right P w o j s t h n l =
    subst (λ m. P m (descend (right_of j s ∷ w) t n)) (omega arith) (rw (descend_right w j s t n) at (h (suc (size s + n)) (omega arith)))

pub all_leaf : (P : ℕ → Spot → Type 0) (w : Way) (o : ℕ) (t : Term) → size t ≡ 1 → P o (record { way = w; here = t }) → Everywhere P w o t
all_leaf P w o t e h zero l = rw (descend-first w t) (subst (λ m. P m (record { way = w; here = t })) (omega arith) h)
all_leaf P w o t e h (suc n) l = absurd (omega arith)

pub all_under : (P : ℕ → Spot → Type 0) (w : Way) (o : ℕ) (u : Prefix) (t : Term) → P o (record { way = w; here = under u t }) → Everywhere P (inside u ∷ w) (suc o) t → Everywhere P w o (under u t)
unfolding descend size
all_under P w o u t h k zero l = subst (λ m. P m (record { way = w; here = under u t })) (omega arith) h
all_under P w o u t h k (suc n) l = subst (λ m. P m (descend (inside u ∷ w) t n)) (omega arith) (k n (omega arith))

pub all_both : (P : ℕ → Spot → Type 0) (w : Way) (o : ℕ) (j : Join) (s t : Term) → P o (record { way = w; here = both j s t })
    → Everywhere P (left_of j t ∷ w) (suc o) s → Everywhere P (right_of j s ∷ w) (suc (o + size s)) t → Everywhere P w o (both j s t)
unfolding descend size
all_both P w o j s t h k m zero l = subst (λ i. P i (record { way = w; here = both j s t })) (omega arith) h
all_both P w o j s t h k m (suc n) l =
    cond_case (P (o + suc n)) (ltb n (size s))
    (λ e. subst (λ i. P i (descend (left_of j t ∷ w) s n)) (omega arith) (k n (ltb-true n (size s) e)))
    (λ e. subst (λ i. P i (descend (right_of j s ∷ w) t (n - size s))) (omega (arith, ltb-false n (size s) e)) (m (n - size s) (omega (arith, ltb-false n (size s) e))))

-- a search finds nothing exactly if the test fails everywhere
abbrev pub Fails : (ℕ → Spot → Bool) → ℕ → Spot → Type 0
Fails f n z = f n z ≡ false

pub first-none : (f : ℕ → Spot → Bool) (t : Term) → first f t ≡ none → Everywhere (Fails f) [] 0 t
unfolding first spot_at
first-none f t e n l = rw zero-add (rw zero-add at (first_from-none (λ m. f m (descend [] t m)) 0 (size t) e n l))

pub none_first : (f : ℕ → Spot → Bool) (t : Term) → Everywhere (Fails f) [] 0 t → first f t ≡ none
unfolding first spot_at
none_first f t h = none-first_from (λ m. f m (descend [] t m)) 0 (size t) (λ i l. rw zero-add (rw zero-add at (h i l)))

-- what the children of a record inherit from it holds at every place of a term, if it holds at the first
abbrev pub Inherited : (ℕ → Spot → Type 0) → Type 0
Inherited P =
    ((o : ℕ) (w : Way) (u : Prefix) (t : Term) → P o (record { way = w; here = under u t }) → P (suc o) (record { way = inside u ∷ w; here = t }))
    × ((o : ℕ) (w : Way) (j : Join) (s t : Term) → P o (record { way = w; here = both j s t })
    → P (suc o) (record { way = left_of j t ∷ w; here = s }) × P (suc (o + size s)) (record { way = right_of j s ∷ w; here = t }))

pub inherited : (P : ℕ → Spot → Type 0) → Inherited P → (w : Way) (o : ℕ) (t : Term) → P o (record { way = w; here = t }) → Everywhere P w o t
unfolding size
inherited P i w o (leaf x) h = all_leaf P w o (leaf x) refl h
inherited P i w o (under u t) h = all_under P w o u t h (inherited P i (inside u ∷ w) (suc o) t (i.0 o w u t h))
inherited P i w o (both j s t) h =
    let (l, r) = i.1 o w j s t h in
    all_both P w o j s t h (inherited P i (left_of j t ∷ w) (suc o) s l) (inherited P i (right_of j s ∷ w) (suc (o + size s)) t r)

pub inherited_spot : (P : ℕ → Spot → Type 0) → Inherited P → (t : Term) → P 0 (record { way = []; here = t }) → (n : ℕ) → n < size t → P n (spot_at t n)
unfolding spot_at
inherited_spot P i t h n l = rw zero-add at (inherited P i [] 0 t h n l)

-- The part of t at a place fits into t, and its places, counted on, are places of t.
abbrev pub PartOf : Term → ℕ → Spot → Type 0
PartOf t n z = (n + size z.here ≤ size t) × ((i : ℕ) → i < size z.here → spot_at t (n + i) ≡ descend z.way z.here i)

pub part_inherited : (t : Term) → Inherited (PartOf t)
unfolding descend size
part_inherited t = (
  λ o w u s h. (omega arith, λ i l. ap (spot_at t) (let z : suc o + i ≡ o + suc i = omega arith in z) ∙ h.1 (suc i) (omega arith)),
  λ o w j s r h. (
    (omega arith, λ i l. ap (spot_at t) (let z : suc o + i ≡ o + suc i = omega arith in z) ∙ (h.1 (suc i) (omega arith) ∙ descend-left w j s r i l)),
    (
      omega arith,
      λ i l. ap (spot_at t) (let z : suc (o + size s) + i ≡ o + suc (size s + i) = omega arith in z) ∙ (h.1 (suc (size s + i)) (omega arith) ∙ descend_right w j s r i),
    ),
  ),
)

pub part_first : (t : Term) → PartOf t 0 (record { way = []; here = t })
unfolding spot_at
part_first t = (omega arith, λ i l. ap (descend [] t) (zero-add i))

pub spot_part : (t : Term) (n : ℕ) → n < size t → PartOf t n (spot_at t n)
spot_part t = inherited_spot (PartOf t) (part_inherited t) t (part_first t)

pub part_here : (t : Term) (n : ℕ) (z : Spot) → PartOf t n z → sub t n ≡ z.here
unfolding sub
part_here t n z h =
    ap (λ (y : Spot). y.here) (ap (spot_at t) (let e : n ≡ n + 0 = omega arith in e) ∙ (h.1 0 (size_pos z.here) ∙ descend-first z.way z.here))

pub spot_fits : (t : Term) (j : ℕ) → j < size t → j + size (sub t j) ≤ size t
unfolding sub
spot_fits t j l = (spot_part t j l).0

pub at_part : (t : Term) (n i : ℕ) (s : Term) (w : Way) (c : Term) → n < size t → sub t n ≡ s → i < size s → descend (way_to t n) s i ≡ record { way = w; here = c } → At t (n + i) w c
unfolding sub way_to
at_part t n i s w c l e k d =
    let (f, p) = spot_part t n l in
    let q : spot_at t (n + i) ≡ record { way = w; here = c } = p i (rw e k) ∙ rw e d in
    (omega (arith, ap size e), ap (λ (z : Spot). z.here) q, ap (λ (z : Spot). z.way) q)

pub spot_under : (t : Term) (j : ℕ) (u : Prefix) (c : Term) → j < size t → sub t j ≡ under u c → At t (suc j) (inside u ∷ way_to t j) c
unfolding descend size
spot_under t j u c l e =
    rw add-one at (at_part t j 1 (under u c) (inside u ∷ way_to t j) c l e (omega (arith, size_pos c)) (descend-first (inside u ∷ way_to t j) c))

pub spot_left : (t : Term) (j : ℕ) (k : Join) (l r : Term) → j < size t → sub t j ≡ both k l r → At t (suc j) (left_of k r ∷ way_to t j) l
unfolding size
spot_left t j k l r h e =
    rw add-one at
    (at_part t j 1 (both k l r) (left_of k r ∷ way_to t j) l h e (omega (arith, size_pos l))
    (descend-left (way_to t j) k l r 0 (size_pos l) ∙ descend-first (left_of k r ∷ way_to t j) l))

pub spot_right : (t : Term) (j : ℕ) (k : Join) (l r : Term) → j < size t → sub t j ≡ both k l r → At t (suc j + size l) (right_of k l ∷ way_to t j) r
unfolding size
spot_right t j k l r h e =
    subst (λ n. At t n (right_of k l ∷ way_to t j) r) (omega arith)
    (at_part t j (suc (size l + 0)) (both k l r) (right_of k l ∷ way_to t j) r h e (omega (arith, size_pos r))
    (descend_right (way_to t j) k l r 0 ∙ descend-first (right_of k l ∷ way_to t j) r))
