-- Places through one frame: the record at place n of a child, seen from the parent; and how it is carried along.
use mathlib.Core.Path.{◌≡◌, refl, ap, ◌∙◌}
use mathlib.Core.Bool.{◌||◌}
use mathlib.Core.List.{[], ◌∷◌, ◌++◌}
use Prim.Native.Nat.{ℕ, zero, suc, ◌+◌, ◌-◌, ◌<◌}
use native.Mathlib.Omega.{arith}
use lib.Dec.{ltb}
use borrow.Author.Tests.{lt-ltb, le-ltb, ltb-true, ltb-false}
use Rattle.cows.specs.Terms.{Join, Term, leaf, under, both, size}
use Rattle.cows.specs.Places.{Frame, inside, left_of, right_of, plug, Way, Spot, descend, spot_at, way_to, sub, frame_delimits, enclosed}
use Rattle.cows.proofs.Basics.{cond_case, lt_case, any_append}
use Rattle.cows.proofs.Places.{size_pos, descend_way, descend_here, descend-first, descend-left, descend_right}
use Rattle.joint.specs.Singly.{carried}

-- the place of a child's record in the parent
unfoldable pub enter : Frame → ℕ → ℕ
enter (inside u) n = suc n
enter (left_of j t) n = suc n
enter (right_of j s) n = suc (size s + n)

spot_enter : (f : Frame) (s : Term) (n : ℕ) → n < size s → spot_at (plug f s) (enter f n) ≡ descend (f ∷ []) s n
unfolding spot_at plug enter
spot_enter (inside u) s n l = unfold descend in refl
spot_enter (left_of j t) s n l = descend-left [] j s t n l
spot_enter (right_of j r) s n l = descend_right [] j r s n

pub way_enter : (f : Frame) (s : Term) (n : ℕ) → n < size s → way_to (plug f s) (enter f n) ≡ way_to s n ++ (f ∷ [])
unfolding way_to spot_at
way_enter f s n l = ap (λ (z : Spot). z.way) (unfold spot_at in spot_enter f s n l) ∙ descend_way [] (f ∷ []) s n

pub here_enter : (f : Frame) (s : Term) (n : ℕ) → n < size s → sub (plug f s) (enter f n) ≡ sub s n
unfolding sub spot_at
here_enter f s n l = ap (λ (z : Spot). z.here) (unfold spot_at in spot_enter f s n l) ∙ descend_here (f ∷ []) [] s n

pub way_root : (t : Term) → way_to t 0 ≡ []
unfolding way_to spot_at
way_root t = ap (λ (z : Spot). z.way) (descend-first [] t)

pub here_root : (t : Term) → sub t 0 ≡ t
unfolding sub spot_at
here_root t = ap (λ (z : Spot). z.here) (descend-first [] t)

-- enclosed from the parent: by a record in the child, or by the frame
pub enclosed_more : (d : ℕ) (v w : Way) → enclosed d (v ++ w) ≡ (enclosed d v || enclosed d w)
unfolding enclosed
enclosed_more d v w = any_append (frame_delimits d) v w

-- the places of a term with a child: the root, those in the child, and those beside it
pub data Place : Frame → Term → ℕ → Type 0 where
  root : {f : Frame} {s : Term} → Place f s 0
  below : {f : Frame} {s : Term} (n : ℕ) → n < size s → Place f s (enter f n)
  on_right : {j : Join} {r s : Term} (n : ℕ) → n < size r → Place (left_of j r) s (enter (right_of j s) n)
  on_left : {j : Join} {r s : Term} (n : ℕ) → n < size r → Place (right_of j r) s (enter (left_of j s) n)

pub place : (f : Frame) (s : Term) (p : ℕ) → p < size (plug f s) → Place f s p
unfolding plug size enter
place f s zero l = root
place (inside u) s (suc n) l = below {f = inside u} {s = s} n (omega arith)
place (left_of j r) s (suc n) l =
    lt_case (Place (left_of j r) s (suc n)) n (size s) (λ h. below {f = left_of j r} {s = s} n h)
    (λ h. let e : suc (size s + (n - size s)) ≡ suc n = omega arith in rw e at (on_right {j = j} {r = r} {s = s} (n - size s) (omega arith)))
place (right_of j r) s (suc n) l =
    lt_case (Place (right_of j r) s (suc n)) n (size r) (λ h. on_left {j = j} {r = r} {s = s} n h)
    (λ h. let e : suc (size r + (n - size r)) ≡ suc n = omega arith in rw e at (below {f = right_of j r} {s = s} (n - size r) (omega arith)))

-- what is carried stays in the term; in a term that stays it stays where it is
pub carried_fits : (t r : Term) (n : ℕ) → carried t r n < size r
unfolding carried size
carried_fits (leaf x) r n = size_pos r
carried_fits (under u t) (leaf y) n = omega arith
carried_fits (under u t) (under v r) zero = omega arith
carried_fits (under u t) (under v r) (suc n) = omega (arith, carried_fits t r n)
carried_fits (under u t) (both i q r) n = omega arith
carried_fits (both j s t) (leaf y) n = omega arith
carried_fits (both j s t) (under v r) n = omega arith
carried_fits (both j s t) (both i q r) zero = omega arith
carried_fits (both j s t) (both i q r) (suc n) =
    cond_case (λ m. suc m < suc (size q + size r)) (ltb n (size s)) (λ e. omega (arith, carried_fits s q n)) (λ e. omega (arith, carried_fits t r (n - size s)))

carried_same : (t : Term) (n : ℕ) → n < size t → carried t t n ≡ n
unfolding carried size
carried_same (leaf x) n l = omega arith
carried_same (under u t) zero l = refl
carried_same (under u t) (suc n) l = ap suc (carried_same t n (omega arith))
carried_same (both j s t) zero l = refl
carried_same (both j s t) (suc n) l =
    ap suc
    (cond_case (λ m. m ≡ n) (ltb n (size s)) (λ e. carried_same s n (ltb-true n (size s) e))
    (λ e. omega (arith, ltb-false n (size s) e, carried_same t (n - size s) (omega (arith, ltb-false n (size s) e)))))

-- carried in a child that changes, and beside it
pub carried-enter : (f : Frame) (s r : Term) (n : ℕ) → n < size s → carried (plug f s) (plug f r) (enter f n) ≡ enter f (carried s r n)
unfolding carried plug enter
carried-enter (inside u) s r n l = refl
carried-enter (left_of j t) s r n l = rw (lt-ltb n (size s) l)
carried-enter (right_of j t) s r n l =
    let e : size t + n - size t ≡ n = omega arith in
    rw (le-ltb (size t + n) (size t) (omega arith), e)

pub carried_right : (j : Join) (s r q : Term) (n : ℕ) → n < size q → carried (both j s q) (both j r q) (enter (right_of j s) n) ≡ enter (right_of j r) n
unfolding carried enter
carried_right j s r q n l =
    let e : size s + n - size s ≡ n = omega arith in
    rw (le-ltb (size s + n) (size s) (omega arith), e, carried_same q n l)

pub carried-left : (j : Join) (s r q : Term) (n : ℕ) → n < size q → carried (both j q s) (both j q r) (enter (left_of j s) n) ≡ enter (left_of j r) n
unfolding carried enter
carried-left j s r q n l = rw (lt-ltb n (size q) l, carried_same q n l)
