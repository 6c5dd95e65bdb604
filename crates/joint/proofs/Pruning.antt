-- A kill makes nil of some subterms and changes nothing else. So no term becomes larger or deeper (refusal 20 cannot come of it), and a place that is carried
-- along names the record that it named, or the nil that stands for it.
use mathlib.Core.Path.{◌≡◌, refl, sym, ap, subst, ◌∙◌}
use mathlib.Core.Bool.{true, cond}
use mathlib.Core.List.{List, [], ◌∷◌, ◌++◌, map, append_assoc, append-nil}
use Prim.Native.Nat.{ℕ, zero, suc, ◌+◌, ◌-◌, ◌≤◌, ◌<◌}
use native.Mathlib.Omega.{arith}
use borrow.Author.Tests.{lt-ltb, le-ltb}
use Rattle.cows.specs.Terms.{Basic, nil, kill, Prefix, receive, wait, protection, delimitation, replication, Join, choice, parallel, Term, leaf, under, both, size, depth}
use Rattle.cows.specs.Places.{Frame, inside, left_of, right_of, plug, Way, fill, way_to, sub, spot_at, descend, frame_delimits, enclosed}
use Rattle.cows.specs.Moves.{halt_under, halt_both, halt, halt_beside, halt_inside, after_kill}
use Rattle.cows.proofs.Basics.{cond_case, cond_case₂, lt_case}
use Rattle.cows.proofs.Places.{size_pos, fill_spot, fill_ind}
use Rattle.cows.proofs.Ways.{depth_pos, size-swap}
use Rattle.joint.specs.Joint.{label_at}
use Rattle.joint.specs.Singly.{carried, gone_by}
use Rattle.joint.proofs.Entering.{enter, way_root, way_enter, here_root, here_enter, carried_fits}
use Rattle.joint.proofs.Firing.{up_to}

pub data Pruned : Term → Term → Type 0 where
  gone : {t : Term} → Pruned t (leaf nil)
  stays : {x : Basic} → Pruned (leaf x) (leaf x)
  down : {u : Prefix} {s r : Term} → Pruned s r → Pruned (under u s) (under u r)
  across : {j : Join} {s t q r : Term} → Pruned s q → Pruned t r → Pruned (both j s t) (both j q r)

pruned_same : (t : Term) → Pruned t t
pruned_same (leaf x) = stays
pruned_same (under u t) = down (pruned_same t)
pruned_same (both j s t) = across (pruned_same s) (pruned_same t)

pruned-halt : (t : Term) → Pruned t (halt t)
unfolding halt halt_under halt_both
pruned-halt (leaf x) = gone
pruned-halt (under (receive p o ws) t) = gone
pruned-halt (under (wait n) t) = gone
pruned-halt (under protection t) = pruned_same (under protection t)
pruned-halt (under (delimitation d) t) = down (pruned-halt t)
pruned-halt (under replication t) = down (pruned-halt t)
pruned-halt (both choice s t) = gone
pruned-halt (both parallel s t) = across (pruned-halt s) (pruned-halt t)

pruned-plug : (f : Frame) (s r : Term) → Pruned s r → Pruned (plug f s) (plug f r)
unfolding plug
pruned-plug (inside u) s r h = down h
pruned-plug (left_of j t) s r h = across h (pruned_same t)
pruned-plug (right_of j t) s r h = across (pruned_same t) h

pruned-beside : (f : Frame) (s r : Term) → Pruned s r → Pruned (plug f s) (plug (halt_beside f) r)
unfolding plug halt_beside
pruned-beside (inside u) s r h = down h
pruned-beside (left_of choice t) s r h = across h (pruned_same t)
pruned-beside (left_of parallel t) s r h = across h (pruned-halt t)
pruned-beside (right_of choice t) s r h = across (pruned_same t) h
pruned-beside (right_of parallel t) s r h = across (pruned-halt t) h

pruned-inside : (k : ℕ) (w : Way) (s r : Term) → Pruned s r → Pruned (fill w s) (fill (halt_inside k w) r)
unfolding fill halt_inside
pruned-inside k [] s r h = h
pruned-inside k (f ∷ w) s r h =
    cond_case (λ v. Pruned (fill w (plug f s)) (fill v r)) (frame_delimits k f)
    (λ e. fill_ind Pruned pruned-plug w (plug f s) (plug f r) (pruned-plug f s r h))
    (λ e. pruned-inside k w (plug f s) (plug (halt_beside f) r) (pruned-beside f s r h))

pub pruned-kill : (k : ℕ) (t : Term) (a : ℕ) → Pruned t (after_kill k t a)
unfolding after_kill
pruned-kill k t a =
    subst (λ s. Pruned s (fill (halt_inside k (way_to t a)) (leaf nil))) (fill_spot t a) (pruned-inside k (way_to t a) (sub t a) (leaf nil) gone)

-- size and depth
pruned_smaller : {t r : Term} → Pruned t r → (size r ≤ size t) × (depth r ≤ depth t)
unfolding size depth
pruned_smaller (gone {t = t}) = (size_pos t, depth_pos t)
pruned_smaller stays = (omega arith, omega arith)
pruned_smaller (down p) = let h = pruned_smaller p in (omega (arith, h.0), omega (arith, h.1))
pruned_smaller (across p q) =
    let h = pruned_smaller p in
    let k = pruned_smaller q in
    (omega (arith, h.0, k.0), omega (arith, h.1, k.1))

pub smaller_kill : (k : ℕ) (t : Term) (a : ℕ) → (size (after_kill k t a) ≤ size t) × (depth (after_kill k t a) ≤ depth t)
smaller_kill k t a = pruned_smaller (pruned-kill k t a)

-- The records that a kill of k takes away, counted along its way inside [k].
unfoldable pub gone_beside : Frame → ℕ
gone_beside (inside u) = 0
gone_beside (left_of choice t) = 0
gone_beside (left_of parallel t) = size t - size (halt t)
gone_beside (right_of choice s) = 0
gone_beside (right_of parallel s) = size s - size (halt s)

unfoldable pub gone_on : ℕ → Way → ℕ
gone_on k [] = 0
gone_on k (f ∷ w) = cond (frame_delimits k f) 0 (gone_beside f + gone_on k w)

size-beside : (f : Frame) (s : Term) → size (plug f s) ≡ size (plug (halt_beside f) s) + gone_beside f
unfolding plug halt_beside gone_beside size
size-beside (inside u) s = omega arith
size-beside (left_of choice t) s = omega arith
size-beside (left_of parallel t) s = omega (arith, (pruned_smaller (pruned-halt t)).0)
size-beside (right_of choice t) s = omega arith
size-beside (right_of parallel t) s = omega (arith, (pruned_smaller (pruned-halt t)).0)

size-inside : (k : ℕ) (w : Way) (s : Term) → size (fill w s) ≡ size (fill (halt_inside k w) s) + gone_on k w
unfolding fill halt_inside gone_on
size-inside k [] s = omega arith
size-inside k (f ∷ w) s =
    cond_case₂ (λ (v : Way) (n : ℕ). size (fill w (plug f s)) ≡ size (fill v s) + n) (frame_delimits k f) (λ e. unfold fill in omega arith)
    (λ e. unfold fill in
    omega (arith, size-inside k w (plug f s), size-swap (halt_inside k w) (plug f s) (plug (halt_beside f) s), size-beside f s))

size-kill : (k : ℕ) (t : Term) (a : ℕ) → size (sub t a) ≡ 1 → size t ≡ size (after_kill k t a) + gone_on k (way_to t a)
unfolding after_kill size
size-kill k t a e =
    omega (arith, ap size (fill_spot t a), size-inside k (way_to t a) (sub t a), size-swap (halt_inside k (way_to t a)) (sub t a) (leaf nil))

pub gone_more : (k : ℕ) (v w : Way) → enclosed k v ≡ true → gone_on k (v ++ w) ≡ gone_on k v
unfolding gone_on
gone_more k = up_to k 0 (λ f n. gone_beside f + n) (gone_on k) (λ f w. refl)

-- on the table before (specs/Singly)
pub gone_is : (t : Term) (a : ℕ) (k : ℕ) → sub t a ≡ leaf (kill k) → gone_by t a ≡ gone_on (label_at t a) (way_to t a)
unfolding size
gone_is t a k e = omega (arith, size-kill (label_at t a) t a (ap size e))

-- The first record of r is that of t, or the nil that stands for it.
pub data Names : Term → Term → Type 0 where
  nilled : {t : Term} → Names t (leaf nil)
  same_leaf : {x : Basic} → Names (leaf x) (leaf x)
  same_under : {u : Prefix} {s r : Term} → Names (under u s) (under u r)
  same_both : {j : Join} {s t q r : Term} → Names (both j s t) (both j q r)

-- Which way is taken at each record, the nearest first: this says which record of a term it is, whatever stands beside the way.
unfoldable pub turn : Frame → ℕ
turn (inside u) = 0
turn (left_of j t) = 1
turn (right_of j s) = 2

abbrev pub turns : Way → List ℕ
turns w = map turn w

-- The record at place n of t is the one at place m of r, or, if turns are left over, stood below one that has become nil there.
pub record Traced (t : Term) (n : ℕ) (r : Term) (m : ℕ) : Type 0 where
  pub over : List ℕ
  pub same_turns : turns (way_to t n) ≡ over ++ turns (way_to r m)
  pub names : Names (sub t n) (sub r m)
  pub gone-below : (over ≡ [] → ⊥) → sub r m ≡ leaf nil

turns_more : (w : Way) (f : Frame) → turns (w ++ (f ∷ [])) ≡ turns w ++ (turn f ∷ [])
turns_more [] f = refl
turns_more (g ∷ w) f = ap (λ (x : List ℕ). turn g ∷ x) (turns_more w f)

traced_enter : (f g : Frame) (s r : Term) (n m : ℕ) → turn f ≡ turn g → n < size s → m < size r → Traced s n r m → Traced (plug f s) (enter f n) (plug g r) (enter g m)
traced_enter f g s r n m e l h k = record {
  over = k.over;
  same_turns =
      ap turns (way_enter f s n l)
      ∙ (turns_more (way_to s n) f
      ∙ (ap (λ (x : List ℕ). x ++ (turn f ∷ [])) k.same_turns
      ∙ (append_assoc k.over (turns (way_to r m)) (turn f ∷ [])
      ∙ ap (λ (x : List ℕ). k.over ++ x)
      (ap (λ d. turns (way_to r m) ++ (d ∷ [])) e ∙ (sym (turns_more (way_to r m) g) ∙ ap turns (sym (way_enter g r m h)))))));
  names = rw (here_enter f s n l, here_enter g r m h) k.names;
  gone-below = λ x. here_enter g r m h ∙ k.gone-below x;
}

traced_under : (u : Prefix) (s r : Term) (n : ℕ) → n < size s → Traced s n r (carried s r n) → Traced (under u s) (suc n) (under u r) (carried (under u s) (under u r) (suc n))
unfolding carried plug enter
traced_under u s r n l h = traced_enter (inside u) (inside u) s r n (carried s r n) refl l (carried_fits s r n) h

traced_left : (j : Join) (s t q r : Term) (n : ℕ) → n < size s → Traced s n q (carried s q n) → Traced (both j s t) (suc n) (both j q r) (carried (both j s t) (both j q r) (suc n))
unfolding carried plug enter turn
traced_left j s t q r n l h =
    rw (lt-ltb n (size s) l) (traced_enter (left_of j t) (left_of j r) s q n (carried s q n) refl l (carried_fits s q n) h)

traced_right : (j : Join) (s t q r : Term) (n : ℕ) → n < size t → Traced t n r (carried t r n)
    → Traced (both j s t) (suc (size s + n)) (both j q r) (carried (both j s t) (both j q r) (suc (size s + n)))
unfolding carried plug enter turn
traced_right j s t q r n l h =
    let e : size s + n - size s ≡ n = omega arith in
    rw (le-ltb (size s + n) (size s) (omega arith), e) (traced_enter (right_of j s) (right_of j q) t r n (carried t r n) refl l (carried_fits t r n) h)

traced_root : (t r : Term) → Names t r → Traced t 0 r 0
traced_root t r h = record {
  over = [];
  same_turns = ap turns (way_root t ∙ sym (way_root r));
  names = rw (here_root t, here_root r) h;
  gone-below = λ x. absurd (x refl);
}

pub traced : {t r : Term} → Pruned t r → (n : ℕ) → n < size t → Traced t n r (carried t r n)
unfolding carried size
traced (gone {t = t}) n l = unfold sub way_to spot_at descend in record {
  over = turns (way_to t n);
  same_turns = sym (append-nil (turns (way_to t n)));
  names = nilled;
  gone-below = λ x. refl;
}
traced (stays {x = x}) zero l = traced_root (leaf x) (leaf x) same_leaf
traced stays (suc n) l = absurd (omega arith)
traced (down {u = u} {s = s} {r = r} p) zero l = traced_root (under u s) (under u r) same_under
traced (down {u = u} {s = s} {r = r} p) (suc n) l = traced_under u s r n (omega arith) (traced p n (omega arith))
traced (across {j = j} {s = s} {t = t} {q = x} {r = r} p q) zero l = traced_root (both j s t) (both j x r) same_both
traced (across {j = j} {s = s} {t = t} {q = x} {r = r} p q) (suc n) l =
    lt_case (Traced (both j s t) (suc n) (both j x r) (carried (both j s t) (both j x r) (suc n))) n (size s)
    (λ h. traced_left j s t x r n h (traced p n h))
    (λ h. let e : suc (size s + (n - size s)) ≡ suc n = omega arith in
    subst (λ m. Traced (both j s t) m (both j x r) (carried (both j s t) (both j x r) m)) e
    (traced_right j s t x r (n - size s) (omega arith) (traced q (n - size s) (omega arith))))
