-- What a firing kill leaves (after_kill of Moves), by recursion on the term inside its delimitation (specs/Halting).
use mathlib.Core.Path.{◌≡◌, refl, sym, ap, subst, ◌∙◌}
use mathlib.Core.Bool.{true, false}
use mathlib.Core.List.{[], ◌∷◌, ◌++◌, map}
use Prim.Native.Nat.{ℕ, zero, suc, ◌+◌, ◌-◌, ◌<◌}
use native.Mathlib.Omega.{arith}
use lib.Dec.{ltb}
use borrow.Author.Tests.{eq-eqb}
use Rattle.cows.specs.Basics.{any, every, found_with, one_if}
use Rattle.cows.specs.Terms.{Basic, nil, kill, invoke, Prefix, receive, wait, protection, delimitation, replication, Join, choice, parallel, Term, leaf, under, both, size, delimits, delimits_atom}
use Rattle.cows.specs.Kinds.{guard, open_kinds}
use Rattle.cows.specs.Places.{Frame, inside, left_of, right_of, plug, Way, fill, Spot, descend, spot_at, way_to, sub, frame_delimits, enclosed, passed}
use Rattle.cows.specs.Within.{Guarded, counts, Within}
use Rattle.cows.specs.Active.{live, on_kind}
use Rattle.cows.specs.Moves.{halt_beside, halt_inside, after_kill}
use Rattle.cows.specs.Allows.{Stands, StandsLive}
use Rattle.cows.proofs.Basics.{never, cond_case, cond_case₂, and_true, or_false, not_so, every_append}
use Rattle.cows.specs.Records.{At}
use Rattle.cows.proofs.Places.{fill_spot, fill_append, descend_way, descend_here, at_part}
use Rattle.cows.proofs.Stands.{sub_ind}
use Rattle.cows.proofs.Scopes.{counts-fill, counts-enclosed}
use Rattle.rewriting.specs.Halting.{halt_aside}

-- both parts of a live way are live
live-parts : (v w : Way) → live (v ++ w) ≡ true → (live v ≡ true) × (live w ≡ true)
unfolding live
live-parts v w h = and_true (live v) (live w) (rw every_append at h)

pub live-behind : (w : Way) (t : Term) (n : ℕ) → live (descend w t n).way ≡ true → live w ≡ true
live-behind w t n h = (live-parts (descend [] t n).way w (rw (descend_way [] w t n) at h)).1

-- No live kill stands in a guard: what is behind a guard's prefix is not live.
pub no-under : {u : Prefix} {t : Term} {x : Basic} → under u t ≡ leaf x → ⊥
no-under e = let z : ◌≡◌ {A = ℕ} 0 1 = cc in omega arith

pub no_both : {j : Join} {s t : Term} {x : Basic} → both j s t ≡ leaf x → ⊥
no_both e = let z : ◌≡◌ {A = ℕ} 0 1 = cc in omega arith

pub guard-kill : (w : Way) (s : Term) (n k : ℕ) → guard s ≡ true → Guarded s → live (descend w s n).way ≡ true → (descend w s n).here ≡ leaf (kill k) → ⊥
unfolding descend live every on_kind passed open_kinds
guard-kill w (leaf nil) n k g h l e = let z : ◌≡◌ {A = ℕ} 0 1 = cc in omega arith
guard-kill w (leaf (kill i)) n k g h l e = never g
guard-kill w (leaf (invoke p o ws)) n k g h l e = never g
guard-kill w (under (receive p o ws) t) zero k g h l e = no-under e
guard-kill w (under (receive p o ws) t) (suc n) k g h l e = never (live-behind (inside (receive p o ws) ∷ w) t n l)
guard-kill w (under (wait i) t) zero k g h l e = no-under e
guard-kill w (under (wait i) t) (suc n) k g h l e = never (live-behind (inside (wait i) ∷ w) t n l)
guard-kill w (under protection t) n k g h l e = never g
guard-kill w (under (delimitation d) t) n k g h l e = never g
guard-kill w (under replication t) n k g h l e = never g
guard-kill w (both choice s t) zero k g h l e = no_both e
guard-kill w (both choice s t) (suc n) k g h l e =
    cond_case (λ (z : Spot). live z.way ≡ true → z.here ≡ leaf (kill k) → ⊥) (ltb n (size s))
    (λ _. guard-kill (left_of choice t ∷ w) s n k h.0.0 h.1) (λ _. guard-kill (right_of choice s ∷ w) t (n - size s) k h.0.1 h.2) l e
guard-kill w (both parallel s t) n k g h l e = never g

-- So the way to a live kill passes no choice, and what is beside the way is halted.
aside_fill : (w : Way) (t : Term) (n k : ℕ) → Guarded t → live (descend w t n).way ≡ true → (descend w t n).here ≡ leaf (kill k)
    → fill (map halt_beside (descend w t n).way) (leaf nil) ≡ fill (map halt_beside w) (halt_aside n t)
unfolding descend halt_aside fill plug halt_beside open_kinds
aside_fill w (leaf x) n k g l e = refl
aside_fill w (under u t) zero k g l e = absurd (no-under e)
aside_fill w (under u t) (suc n) k g l e = aside_fill (inside u ∷ w) t n k g l e
aside_fill w (both j s t) zero k g l e = absurd (no_both e)
aside_fill w (both choice s t) (suc n) k g l e = absurd (guard-kill w (both choice s t) (suc n) k (unfold guard in refl) g l e)
aside_fill w (both parallel s t) (suc n) k g l e =
    cond_case₂ (λ (z : Spot) (r : Term). live z.way ≡ true → z.here ≡ leaf (kill k) → fill (map halt_beside z.way) (leaf nil) ≡ fill (map halt_beside w) r) (ltb n (size s))
    (λ _. aside_fill (left_of parallel t ∷ w) s n k g.1) (λ _. aside_fill (right_of parallel s ∷ w) t (n - size s) k g.2) l e

pub halt_aside_lem : (t : Term) (n k : ℕ) → Guarded t → StandsLive t n (leaf (kill k)) → fill (map halt_beside (way_to t n)) (leaf nil) ≡ halt_aside n t
unfolding way_to sub spot_at fill
halt_aside_lem t n k g l = aside_fill [] t n k g l.live l.at.stands

-- halting stops at the [k] nearest to the kill
halt-inside : (k : ℕ) (v w : Way) (f : Frame) → enclosed k v ≡ false → frame_delimits k f ≡ true → halt_inside k (v ++ (f ∷ w)) ≡ map halt_beside v ++ (f ∷ w)
unfolding halt_inside enclosed any
halt-inside k [] w f h e = rw e
halt-inside k (g ∷ v) w f h e =
    let (a, b) = or_false (frame_delimits k g) (enclosed k v) h in rw a (ap (λ (r : Way). halt_beside g ∷ r) (halt-inside k v w f b e))

pub guarded_at : (t : Term) (n : ℕ) → Guarded t → Guarded (sub t n)
guarded_at = sub_ind Guarded (λ u t h. h) (λ j s t h. (h.1, h.2))

delimits-itself : (k : ℕ) → delimits_atom k (delimitation k) ≡ true
unfolding delimits_atom delimits found_with
delimits-itself k = eq-eqb k k refl

-- A live kill at place n inside the [k] at place q, with c the body of [k]; no [k] stands inside another.
module _ (k : ℕ) (t : Term) (n q : ℕ) (c : Term) (w : Within t) (l : StandsLive t n (leaf (kill k))) (d : Stands t q (under (delimitation k) c))
    (low : q < n) (high : n < q + size (under (delimitation k) c)) where
  -- the place of the kill in c
  abbrev m : ℕ
  m = n - q - 1

  at_kill : At t n (way_to c m ++ (inside (delimitation k) ∷ way_to t q)) (sub c m)
  unfolding descend way_to sub spot_at size
  at_kill =
      let f : Way = inside (delimitation k) ∷ way_to t q in
      subst (λ a. At t a (way_to c m ++ f) (sub c m)) (omega arith)
      (at_part t q (suc m) (under (delimitation k) c) (way_to c m ++ f) (sub c m) d.placed d.stands (omega arith)
      (rw (← descend_way [] f c m, ← descend_here f [] c m)))

  pub live-kill : StandsLive c m (leaf (kill k))
  unfolding size
  live-kill = record {
    at = record { placed = omega arith; stands = sym at_kill.1 ∙ l.at.stands };
    live = (live-parts (way_to c m) (inside (delimitation k) ∷ way_to t q) (rw at_kill.2 at l.live)).0;
  }

  unenclosed : enclosed k (way_to c m) ≡ false
  unenclosed = not_so λ h. omega (
    arith,
    ap one_if (delimits-itself k),
    ap (counts k) d.stands,
    ap (counts k) (fill_spot t q),
    ap (counts k) (fill_spot c m),
    counts-fill (way_to t q) (sub t q) k,
    counts-enclosed (way_to c m) (sub c m) k h,
    w.formed.unique k,
  )

  pub after-kill : after_kill k t n ≡ fill (way_to t q) (under (delimitation k) (halt_aside (n - q - 1) c))
  unfolding after_kill fill plug
  after-kill =
      let f : Frame = inside (delimitation k) in
      let g : Guarded c = rw d.stands at (guarded_at t q w.formed.guarded) in
      rw (at_kill.2, halt-inside k (way_to c m) (way_to t q) f unenclosed (unfold frame_delimits in delimits-itself k), fill_append (map halt_beside (way_to c m)) (f ∷ way_to t q) (leaf nil))
      (ap (λ r. fill (way_to t q) (under (delimitation k) r)) (halt_aside_lem c m k g live-kill))
