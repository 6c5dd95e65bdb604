-- Scans: a walk over the places that a way may pass, for the rules on live and ready records (specs/Active). From an active place the walk goes
-- to the next one, or, where the record lets nothing through, to the end of what stands below it.
use mathlib.Core.Path.{◌≡◌, refl, sym, ap, ◌∙◌}
use mathlib.Core.Bool.{Bool, true, false}
use mathlib.Core.List.{[], ◌∷◌}
use Prim.Native.Nat.{ℕ, suc, ◌+◌, ◌-◌, ◌<◌}
use native.Mathlib.Omega.{arith}
use lib.Dec.{ltb}
use Rattle.cows.specs.Basics.{every}
use Rattle.cows.specs.Terms.{Term, leaf, under, both, size}
use Rattle.cows.specs.Kinds.{prefix, join, root, kind, kind_of, live_kind}
use Rattle.cows.specs.Places.{Frame, inside, left_of, right_of, passed, Way, Spot, descend, spot_at, way_to, sub}
use Rattle.cows.specs.Active.{on_kind, live, ready}
use Rattle.cows.proofs.Basics.{cond_case, and_true, true_and, every_append, and_none}
use Rattle.cows.proofs.Rows.{live-ready-kind}
use Rattle.cows.proofs.Places.{descend_way, Inherited, inherited_spot, PartOf, part_inherited, part_first, spot_part, spot_under, spot_left}
use Rattle.cows.proofs.Ways.{part_at}

-- a live place is ready
pub live-ready : (w : Way) → live w ≡ true → ready w ≡ true
unfolding live ready every on_kind
live-ready [] e = refl
live-ready (f ∷ w) e = let (p, q) = and_true (live_kind (kind (passed f))) _ e in true_and (live-ready-kind (kind (passed f)) p) (live-ready w q)

module _ (P : ℕ → Bool) where
  -- the way passes only records of kinds of which P holds
  abbrev pub active : Way → Bool
  active w = every (on_kind P) w

  -- behind an active term the next place is active
  over_inherited : (t : Term) → Inherited (λ n (z : Spot). PartOf t n z × (active z.way ≡ true → n + size z.here < size t → active (way_to t (n + size z.here)) ≡ true))
  unfolding size every on_kind passed
  over_inherited t = (
    λ o w u s (p, h). (
      (part_inherited t).0 o w u s p,
      λ e l. ap (λ k. active (way_to t k)) (let z : suc o + size s ≡ o + suc (size s) = omega arith in z) ∙ h (and_true (P (kind (prefix u))) (active w) e).1 (omega arith),
    ),
    λ o w j s r (p, h).
        let (pl, pr) = (part_inherited t).1 o w j s r p in (
          (pl, λ e l. ap (λ k. active (way_to t k)) (let z : suc o + size s ≡ suc (o + size s) = omega arith in z) ∙ (ap active (part_at t (suc (o + size s)) (right_of j s ∷ w) r pr).2 ∙ e)),
          (pr, λ e l. ap (λ k. active (way_to t k)) (let z : suc (o + size s) + size r ≡ o + suc (size s + size r) = omega arith in z) ∙ h (and_true (P (kind (join j))) (active w) e).1 (omega arith)),
        ),
  )

  -- what stands in a frame that lets nothing through is not active
  shut : (w : Way) (f : Frame) (s : Term) (n : ℕ) → P (kind (passed f)) ≡ false → active (descend (f ∷ w) s n).way ≡ false
  unfolding every on_kind
  shut w f s n e = rw (descend_way [] (f ∷ w) s n, every_append (on_kind P) (descend [] s n).way (f ∷ w), e) (and_none (every (on_kind P) (descend [] s n).way))

  module _ (t : Term) (i : ℕ) (l : i < size t) where
    pub active_over : active (way_to t i) ≡ true → i + size (sub t i) < size t → active (way_to t (i + size (sub t i))) ≡ true
    unfolding way_to sub
    active_over =
        (inherited_spot (λ n (z : Spot). PartOf t n z × (active z.way ≡ true → n + size z.here < size t → active (way_to t (n + size z.here)) ≡ true)) (over_inherited t)
        t (part_first t, λ e k. absurd (omega arith)) i l).1

    -- through a record that lets through, the next place is active
    pub active_next : active (way_to t i) ≡ true → P (kind_of (sub t i)) ≡ true → suc i < size t → active (way_to t (suc i)) ≡ true
    unfolding every on_kind passed size kind_of root
    active_next e p m = go (sub t i) refl p
      where
        go : (s : Term) → sub t i ≡ s → P (kind_of s) ≡ true → active (way_to t (suc i)) ≡ true
        go (leaf x) q p =
            let z : i + size (sub t i) ≡ suc i = rw q (omega arith) in
            ap (λ k. active (way_to t k)) (sym z) ∙ active_over e (omega arith)
        go (under u c) q p = ap active (spot_under t i u c l q).2 ∙ true_and p e
        go (both j a b) q p = ap active (spot_left t i j a b l q).2 ∙ true_and p e

    -- below a record that lets nothing through, no place is active
    pub shut_below : P (kind_of (sub t i)) ≡ false → (m : ℕ) → i < m → m < i + size (sub t i) → active (way_to t m) ≡ false
    unfolding way_to sub descend passed kind_of root size
    shut_below p m a b = ap (λ (z : Spot). active z.way) (ap (spot_at t) (let z : m ≡ i + suc k = omega arith in z) ∙ (spot_part t i l).1 (suc k) (omega arith)) ∙ go (sub t i) p (omega arith)
      where
        k : ℕ
        k = m - suc i

        go : (s : Term) → P (kind_of s) ≡ false → suc k < size s → active (descend (way_to t i) s (suc k)).way ≡ false
        go (leaf x) p l = absurd (omega arith)
        go (under u c) p l = shut (way_to t i) (inside u) c k p
        go (both j c d) p l =
            cond_case (λ (z : Spot). active z.way ≡ false) (ltb k (size c)) (λ e. shut (way_to t i) (left_of j d) c k p) (λ e. shut (way_to t i) (right_of j c) d (k - size c) p)
