-- The greatest depth (refusal 20): only what reaches it cannot be unfolded, nor be passed by a delimitation that floats.
use mathlib.Core.Path.{◌≡◌, refl, sym, ap, ◌∙◌}
use mathlib.Core.Bool.{true, not, ◌&&◌}
use mathlib.Core.List.{◌∷◌}
use Prim.Native.Nat.{ℕ, suc, ◌+◌, ◌≤◌, max}
use native.Mathlib.Omega.{arith}
use lib.Dec.{leb, eqb}
use lib.ListN.{length}
use borrow.Author.Tests.{le-leb, leb-true, ne_eqb, not-true, eqb-false}
use Rattle.cows.specs.Limits.{max_records, max_depth}
use Rattle.cows.specs.Terms.{Prefix, delimitation, Join, Term, under, size, depth, below}
use Rattle.cows.specs.Places.{Frame, inside, left_of, right_of, plug, Way, fill, way_to, sub}
use Rattle.cows.specs.Within.{Within}
use Rattle.cows.proofs.Basics.{same_test}
use Rattle.cows.proofs.Places.{fill_spot}
use Rattle.cows.proofs.Ways.{depth_part}
use Rattle.roles.specs.Roles.{full}
use Rattle.criteria.specs.Criteria.{unfolds, lifts}

-- one more is allowed exactly if the greatest is not reached
one_more : (n : ℕ) → n ≤ max_depth → leb (suc n) max_depth ≡ not (eqb n max_depth)
one_more n h =
    same_test
    (λ e. ap not (ne_eqb n max_depth (λ z. omega (arith, leb-true (suc n) max_depth e))))
    (λ e. le-leb (suc n) max_depth (lt_of (eqb-false n max_depth (not-true _ e))))
  where
    lt_of : (n ≡ max_depth → ⊥) → suc n ≤ max_depth
    lt_of z = omega arith

module _ (t : Term) (w : Within t) (a : ℕ) where
  reach : length (way_to t a) + depth (sub t a) ≤ max_depth
  reach = omega (arith, depth_part (way_to t a) (sub t a), ap depth (fill_spot t a), w.shallow)

  pub unfold_full : unfolds t a ≡ (leb (size t + size (sub t a)) max_records && not (full t a))
  unfolding unfolds full
  unfold_full =
      let z : length (way_to t a) + 1 + depth (sub t a) ≡ suc (length (way_to t a) + depth (sub t a)) = omega arith in
      rw (z, one_more (length (way_to t a) + depth (sub t a)) reach)

  -- An extrusion, by the frame above: a prefix takes part in it without going deeper; of a choice or a parallel the other side does.
  module _ (d : ℕ) (e : sub t a ≡ under (delimitation d) (below (sub t a))) where
    abbrev body : Term
    body = below (sub t a)

    depth_here : depth (sub t a) ≡ suc (depth body)
    unfolding depth
    depth_here = ap depth e

    whole : (f : Frame) (v : Way) → way_to t a ≡ f ∷ v → length v + depth (plug f (sub t a)) ≤ max_depth
    unfolding fill
    whole f v q = omega (arith, depth_part v (plug f (sub t a)), ap depth (ap (λ x. fill x (sub t a)) (sym q) ∙ fill_spot t a), w.shallow)

    pub lift_inside : (u : Prefix) (v : Way) → way_to t a ≡ inside u ∷ v → lifts (way_to t a) body ≡ true
    unfolding lifts plug depth
    lift_inside u v q = rw q (le-leb (length v + suc (suc (depth body))) max_depth (omega (arith, whole (inside u) v q, depth_here)))

    -- f is a record with two sides, the other one r
    lift_beside : (f : Frame) (v : Way) (r : Term) → way_to t a ≡ f ∷ v → ((s : Term) → depth (plug f s) ≡ suc (max (depth s) (depth r)))
        → lifts (way_to t a) body ≡ not (eqb (length (way_to t a) + depth r) max_depth)
    unfolding lifts
    lift_beside f v r q deep =
        let n = suc (length v) + depth r in
        rw (q, ← one_more n (omega (arith, whole f v q, deep (sub t a))))
        (same_test
        (λ y. le-leb (suc n) max_depth (omega (arith, leb-true (length v + suc (depth (plug f body))) max_depth y, deep body)))
        (λ y. le-leb (length v + suc (depth (plug f body))) max_depth (omega (arith, leb-true (suc n) max_depth y, deep body, deep (sub t a), depth_here, whole f v q))))

    pub lift_left : (j : Join) (r : Term) (v : Way) → way_to t a ≡ left_of j r ∷ v → lifts (way_to t a) body ≡ not (eqb (length (way_to t a) + depth r) max_depth)
    unfolding plug depth
    lift_left j r v q = lift_beside (left_of j r) v r q (λ s. refl)

    pub lift_right : (j : Join) (r : Term) (v : Way) → way_to t a ≡ right_of j r ∷ v → lifts (way_to t a) body ≡ not (eqb (length (way_to t a) + depth r) max_depth)
    unfolding plug depth
    lift_right j r v q = lift_beside (right_of j r) v r q (λ s. omega arith)
