-- Unfoldings and floatings by the role of the record and the greatest depth (roles, specs/Roles).
use mathlib.Core.Path.{◌≡◌, refl, sym, ap, ◌∙◌}
use mathlib.Core.Bool.{Bool, true, false, not, ◌&&◌}
use mathlib.Core.Option.{Option, none, some}
use mathlib.Core.List.{[], ◌∷◌}
use Prim.Native.Nat.{ℕ, ◌+◌, ◌<◌}
use native.Mathlib.Omega.{arith}
use lib.Dec.{leb, ltb}
use lib.ListN.{length}
use borrow.Author.Tests.{lt-ltb}
use Rattle.cows.specs.Limits.{max_records}
use Rattle.cows.specs.Basics.{found_with, found}
use Rattle.cows.specs.Terms.{Term, under, delimitation, size, prefixed, delimits, replicates, label, below}
use Rattle.cows.specs.Places.{Frame, inside, left_of, right_of, Way, way_to, sub}
use Rattle.cows.specs.Records.{ahead}
use Rattle.cows.specs.Within.{Within}
use Rattle.cows.specs.Moves.{Unfold, Extrude}
use Rattle.cows.proofs.Stands.{looks}
use Rattle.cows.proofs.Ways.{length-ahead, above_at}
use Rattle.roles.specs.Roles.{seen, beside, full, crowded, repeating, floating}
use Rattle.opening.specs.Opening.{is_open}
use Rattle.criteria.specs.Criteria.{lifts}
use Rattle.criteria.proofs.Seen.{seen-prefix}
use Rattle.criteria.proofs.Solo.{unfold_open, extrude_open}
use Rattle.criteria.proofs.Depths.{unfold_full, lift_inside, lift_left, lift_right}

and_again : (a b c : Bool) → (a && (b && c)) ≡ ((a && b) && c)
and_again true b c = refl
and_again false b c = refl

module _ (t : Term) (w : Within t) (a : ℕ) where
  pub unfold_role_lem : is_open t (Unfold a) ≡ (repeating t a && not (full t a))
  unfolding repeating
  unfold_role_lem = unfold_open t w a ∙ rw (unfold_full t w a) (and_again (found (seen (prefixed replicates) t a)) (leb (size t + size (sub t a)) max_records) (not (full t a)))

  module _ (l : a < size t) where
    -- the root is the place without a record above it
    inner : (f : Frame) (v : Way) → way_to t a ≡ f ∷ v → ltb 0 a ≡ true
    inner f v q = lt-ltb 0 a (omega (arith, (above_at t a f v (sub t a) (l, refl, q)).0))

    lift_role : (d : ℕ) → sub t a ≡ under (delimitation d) (below (sub t a)) → (v : Way) → way_to t a ≡ v → lifts (way_to t a) (below (sub t a)) ≡ (ltb 0 a && not (crowded t a))
    unfolding lifts crowded beside found_with ahead
    lift_role d e [] q = let z : a ≡ 0 = sym (length-ahead t a l) ∙ ap (λ v. length (ahead v)) q in rw (q, z)
    lift_role d e (inside u ∷ v) q = lift_inside t w a d e u v q ∙ rw (inner (inside u) v q, q)
    lift_role d e (left_of j r ∷ v) q = lift_left t w a d e j r v q ∙ rw (inner (left_of j r) v q, q)
    lift_role d e (right_of j r ∷ v) q = lift_right t w a d e j r v q ∙ rw (inner (right_of j r) v q, q)

    pub extrude_role_lem : is_open t (Extrude a) ≡ (floating t a && not (crowded t a))
    unfolding floating found_with
    extrude_role_lem = extrude_open t w a ∙ go (seen (prefixed delimits) t a) refl
      where
        go : (o : Option ℕ) → seen (prefixed delimits) t a ≡ o
            → found_with (λ d. not (label d) && lifts (way_to t a) (below (sub t a))) o ≡ ((found_with (λ d. not (label d)) o && ltb 0 a) && not (crowded t a))
        go none e = refl
        go (some d) e =
            let x = seen-prefix delimits delimitation (λ u. (looks u).delimiting) t a d e in
            rw (lift_role d x.at.stands (way_to t a) refl) (and_again (not (label d)) (ltb 0 a) (not (crowded t a)))
