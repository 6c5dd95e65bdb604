-- The roles that fall away (roles, specs/Roles): by the numbers that the passes find; none in a table that does not reach the greatest depth.
use mathlib.Core.Path.{◌≡◌, refl, ap}
use mathlib.Core.Bool.{cond, ◌&&◌, ◌||◌}
use mathlib.Core.List.{[], ◌∷◌}
use Prim.Native.Nat.{ℕ, ◌+◌, ◌≤◌, ◌<◌}
use native.Mathlib.Omega.{arith}
use lib.Dec.{eqb}
use lib.ListN.{length}
use borrow.Author.Tests.{ne_eqb}
use Rattle.cows.specs.Limits.{max_depth}
use Rattle.cows.specs.Basics.{found_with}
use Rattle.cows.specs.Terms.{Term, both, depth}
use Rattle.cows.specs.Places.{inside, left_of, right_of, plug, Way, fill, way_to, sub}
use Rattle.cows.proofs.Basics.{and_none}
use Rattle.cows.proofs.Places.{fill_spot}
use Rattle.cows.proofs.Ways.{depth_part}
use Rattle.roles.specs.declared.Role.{Role}
use Rattle.roles.specs.declared.Role.TheVariants.{Idle, Unfold, Extrude}
use Rattle.roles.specs.Roles.{is_role, full, beside, crowded, role_of, deepens, open_role}
use Rattle.deepest.specs.Deepest.{side_of}

-- what stands beside a place reaches no deeper than the table
side_part : (w : Way) (s : Term) → side_of w ≤ depth (fill w s)
unfolding side_of fill plug depth
side_part [] s = omega arith
side_part (inside u ∷ w) s = omega arith
side_part (left_of j r ∷ w) s = omega (arith, depth_part w (both j s r))
side_part (right_of j l ∷ w) s = omega (arith, depth_part w (both j l s))

crowded_side : (t : Term) (n : ℕ) → crowded t n ≡ eqb (side_of (way_to t n)) max_depth
unfolding crowded beside side_of found_with
crowded_side t n = go (way_to t n)
  where
    go : (w : Way) → found_with (λ s. eqb (length w + depth s) max_depth) (beside w) ≡ eqb (side_of w) max_depth
    go [] = refl
    go (inside u ∷ w) = refl
    go (left_of j r ∷ w) = refl
    go (right_of j l ∷ w) = refl

-- the role that is left, by what is found
pub left_role : (t : Term) (n : ℕ) (role : Role) (level height side : ℕ) → role ≡ role_of t n → level ≡ length (way_to t n) → height ≡ depth (sub t n) → side ≡ side_of (way_to t n)
    → cond ((is_role role Unfold && eqb (level + height) max_depth) || (is_role role Extrude && eqb side max_depth)) Idle role ≡ open_role t n
unfolding open_role deepens full
left_role t n role level height side e f g h = rw (e, f, g, h, crowded_side t n)

pub shallow_role : (t : Term) (n : ℕ) → depth t < max_depth → open_role t n ≡ role_of t n
unfolding open_role deepens full
shallow_role t n h =
    let e = ap depth (fill_spot t n) in
    rw (
      ne_eqb (length (way_to t n) + depth (sub t n)) max_depth (λ z. omega (arith, depth_part (way_to t n) (sub t n))),
      crowded_side t n,
      ne_eqb (side_of (way_to t n)) max_depth (λ z. omega (arith, side_part (way_to t n) (sub t n))),
      and_none (is_role (role_of t n) Unfold),
      and_none (is_role (role_of t n) Extrude),
    )
