-- Parts of a term: a place inside the term at a place, as a place of the whole, and where what stands there ends.
use mathlib.Core.Path.{◌≡◌, sym, ap, ◌∙◌}
use mathlib.Core.List.{[], ◌++◌}
use Prim.Native.Nat.{ℕ, ◌+◌, ◌-◌, ◌≤◌, ◌<◌}
use native.Mathlib.Omega.{arith}
use Rattle.cows.specs.Terms.{Term, size}
use Rattle.cows.specs.Places.{Spot, spot_at, way_to, sub}
use Rattle.cows.proofs.Places.{spot_part, spot_fits, descend_way, descend_here}

-- place i of the term at place n, as a place of the whole
module _ (t : Term) (n : ℕ) (l : n < size t) (i : ℕ) (m : i < size (sub t n)) where
  pub part_way : way_to t (n + i) ≡ way_to (sub t n) i ++ way_to t n
  unfolding way_to sub spot_at
  part_way = ap (λ (z : Spot). z.way) ((spot_part t n l).1 i m) ∙ descend_way [] (way_to t n) (sub t n) i

  pub part_sub : sub t (n + i) ≡ sub (sub t n) i
  unfolding way_to sub spot_at
  part_sub = ap (λ (z : Spot). z.here) ((spot_part t n l).1 i m) ∙ descend_here (way_to t n) [] (sub t n) i

-- what stands inside a term ends with it
pub part_ends : (t : Term) (i n : ℕ) → i < size t → i ≤ n → n < i + size (sub t i) → n + size (sub t n) ≤ i + size (sub t i)
part_ends t i n l h m =
    let z : i + (n - i) ≡ n = omega arith in
    let e : sub t n ≡ sub (sub t i) (n - i) = ap (sub t) (sym z) ∙ part_sub t i l (n - i) (omega arith) in
    omega (arith, ap size e, spot_fits (sub t i) (n - i) (omega arith))
