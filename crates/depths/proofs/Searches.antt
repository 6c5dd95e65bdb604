-- The search of specs/Depths goes down a term as the code does; here it is the search over the places of a term that refusal 4 is defined by.
use mathlib.Core.Path.{◌≡◌, refl, sym, ap, ◌∙◌}
use mathlib.Core.Bool.{Bool}
use mathlib.Core.List.{[], ◌∷◌}
use mathlib.Core.Option.{Option, none, some}
use Prim.Native.Nat.{ℕ, zero, suc, ◌+◌, ◌-◌, ◌<◌}
use native.Mathlib.Omega.{arith}
use native.Mathlib.Numerals.{add-one}
use lib.ListN.{length}
use Rattle.cows.specs.Basics.{place_if, or_else, first_from}
use Rattle.cows.specs.Terms.{Prefix, Join, Term, leaf, under, both, size}
use Rattle.cows.specs.Places.{inside, left_of, right_of, Way, Spot, descend, spot_at, first}
use Rattle.cows.specs.Tables.{too_deep}
use Rattle.cows.proofs.Basics.{first_from_append, place_if-some}
use Rattle.cows.proofs.Places.{descend-left, descend_right}
use Rattle.depths.specs.Depths.{deep_in}

-- two tests that agree find the same
from_same : (f g : ℕ → Bool) (n k : ℕ) → ((i : ℕ) → i < k → f (n + i) ≡ g (n + i)) → first_from f n k ≡ first_from g n k
unfolding first_from
from_same f g n zero h = refl
from_same f g n (suc k) h =
    let z : n + 0 ≡ n = omega arith in
    rw (rw z at (h 0 (omega arith)), from_same f g (suc n) k (λ i l. let e : suc n + i ≡ n + suc i = omega arith in rw e (h (suc i) (omega arith))))

-- the first record at which a test holds, in a term whose own way is w and whose own place is o
abbrev seek : (ℕ → Spot → Bool) → Way → ℕ → Term → Option ℕ
seek f w o t = first_from (λ n. f n (descend w t (n - o))) o (size t)

or_none : (o : Option ℕ) → or_else o none ≡ o
unfolding or_else
or_none none = refl
or_none (some p) = refl

module _ (f : ℕ → Spot → Bool) (w : Way) (o : ℕ) where
  seek_under : (u : Prefix) (t : Term) → seek f w o (under u t) ≡ or_else (place_if (f o (record { way = w; here = under u t })) o) (seek f (inside u ∷ w) (o + 1) t)
  unfolding size first_from descend
  seek_under u t =
      let z : o - o ≡ 0 = omega arith in
      rw (z, add-one o)
      (ap (or_else _) (from_same _ _ (suc o) (size t) (λ i l. let a : suc o + i - o ≡ suc i = omega arith in let b : suc o + i - suc o ≡ i = omega arith in rw (a, b))))

  seek_both : (j : Join) (l r : Term)
      → seek f w o (both j l r) ≡ or_else (place_if (f o (record { way = w; here = both j l r })) o) (or_else (seek f (left_of j r ∷ w) (o + 1) l) (seek f (right_of j l ∷ w) (o + 1 + size l) r))
  unfolding size first_from
  seek_both j l r =
      let z : o - o ≡ 0 = omega arith in
      rw (
        z,
        first_from_append (λ n. f n (descend w (both j l r) (n - o))) (suc o) (size l) (size r),
        add-one o,
        from_same _ (λ n. f n (descend (left_of j r ∷ w) l (n - suc o))) (suc o) (size l) left,
        from_same _ (λ n. f n (descend (right_of j l ∷ w) r (n - (suc o + size l)))) (suc o + size l) (size r) right,
      )
      (unfold descend in refl)
    where
      left : (i : ℕ) → i < size l → f (suc o + i) (descend w (both j l r) (suc o + i - o)) ≡ f (suc o + i) (descend (left_of j r ∷ w) l (suc o + i - suc o))
      left i h =
          let a : suc o + i - o ≡ suc i = omega arith in
          let b : suc o + i - suc o ≡ i = omega arith in
          rw (a, b, descend-left w j l r i h)

      right : (i : ℕ) → i < size r
          → f (suc o + size l + i) (descend w (both j l r) (suc o + size l + i - o)) ≡ f (suc o + size l + i) (descend (right_of j l ∷ w) r (suc o + size l + i - (suc o + size l)))
      right i h =
          let a : suc o + size l + i - o ≡ suc (size l + i) = omega arith in
          let b : suc o + size l + i - (suc o + size l) ≡ i = omega arith in
          rw (a, b, descend_right w j l r i)

deep_seek : (w : Way) (at : ℕ) (t : Term) → deep_in (length w + 1) at t ≡ seek too_deep w at t
unfolding deep_in too_deep
deep_seek w at (leaf x) = unfold size first_from descend in rw add-one (sym (or_none _))
deep_seek w at (under u t) = rw (seek_under too_deep w at u t, ← deep_seek (inside u ∷ w) (at + 1) t, add-one (length w))
deep_seek w at (both j l r) = rw (seek_both too_deep w at j l r, ← deep_seek (left_of j r ∷ w) (at + 1) l, ← deep_seek (right_of j l ∷ w) (at + 1 + size l) r, add-one (length w))

-- of a whole term: refusal 4
whole : (f : ℕ → Spot → Bool) (t : Term) → seek f [] 0 t ≡ first f t
unfolding first spot_at
whole f t = from_same _ _ 0 (size t) (λ i l. let e : 0 + i - 0 ≡ 0 + i = omega arith in rw e)

pub deep-first : (t : Term) → deep_in 1 0 t ≡ first too_deep t
deep-first t = deep_seek [] 0 t ∙ whole too_deep t
