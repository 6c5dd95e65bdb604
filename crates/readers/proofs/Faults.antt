-- Laws of fault_from (specs/Reads): the first fault of places by the first of them, and of two stretches of places one behind the other.
use mathlib.Core.Path.{◌≡◌, refl, sym, ◌∙◌}
use mathlib.Core.Bool.{true, false}
use mathlib.Core.Option.{Option, none, some}
use Rattle.std.specs.Prelude as rust
use Rattle.std.specs.Prelude.{Ok, Err}
use Prim.Native.Nat.{ℕ, ◌+◌, ◌-◌, ◌≤◌, ◌<◌}
use native.Mathlib.Omega.{arith}
use Rattle.cows.specs.Basics.{place_if, or_else}
use Rattle.cows.specs.Terms.{Term}
use Rattle.cows.specs.Places.{spot_at}
use Rattle.cows.specs.Tables.{no_guard}
use Rattle.cows.proofs.Basics.{first_from_append, from_next, from_end}
use Rattle.readers.specs.Reads.{fault_from, faults, Names}

-- what an answer says of the first fault
pub ok_is : (o : Option ℕ) → Ok tt ≡ faults o → o ≡ none
ok_is none e = refl
ok_is (some p) e = cc

pub err_is : (o : Option ℕ) (p : ℕ) → Err p ≡ faults o → o ≡ some p
err_is none p e = cc
err_is (some q) p e = cc

module _ (t : Term) where
  pub fault_end : (i j : ℕ) → j ≤ i → fault_from t i j ≡ none
  unfolding fault_from
  fault_end i j l = from_end _ i j l

  pub fault_next : (i j : ℕ) → i < j → no_guard i (spot_at t i) ≡ false → fault_from t i j ≡ fault_from t (i + 1) j
  unfolding fault_from place_if or_else
  fault_next i j l e = from_next _ i j l ∙ rw e

  pub fault_here : (i j : ℕ) → i < j → no_guard i (spot_at t i) ≡ true → fault_from t i j ≡ some i
  unfolding fault_from place_if or_else
  fault_here i j l e = from_next _ i j l ∙ rw e

  fault_split : (i j k : ℕ) → i ≤ j → j ≤ k → fault_from t i k ≡ or_else (fault_from t i j) (fault_from t j k)
  unfolding fault_from
  fault_split i j k a b =
      let e : k - i ≡ (j - i) + (k - j) = omega arith in
      let z : i + (j - i) ≡ j = omega arith in
      rw e (first_from_append _ i (j - i) (k - j) ∙ rw z)

  -- places from i up to j, and on to k: a fault in the first stretch is the first, and without one the second stretch decides
  module _ (i j k : ℕ) (a : i ≤ j) (b : j ≤ k) (r : rust.Result Unit ℕ) (h : Names t i j r) where
    pub found_first : (p : ℕ) → r ≡ Err p → Names t i k (Err p)
    unfolding or_else
    found_first p e = rw (fault_split i j k a b, err_is (fault_from t i j) p (sym e ∙ h))

    pub none_first : r ≡ Ok tt → fault_from t i k ≡ fault_from t j k
    unfolding or_else
    none_first e = rw (fault_split i j k a b, ok_is (fault_from t i j) (sym e ∙ h))
