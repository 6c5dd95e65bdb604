-- Laws of the numbers that code makes of tests, and of places that may be missing.
use mathlib.Core.Path.{◌≡◌, refl, sym, ap}
use mathlib.Core.Logic.{◌≢◌}
use mathlib.Core.Bool.{Bool, true, false}
use Prim.Native.Nat.{ℕ, ◌+◌, ◌≤◌, ◌<◌}
use native.Mathlib.Omega.{arith}
use mir.Val.{bool_byte}
use mathlib.Core.Option.{Option, none, some}
use Rattle.std.specs.Prelude.{Some, None}
use Rattle.cows.specs.Basics.{one_if}
use Rattle.records.specs.Answers.{found_of, place_or}

pub test_sum : (a b : Bool) → (bool_byte a + bool_byte b ≡ one_if a + one_if b) × (bool_byte a + bool_byte b ≤ 2)
test_sum true true = (refl, omega arith)
test_sum true false = (refl, omega arith)
test_sum false true = (refl, omega arith)
test_sum false false = (refl, omega arith)

pub test_small : (b : Bool) → one_if b ≤ 1
test_small true = omega arith
test_small false = omega arith

-- a place that the code found, or none
pub found_at : (o : Option ℕ) (p : ℕ) → Some p ≡ found_of o → o ≡ some p
found_at none p e = cc
found_at (some q) p e = cc

pub found_nothing : (o : Option ℕ) → None ≡ found_of o → o ≡ none
found_nothing none e = refl
found_nothing (some q) e = cc

-- a place below n, or n
pub place_tells : (n m : ℕ) (g : Option ℕ) → ((p : ℕ) → g ≡ some p → p < n) → m ≡ place_or n g → (m ≡ n → g ≡ none) × (m ≢ n → (g ≡ some m) × (m < n))
place_tells n m none below e = (λ h. refl, λ h. absurd (h e))
place_tells n m (some p) below e = let l = below p refl in (λ h. absurd (omega arith), λ h. (ap some (sym e), omega arith))
