-- Laws of the classes of atoms (specs/Atoms): an atom that was read has the number that was read, and is of the set that its class says.
use mathlib.Core.Path.{◌≡◌, refl, sym}
use mathlib.Core.Bool.{true}
use Prim.Native.Nat.{ℕ, ◌≤◌, ◌<◌}
use native.Mathlib.Omega.{arith}
use lib.Dec.{leb, ltb, eqb}
use borrow.Author.Tests.{eqb-true, eqb-false, ne_eqb, ltb-true, ltb-false, lt-ltb, le-ltb}
use Rattle.cows.specs.Terms.{value, variable}
use Rattle.cows.proofs.Basics.{cond_case, and_none}
use Rattle.cows.proofs.Sets.{in-values, in-variables, value-range, variable-range}
use Rattle.records.specs.declared.Label as labels
use Rattle.records.specs.declared.Atom.{Atom}
use Rattle.records.specs.declared.Atom.TheVariants.{None, Value, Variable, Label}
use Rattle.records.specs.Atoms.{class_of, number_of, is_variable}

-- the class of a number, by the set that it is of
pub class_case : (P : Atom → Type 0) (n : ℕ) → (n ≡ 0 → P None) → (value n ≡ true → P (Value (record { 0 = n }))) → (variable n ≡ true → P (Variable (record { 0 = n }))) → (49152 ≤ n → P (Label (record { 0 = n }))) → P (class_of n)
unfolding class_of
class_case P n f g h k =
    cond_case P (eqb n 0) (λ z. f (eqb-true n 0 z)) (λ z.
    let p = eqb-false n 0 z in
    cond_case P (ltb n 32768) (λ l. g (in-values n (omega arith) (ltb-true n 32768 l)).0) (λ l.
    cond_case P (ltb n 49152) (λ m. h (in-variables n (ltb-false n 32768 l) (ltb-true n 49152 m)).1) (λ m. k (ltb-false n 49152 m))))

pub number_class : (n : ℕ) → number_of (class_of n) ≡ n
number_class n = class_case (λ a. number_of a ≡ n) n sym (λ e. refl) (λ e. refl) (λ l. refl)

-- a number of a set, and its class
pub class_value : (n : ℕ) → value n ≡ true → class_of n ≡ Value (record { 0 = n })
unfolding class_of
class_value n e = let (l, k) = value-range n e in rw (ne_eqb n 0 (λ z. omega arith), lt-ltb n 32768 k)

pub class_variable : (n : ℕ) → variable n ≡ true → class_of n ≡ Variable (record { 0 = n })
unfolding class_of
class_variable n e = let (l, k) = variable-range n e in rw (ne_eqb n 0 (λ z. omega arith), le-ltb n 32768 l, lt-ltb n 49152 k)

-- two constructors are never equal, which `cc` finds
pub apart : {A : Type 0} → ◌≡◌ {A = ℕ} 0 1 → A
apart z = absurd (omega arith)

-- and back
pub is-label : (n : ℕ) (k : labels.Label) → class_of n ≡ Label k → (k.0 ≡ n) × (49152 ≤ n)
is-label n k = class_case (λ a. a ≡ Label k → (k.0 ≡ n) × (49152 ≤ n)) n (λ z e. apart (cc)) (λ h e. apart (cc)) (λ h e. apart (cc)) (λ l e. (cc, l))

pub variable_class : (n : ℕ) → is_variable (class_of n) ≡ variable n
unfolding variable
variable_class n =
    class_case (λ a. is_variable a ≡ variable n) n (λ z. rw z) (λ e. sym (in-values n (value-range n e).0 (value-range n e).1).1) sym (λ l. rw (le-ltb n 49152 l) (sym (and_none (leb 32768 n))))

-- an atom that the code has told to be no label
pub no_label : (w : ℕ) → ((k : labels.Label) → class_of w ≡ Label k → ⊥) → w < 49152
no_label w =
    class_case (λ a. ((k : labels.Label) → a ≡ Label k → ⊥) → w < 49152) w (λ z e. omega arith) (λ h e. omega (arith, value-range w h)) (λ h e. omega (arith, variable-range w h)) (λ l e. absurd (e _ refl))
