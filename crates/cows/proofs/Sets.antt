-- The three sets of atoms (specs/Terms) are ranges of numbers, no two overlap, and an atom is of one of them.
use mathlib.Core.Path.{◌≡◌, refl, sym, ◌∙◌}
use mathlib.Core.Bool.{Bool, true, false, ◌||◌}
use Prim.Native.Nat.{ℕ, ◌≤◌, ◌<◌}
use native.Mathlib.Omega.{arith}
use lib.Dec.{ltb, leb}
use borrow.Author.Tests.{ltb-true, leb-true, le-leb, lt-leb, lt-ltb, le-ltb}
use Rattle.cows.specs.Terms.{value, variable, label, datum, atom}
use Rattle.cows.specs.Allows.{SameSet}
use Rattle.cows.proofs.Basics.{clash, and_true, or_case}

-- the sets are ranges
abbrev pub Set : Bool → Bool → Bool → ℕ → Type 0
Set p q r a = (value a ≡ p) × (variable a ≡ q) × (label a ≡ r)

pub in-values : (a : ℕ) → 1 ≤ a → a < 32768 → Set true false false a
unfolding value variable label
in-values a h k = (rw (le-leb 1 a h, lt-ltb a 32768 k), rw (lt-leb 32768 a k), rw (lt-leb 49152 a (omega arith)))

pub in-variables : (a : ℕ) → 32768 ≤ a → a < 49152 → Set false true false a
unfolding value variable label
in-variables a h k = (rw (le-leb 1 a (omega arith), le-ltb a 32768 h), rw (le-leb 32768 a h, lt-ltb a 49152 k), rw (lt-leb 49152 a k))

pub in_labels : (a : ℕ) → 49152 ≤ a → a < 65536 → Set false false true a
unfolding value variable label
in_labels a h k =
    (rw (le-leb 1 a (omega arith), le-ltb a 32768 (omega arith)), rw (le-leb 32768 a (omega arith), le-ltb a 49152 h), rw (le-leb 49152 a h, lt-ltb a 65536 k))

pub datum-value : (a : ℕ) → datum a ≡ true → variable a ≡ false → value a ≡ true
unfolding datum
datum-value a d n = or_case _ (value a) (variable a) d (λ e. e) (λ e. clash e n)

pub alike_sets : (p q r : Bool) (a b : ℕ) → Set p q r a → Set p q r b → SameSet a b
alike_sets p q r a b h k = record { values = h.0 ∙ sym k.0; variables = h.1 ∙ sym k.1; labels = h.2 ∙ sym k.2 }

pub value-range : (a : ℕ) → value a ≡ true → (1 ≤ a) × (a < 32768)
unfolding value
value-range a e = let (h, k) = and_true (leb 1 a) (ltb a 32768) e in (leb-true 1 a h, ltb-true a 32768 k)

pub variable-range : (a : ℕ) → variable a ≡ true → (32768 ≤ a) × (a < 49152)
unfolding variable
variable-range a e = let (h, k) = and_true (leb 32768 a) (ltb a 49152) e in (leb-true 32768 a h, ltb-true a 49152 k)

pub label-range : (a : ℕ) → label a ≡ true → (49152 ≤ a) × (a < 65536)
unfolding label
label-range a e = let (h, k) = and_true (leb 49152 a) (ltb a 65536) e in (leb-true 49152 a h, ltb-true a 65536 k)

-- an atom is of one of the sets
pub set_case : (P : Type 0) (a : ℕ) → atom a ≡ true → (value a ≡ true → P) → (variable a ≡ true → P) → (label a ≡ true → P) → P
unfolding datum atom
set_case P a h f g k = go (value a) (variable a) (label a) h f g k
  where
    go : (p q r : Bool) → ((p || q) || r) ≡ true → (p ≡ true → P) → (q ≡ true → P) → (r ≡ true → P) → P
    go true q r h f g k = f refl
    go false true r h f g k = g refl
    go false false r h f g k = k h
