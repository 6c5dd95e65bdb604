-- What one slot of a receive takes (specs/Taking), by the sets of its atoms.
use mathlib.Core.Path.{◌≡◌, refl, ap, ◌∙◌}
use mathlib.Core.Bool.{true, false}
use Prim.Native.Nat.{ℕ}
use Rattle.cows.specs.Terms.{value, variable}
use Rattle.cows.proofs.Basics.{bool_case, clash}
use Rattle.records.specs.declared.Binding.{Binding}
use Rattle.std.specs.Prelude.{Some, None}
use Rattle.records.specs.Atoms.{class_of}
use Rattle.records.proofs.Atoms.{apart, class_case, class_value, class_variable}
use Rattle.matching.specs.Taking as slots
use Rattle.matching.specs.Taking.{takes_of}

-- what one slot takes
pub takes_so : (w v : ℕ) → variable w ≡ true → value v ≡ true → takes_of w v ≡ Some (record { variable = record { 0 = w }; value = record { 0 = v } })
unfolding takes_of
takes_so w v e k = rw (class_variable w e, class_value v k)

pub takes_none : (w v : ℕ) → variable w ≡ false → takes_of w v ≡ None
unfolding takes_of
takes_none w v e = class_case (λ a. slots.takes a (class_of v) ≡ None) w (λ z. refl) (λ k. refl) (λ k. clash k e) (λ l. refl)

-- The slots by what the code finds them to take: a variable and a value, or nothing where a value is sent.
pub takes-pair : (w v : ℕ) (b : Binding) → Some b ≡ takes_of w v → (b.variable.0 ≡ w) × (b.value.0 ≡ v) × (variable w ≡ true)
unfolding takes_of
takes-pair w v b =
    class_case (λ a. Some b ≡ slots.takes a (class_of v) → (b.variable.0 ≡ w) × (b.value.0 ≡ v) × (variable w ≡ true)) w (λ z e. apart (cc)) (λ h e. apart (cc))
    (λ h. class_case (λ a. Some b ≡ slots.taken (record { 0 = w }) a → (b.variable.0 ≡ w) × (b.value.0 ≡ v) × (variable w ≡ true)) v (λ z e. apart (cc)) (λ k e. let z : b ≡ record { variable = record { 0 = w }; value = record { 0 = v } } = cc in (ap (λ b. b.variable.0) z, ap (λ b. b.value.0) z, h)) (λ k e. apart (cc)) (λ l e. apart (cc)))
    (λ l e. apart (cc))

pub takes-nothing : (w v : ℕ) → None ≡ takes_of w v → (variable w ≡ true → value v ≡ true) → variable w ≡ false
takes-nothing w v e k = bool_case (variable w ≡ false) (variable w) (λ z. let c = e ∙ takes_so w v z (k z) in apart (cc)) (λ z. z)
