-- Laws of the index as numbers: slots, entries, and the bits of faults.
use mathlib.Core.Path.{◌≡◌, sym, ap, subst, ◌∙◌}
use mathlib.Core.Bool.{Bool, true, not, ◌&&◌, ◌||◌}
use mathlib.Core.List.{List, [], ◌∷◌}
use Prim.Native.Nat.{ℕ, ◌+◌, ◌*◌, ◌-◌, ◌/◌, ◌%◌, ◌^◌, ◌≤◌, ◌<◌}
use native.Mathlib.Omega.{arith}
use lib.Bits.{bit_and, bit_or, bit_xor, and_le_r, and_step, and_shr, or_step, or_shr}
use lib.Dec.{eqb}
use lib.ListN.{length, get_or}
use borrow.Author.Tests.{eq-eqb, ne_eqb}
use Rattle.cows.specs.Kinds.{distinct}
use Rattle.cows.specs.Format.{word}
use Rattle.cows.proofs.Basics.{lt_case, eq_case, and_true, or_second}
use Rattle.records.specs.Ends.{EndsFrom}
use Rattle.records.proofs.Shapes.{end-within}
use Rattle.ranges.specs.Ranges.{pattern_right}
use Rattle.index.specs.Index.{slot_of, entry_of, fault_of, fault_by, Clear, Fine, UsesRight}

pub slot-inside : (shift mask a : ℕ) → slot_of shift mask a ≤ mask
unfolding slot_of
slot-inside shift mask a = and_le_r (bit_xor a ((a / 2 ^ 14 * 2 ^ shift) % 2 ^ 64)) mask

-- The bits of a fault.
or_bit : (f g : ℕ) → bit_or f g % 2 ≡ 0 → (f % 2 ≡ 0) × (g % 2 ≡ 0)
or_bit f g e = let s = or_step f g in (omega arith, omega arith)

pub or_clear : (f g : ℕ) → Clear (bit_or f g) → Clear f × Clear g
or_clear f g c =
    let (a, b) = or_bit (f / 32768) (g / 32768) (sym (ap (λ n. n % 2) (or_shr f g 15)) ∙ c.low) in
    let (x, y) = or_bit (f / 2147483648) (g / 2147483648) (sym (ap (λ n. n % 2) (or_shr f g 31)) ∙ c.high) in
    (record { low = a; high = x }, record { low = b; high = y })

pub and_clear : (f : ℕ) → bit_and f 2147516416 ≡ 0 → Clear f
and_clear f e = record {
  low = let x = sym (ap (λ n. n / 32768) e) ∙ and_shr f 2147516416 15 in omega (arith, and_step (f / 32768) 65537);
  high = let x = sym (ap (λ n. n / 2147483648) e) ∙ and_shr f 2147516416 31 in omega (arith, and_step (f / 2147483648) 1);
}

-- An entry: its atom, and where a use has no fault by it.
pub entry_atom : (s ends : List ℕ) (d : ℕ) → d < 2048 → entry_of s ends d / 4294967296 ≡ word s (16 * d + 2)
unfolding entry_of
entry_atom s ends d l = omega arith

pub ends_small : (s ends : List ℕ) (d : ℕ) → EndsFrom s ends 0 → d < length s / 16 → get_or ends d 0 ≤ 2049
ends_small s ends d e l = omega (arith, e.few, e.end d (omega arith) (omega arith), end-within s d (omega arith))

pub entry_large : (s ends : List ℕ) (d : ℕ) → EndsFrom s ends 0 → d < length s / 16 → 65536 ≤ entry_of s ends d
unfolding entry_of
entry_large s ends d e l = omega (arith, ends_small s ends d e l)

pub entry_same : (s ends : List ℕ) (d q : ℕ) → d < 2048 → q < 2048 → entry_of s ends d ≡ entry_of s ends q → d ≡ q
unfolding entry_of
entry_same s ends d q l m e = omega arith

-- the two halves of an entry and a place
low_half : (d x j : ℕ) → d < 2048 → j ≤ d → (32768 + d + 65536 * x + 65535 * j) / 32768 ≡ 1 + 2 * (x + j)
low_half d x j l h = omega arith

high_half : (d x j : ℕ) → d < 2048 → j < 2048 → x ≤ 32768 → 32768 ≤ x + j → (32768 + d + 65536 * x + 65535 * j) / 2147483648 ≡ 1
high_half d x j l m k h = omega arith

odd : (n : ℕ) → (1 + 2 * n) % 2 ≡ 0 → ⊥
odd n e = omega arith

clear_inside : (d x j end : ℕ) → d < 2048 → j < 2048 → x + end ≡ 32768 → Clear (32768 + d + 65536 * x + 65535 * j) → (d < j) × (j < end)
clear_inside d x j end l m e c = (
  lt_case (d < j) d j (λ h. h) (λ h. absurd (odd (x + j) (sym (ap (λ n. n % 2) (low_half d x j l h)) ∙ c.low))),
  lt_case (j < end) j end (λ h. h) (λ h. absurd (odd 0 (sym (ap (λ n. n % 2) (high_half d x j l m (omega arith) (omega arith))) ∙ c.high))),
)

pub entry_clear : (s ends : List ℕ) (d j : ℕ) → EndsFrom s ends 0 → d < length s / 16 → j < length s / 16 → Clear (entry_of s ends d % 4294967296 + 65535 * j) → (d < j) × (j < get_or ends d 0)
unfolding entry_of
entry_clear s ends d j e l m c =
    let x = 32768 - get_or ends d 0 in
    let n = ends_small s ends d e l in
    let z : entry_of s ends d % 4294967296 ≡ 32768 + d + 65536 * x = omega (arith, e.few) in
    clear_inside d x j (get_or ends d 0) (omega (arith, e.few)) (omega (arith, e.few)) (omega arith) (rw z at c)

-- the fault of a use, by the code's numbers
pub fault_hit : (index : List ℕ) (p q b a at : ℕ) → p ≡ q → b ≡ a → get_or index p 0 / 4294967296 ≡ b → get_or index p 0 % 4294967296 + at ≡ fault_of (get_or index q 0) a at
unfolding fault_of
fault_hit index p q b a at e f h = rw (← e, ← f, eq-eqb _ b h)

pub fault_miss : (index : List ℕ) (p q b a at : ℕ) → p ≡ q → b ≡ a → (get_or index p 0 / 4294967296 ≡ b → ⊥) → b ≡ fault_of (get_or index q 0) a at
unfolding fault_of
fault_miss index p q b a at e f h = rw (← e, ← f, ne_eqb _ b h)

-- the faults of three atoms from byte k on, by the code's numbers
pub three-fine : (s index : List ℕ) (shift mask k at a b c x y z : ℕ) → a ≡ word s k → b ≡ word s (k + 2) → c ≡ word s (k + 4)
    → x ≡ fault_by index shift mask a at → y ≡ fault_by index shift mask b at → z ≡ fault_by index shift mask c at → Clear (bit_or (bit_or x y) z) → Fine s index shift mask k at
three-fine s index shift mask k at a b c x y z ea eb ec ex ey ez h =
    let (f, r) = or_clear (bit_or x y) z h in
    let (p, q) = or_clear x y f in
    let here : (v u i w : ℕ) → Clear v → u ≡ word s w → v ≡ fault_by index shift mask u at → w ≡ k + 2 * i → Clear (fault_by index shift mask (word s (k + 2 * i)) at) =
    λ v u i w o eu ev ew. rw (← ew, ← eu, ← ev) o in
    λ i l. eq_case _ i 0 (λ e. here x a i k p ea ex (omega arith)) (λ n. eq_case _ i 1 (λ e. here y b i (k + 2) q eb ey (omega arith)) (λ o. here z c i (k + 4) r ec ez (omega arith)))

-- A turn of the uses, by the code's numbers: the record at place j, by the faults of its first three atoms, and of the other slots, if there are any.
module _ (s index : List ℕ) (shift mask j w v x g : ℕ) (ew : w ≡ j) (ev : v ≡ j) (ex : x ≡ word s (16 * w + 8)) (fine : Clear g → Fine s index shift mask (16 * w + 2) (65535 * v)) where
  second : word s (16 * j + 8) ≡ x
  second = sym (rw ew at ex)

  pub short_right : x ≡ 0 → (f f₀ : ℕ) → f ≡ bit_or f₀ g → Clear f → Clear f₀ × UsesRight s index shift mask j
  short_right e f f₀ ef c =
      let (p, q) = or_clear f₀ g (subst Clear ef c) in
      (p, record { ends = rw (ew, ev) at (fine q); rest = λ l. absurd (omega (arith, second)); apart = λ l. absurd (omega (arith, second)) })

  pub long_right : (a y z r : ℕ) (d : Bool) → a ≡ word s (16 * w + 6) → y ≡ word s (16 * w + 10) → z ≡ word s (16 * w + 12) → d ≡ distinct (a ∷ x ∷ y ∷ z ∷ [])
      → (Clear r → Fine s index shift mask (16 * w + 8) (65535 * v)) → (f f₀ : ℕ) (b b₀ : Bool) → f ≡ bit_or (bit_or f₀ g) r
      → b ≡ (b₀ && (not (eqb (get_or s (16 * w) 0) 3) || d)) → Clear f → b ≡ true → Clear f₀ × (b₀ ≡ true) × UsesRight s index shift mask j
  unfolding pattern_right
  long_right a y z r d ea ey ez ed more f f₀ b b₀ ef eb c t =
      let (h, k) = or_clear (bit_or f₀ g) r (subst Clear ef c) in
      let (p, q) = or_clear f₀ g h in
      let (u, o) = and_true b₀ (not (eqb (get_or s (16 * w) 0) 3) || d) (sym eb ∙ t) in
      let pattern : get_or s (16 * w) 0 ≡ 3 → pattern_right s (16 * w) ≡ true = λ e. rw (← ea, ← ex, ← ey, ← ez) (sym ed ∙ or_second (ap not (eq-eqb _ 3 e)) o) in
      (p, u, record { ends = rw (ew, ev) at (fine q); rest = λ l. rw (ew, ev) at (more k); apart = λ l. rw ew at pattern })
