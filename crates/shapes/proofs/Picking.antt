-- The masks of a kind, and the number that they pick: the end and the height of a term in one.
use mathlib.Core.Path.{◌≡◌, refl, ◌∙◌}
use mathlib.Core.List.{[], ◌∷◌}
use Prim.Native.Nat.{ℕ, zero, suc, ◌+◌, ◌*◌, ◌/◌, ◌%◌, ◌≤◌, ◌<◌}
use native.Mathlib.Omega.{arith}
use lib.Bits.{bit_and, bit_or, and_zero_r, or_zero_l, or_zero_r, or_lt, and_le_l, and_mask, and_high}
use lib.ListN.{get_or}
use Rattle.cows.specs.Kinds.{children_of, open_kinds}
use Rattle.cows.proofs.Rows.{kind-cases}
use Rattle.records.specs.Ends.{pick_end}
use Rattle.shapes.specs.Shaped.{pick_height, Masks}
use Rattle.shapes.specs.declared.Kind.{Kind}

-- The table of the ten kinds.
abbrev none : Kind
none = record { more = 2; behind = 65535; first = 0; second = 0 }

abbrev one : Kind
one = record { more = 1; behind = 0; first = 4294967295; second = 0 }

abbrev two : Kind
two = record { more = 0; behind = 0; first = 4294901760; second = 4294967295 }

abbrev pub of_kind : ℕ → Kind
of_kind k = get_or (none ∷ none ∷ none ∷ one ∷ one ∷ two ∷ two ∷ one ∷ one ∷ one ∷ []) k (record { more = 0; behind = 0; first = 0; second = 0 })

-- it counts the children, and masks as many
abbrev pub Masked : ℕ → Type 0
Masked k = ((of_kind k).more + children_of k ≡ 2) × Masks (children_of k) (of_kind k).behind (of_kind k).first (of_kind k).second

pub masked : (k : ℕ) → k < 10 → Masked k
unfolding open_kinds
masked =
    kind-cases (λ k. k < 10 → Masked k)
    (λ l. (refl, (omega arith, refl, refl, refl)), λ l. (refl, (omega arith, refl, refl, refl)), λ l. (refl, (omega arith, refl, refl, refl)), λ l. (refl, (omega arith, refl, refl, refl)), λ l. (refl, (omega arith, refl, refl, refl)), λ l. (refl, (omega arith, refl, refl, refl)), λ l. (refl, (omega arith, refl, refl, refl)), λ l. (refl, (omega arith, refl, refl, refl)), λ l. (refl, (omega arith, refl, refl, refl)), λ l. (refl, (omega arith, refl, refl, refl)))
    (λ n l. absurd (omega arith))

-- what the masks leave of the numbers of the first child and of the second or the place behind, and that it is small enough to be added to
abbrev pub first_of : (first a : ℕ) → ℕ
first_of first a = bit_and a first

abbrev pub other_of : (behind second x b : ℕ) → ℕ
other_of behind second x b = bit_or (bit_and b second) (bit_and x behind)

pub first_small : (first a : ℕ) → a < 268435456 → first_of first a < 268435456
first_small first a l = omega (arith, and_le_l a first)

pub other_small : (behind second x b : ℕ) → x < 65536 → bit_and b second < 268435456 → other_of behind second x b < 268435456
other_small behind second x b l m = or_lt 28 (bit_and b second) (bit_and x behind) m (omega (arith, and_le_l x behind))

-- The number that is picked of them.
module _ (x a b : ℕ) (l : x < 65536) (k : a < 268435456) where
  abbrev Number : ℕ → ℕ → Type 0
  Number c r = r ≡ pick_end c x (a % 65536) (b % 65536) + 65536 * pick_height c (a / 65536) (b / 65536)

  abbrev Picks : (c behind first second : ℕ) → Type 0
  Picks c behind first second =
      (first_of first a < other_of behind second x b → Number c (other_of behind second x b + 65536))
      × (other_of behind second x b ≤ first_of first a → Number c (first_of first a + other_of behind second x b % 65536 + 65536))

  none_picked : Picks 0 65535 0 0
  unfolding pick_end pick_height
  none_picked =
      let p = and_zero_r a in
      let q : other_of 65535 0 x b ≡ x = rw (and_zero_r b, or_zero_l (bit_and x 65535)) (and_mask x 16 ∙ omega arith) in
      rw (p, q) (λ e. omega arith, λ e. omega arith)

  one_picked : Picks 1 0 4294967295 0
  unfolding pick_end pick_height
  one_picked =
      let p : first_of 4294967295 a ≡ a = and_mask a 32 ∙ omega arith in
      let q : other_of 0 0 x b ≡ 0 = rw (and_zero_r b, and_zero_r x, or_zero_l 0) refl in
      rw (p, q) (λ e. absurd (omega arith), λ e. omega arith)

  two_picked : b < 4294967296 → Picks 2 0 4294901760 4294967295
  unfolding pick_end pick_height
  two_picked m =
      let p : first_of 4294901760 a ≡ a / 65536 * 65536 = and_high a 16 16 ∙ omega arith in
      let q : other_of 0 4294967295 x b ≡ b = rw (and_zero_r x, or_zero_r (bit_and b 4294967295)) (and_mask b 32 ∙ omega arith) in
      rw (p, q) (λ e. omega arith, λ e. omega arith)

  pub picked : b < 4294967296 → (c behind first second : ℕ) → Masks c behind first second → Picks c behind first second
  picked m zero behind first second (few, e, f, g) = rw (e, f, g) none_picked
  picked m (suc zero) behind first second (few, e, f, g) = rw (e, f, g) one_picked
  picked m (suc (suc zero)) behind first second (few, e, f, g) = rw (e, f, g) (two_picked m)
  picked m (suc (suc (suc c))) behind first second (few, e, f, g) = absurd (omega arith)

-- what is left of a second child's number is small if that is; of a record without a second child nothing is left
pub masked_small : (b c behind first second : ℕ) → Masks c behind first second → (1 < c → b < 268435456) → bit_and b second < 268435456
masked_small b zero behind first second (few, e, f, g) l = rw (g, and_zero_r b) (omega arith)
masked_small b (suc zero) behind first second (few, e, f, g) l = rw (g, and_zero_r b) (omega arith)
masked_small b (suc (suc c)) behind first second m l = omega (arith, and_le_l b second, l (omega arith))
