-- One of three by flags: what multiplications by 0 and 1 pick.
use mathlib.Core.Path.{◌≡◌, refl}
use Prim.Native.Nat.{ℕ, zero, suc, ◌+◌, ◌*◌, ◌≤◌}
use native.Mathlib.Omega.{arith}
use lib.Dec.{eqb}
use mir.Val.{bool_byte}
use Rattle.records.specs.Ends.{pick_end}

-- One of three numbers is 1, and the others are 0.
pub flag_cases : (P : ℕ → ℕ → ℕ → Type 0) → P 1 0 0 → P 0 1 0 → P 0 0 1 → (none one two : ℕ) → none + one + two ≡ 1 → P none one two
flag_cases P p q r (suc none) one two e =
    let a : none ≡ 0 = omega arith in let b : one ≡ 0 = omega arith in let c : two ≡ 0 = omega arith in
    rw (a, b, c) p
flag_cases P p q r zero (suc one) two e = let b : one ≡ 0 = omega arith in let c : two ≡ 0 = omega arith in rw (b, c) q
flag_cases P p q r zero zero two e = let c : two ≡ 1 = omega arith in rw c r

-- the end that is picked; the bounds are for `omega`
pub end_picked : (x a b none one two : ℕ) → none + one + two ≡ 1
    → (none * x ≤ x) × (one * a ≤ a) × (two * b ≤ b) × (none * x + one * a + two * b ≡ pick_end (one + 2 * two) x a b)
unfolding pick_end
end_picked x a b =
    flag_cases (λ none one two. (none * x ≤ x) × (one * a ≤ a) × (two * b ≤ b) × (none * x + one * a + two * b ≡ pick_end (one + 2 * two) x a b))
    (omega arith) (omega arith) (omega arith)

-- the flags of a number of children, of which there are at most two
pub flags_of : (c : ℕ) → c ≤ 2 → (bool_byte (eqb c 0) + bool_byte (eqb c 1) + bool_byte (eqb c 2) ≡ 1) × (bool_byte (eqb c 1) + 2 * bool_byte (eqb c 2) ≡ c)
flags_of zero l = (refl, refl)
flags_of (suc zero) l = (refl, refl)
flags_of (suc (suc zero)) l = (refl, refl)
flags_of (suc (suc (suc c))) l = absurd (omega arith)

-- what is picked is one of the three
pub picked_small : (c x a b n : ℕ) → c ≤ 2 → x ≤ n → a ≤ n → b ≤ n → pick_end c x a b ≤ n
unfolding pick_end
picked_small zero x a b n l p q r = p
picked_small (suc zero) x a b n l p q r = q
picked_small (suc (suc zero)) x a b n l p q r = r
picked_small (suc (suc (suc c))) x a b n l p q r = absurd (omega arith)
