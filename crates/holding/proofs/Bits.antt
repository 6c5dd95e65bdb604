-- The marks as bits of words (specs/Holding, mark_of): the bit that is set, and those that stay.
use mathlib.Core.Path.{◌≡◌, refl, ap, ◌∙◌}
use mathlib.Core.Logic.{◌≢◌}
use mathlib.Core.List.{List}
use Prim.Native.Nat.{ℕ, zero, suc, ◌+◌, ◌*◌, ◌-◌, ◌/◌, ◌%◌, ◌^◌, ◌<◌}
use native.Mathlib.Nat.{div-eq_of_lt, zero-div}
use native.Mathlib.Omega.{arith}
use lib.Bits.{bit_or, or_shr, or_mod, or_zero_r, shifted_even}
use lib.Dec.{ltb, eqb}
use lib.ListN.{length, get_or, set, replicate}
use lib.Pow.{pow-lt, pow-add, shl_exact, shl-shr}
use lib.Seq.{get_or-set_same, get_or-set_other}
use borrow.Author.Tests.{ltb-true, ltb-false, eqb-true, eqb-false}
use Rattle.cows.proofs.Basics.{bool_case, get_d_zeros}
use Rattle.holding.specs.Holding.{mark_of, Marks, Unmarked}

-- bit b of a word
abbrev bit : ℕ → ℕ → ℕ
bit w b = w / 2 ^ b % 2

bit_of_or : (w v b : ℕ) → bit (bit_or w v) b ≡ bit_or (bit w b) (bit v b)
bit_of_or w v b = ap (λ x. x % 2) (or_shr w v b) ∙ or_mod (w / 2 ^ b) (v / 2 ^ b) 1

-- the word whose one bit is c
bit_same : (c : ℕ) → bit (1 * 2 ^ c) c ≡ 1
bit_same c = ap (λ x. x % 2) (shl-shr 1 c)

bit_other : (c b : ℕ) → b ≢ c → bit (1 * 2 ^ c) b ≡ 0
bit_other c b n =
    bool_case (bit (1 * 2 ^ c) b ≡ 0) (ltb c b)
    (λ e. let l : 1 * 2 ^ c < 2 ^ b = omega (arith, pow-lt (ltb-true c b e)) in ap (λ x. x % 2) (div-eq_of_lt l))
    (λ e.
    let d = c - b - 1 in
    let z : c ≡ suc d + b = omega (arith, ltb-false c b e, n) in
    let p : 1 * 2 ^ c ≡ 1 * 2 ^ suc d * 2 ^ b = omega (arith, ap (λ x. 2 ^ x) z ∙ pow-add 2 (suc d) b) in
    ap (λ x. x / 2 ^ b % 2) p ∙ (ap (λ x. x % 2) (shl-shr (1 * 2 ^ suc d) b) ∙ shifted_even 1 d))

or_one : (x : ℕ) → bit_or (x % 2) 1 ≡ 1
or_one x = go (x % 2) (omega arith)
  where
    go : (n : ℕ) → n < 2 → bit_or n 1 ≡ 1
    go zero l = refl
    go (suc zero) l = refl
    go (suc (suc n)) l = absurd (omega arith)

-- "or" with that word sets bit c, and no other
module _ (w c : ℕ) where
  or_same : bit (bit_or w (1 * 2 ^ c)) c ≡ 1
  or_same = bit_of_or w (1 * 2 ^ c) c ∙ (ap (bit_or (bit w c)) (bit_same c) ∙ or_one (w / 2 ^ c))

  or_other : (b : ℕ) → b ≢ c → bit (bit_or w (1 * 2 ^ c)) b ≡ bit w b
  or_other b n = bit_of_or w (1 * 2 ^ c) b ∙ (ap (bit_or (bit w b)) (bit_other c b n) ∙ or_zero_r (bit w b))

-- the mark of label number i is set in its word
module _ (marks : List ℕ) (i : ℕ) (l : i / 64 < length marks) where
  abbrev word : ℕ
  word = bit_or (get_or marks (i / 64) 0) (1 * 2 ^ (i % 64))

  abbrev after : List ℕ
  after = set marks (i / 64) word

  word_set : get_or after (i / 64) 0 ≡ word
  word_set = get_or-set_same marks (i / 64) word 0 l

  marks_bit : Marks marks i after
  unfolding mark_of
  marks_bit = record {
    here = ap (λ w. bit w (i % 64)) word_set ∙ or_same (get_or marks (i / 64) 0) (i % 64);
    others = λ j n. bool_case (bit (get_or after (j / 64) 0) (j % 64) ≡ bit (get_or marks (j / 64) 0) (j % 64)) (eqb (j / 64) (i / 64))
        (λ e. rw (eqb-true (j / 64) (i / 64) e, word_set) (or_other (get_or marks (i / 64) 0) (i % 64) (j % 64) (λ r. n (omega (arith, eqb-true (j / 64) (i / 64) e)))))
        (λ e. ap (λ w. bit w (j % 64)) (get_or-set_other marks (i / 64) (j / 64) word 0 (eqb-false _ _ e)));
  }

  -- as code shifts, within the 64 bits of a word
  pub sets_mark : Marks marks i (set marks (i / 64) (bit_or (get_or marks (i / 64) 0) (1 * 2 ^ (i % 64) % 2 ^ 64)))
  sets_mark = rw (shl_exact {a = 1} 1 (i % 64) 64 (omega arith) (omega arith)) marks_bit

-- no bit is set in zeros
pub zeros_unmarked : (n : ℕ) → Unmarked (replicate n 0)
unfolding mark_of
zeros_unmarked n i = ap (λ w. bit w (i % 64)) (get_d_zeros n (i / 64)) ∙ ap (λ x. x % 2) (zero-div (2 ^ (i % 64)))
