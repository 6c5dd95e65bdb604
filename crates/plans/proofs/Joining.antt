-- Parts of a table written one behind the other.
use mathlib.Core.Path.{◌≡◌}
use mathlib.Core.List.{List, ◌++◌}
use Prim.Native.Nat.{ℕ, ◌+◌, ◌-◌, ◌≤◌}
use native.Mathlib.Omega.{arith}
use lib.ListN.{length, take, drop, length-drop}
use lib.Seq.{take_all, length-take-le}
use Rattle.records.specs.Rewrites.{put}
use Rattle.records.proofs.Put.{and_then}

module _ (s : List ℕ) where
  pub length_part : (y n : ℕ) → y + n ≤ length s → length (take n (drop y s)) ≡ n
  length_part y n l = length-take-le n (drop y s) (omega (arith, length-drop y s))

  rest : (w : ℕ) → take (length s - w) (drop w s) ≡ drop w s
  rest w = take_all (length s - w) (drop w s) (omega (arith, length-drop w s))

  -- the first x bytes of s, n bytes from byte y on, and all from byte w on
  pub three-parts : (d : List ℕ) (x y n w : ℕ) {d₁ d₂ d₃ : List ℕ} → x ≤ length s → y + n ≤ length s
      → d₁ ≡ put d 0 (take x (drop 0 s)) → d₂ ≡ put d₁ x (take n (drop y s)) → d₃ ≡ put d₂ (x + n) (take (length s - w) (drop w s)) → d₃ ≡ put d 0 (take x s ++ (take n (drop y s) ++ drop w s))
  three-parts d x y n w {d₁} l k p q r =
      and_then d 0 x (take x s) (take n (drop y s) ++ drop w s) (omega (arith, length_part 0 x (omega arith))) p
      (and_then d₁ x (x + n) (take n (drop y s)) (drop w s) (omega (arith, length_part y n k)) q (rw (rest w) at r))

  -- the same with m bytes more from byte z on before the last part
  pub four_parts : (d : List ℕ) (x y n z m w j : ℕ) {d₁ d₂ d₃ d₄ : List ℕ} → x ≤ length s → y + n ≤ length s → z + m ≤ length s → j ≡ x + n + m
      → d₁ ≡ put d 0 (take x (drop 0 s)) → d₂ ≡ put d₁ x (take n (drop y s)) → d₃ ≡ put d₂ (x + n) (take m (drop z s)) → d₄ ≡ put d₃ j (take (length s - w) (drop w s))
      → d₄ ≡ put d 0 (take x s ++ (take n (drop y s) ++ (take m (drop z s) ++ drop w s)))
  four_parts d x y n z m w j {d₁} {d₂} l k i e p q r v =
      and_then d 0 x (take x s) (take n (drop y s) ++ (take m (drop z s) ++ drop w s)) (omega (arith, length_part 0 x (omega arith))) p
      (and_then d₁ x (x + n) (take n (drop y s)) (take m (drop z s) ++ drop w s) (omega (arith, length_part y n k)) q
      (and_then d₂ (x + n) j (take m (drop z s)) (drop w s) (omega (arith, length_part z m i)) r (rw (rest w) at v)))
