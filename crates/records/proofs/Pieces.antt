-- The records of a table or a script, cut out of its bytes, and the numbers in them.
use mathlib.Core.Path.{◌≡◌, ap, ◌∙◌}
use mathlib.Core.List.{List}
use Prim.Native.Nat.{ℕ, suc, ◌+◌, ◌<◌}
use native.Mathlib.Omega.{arith}
use lib.ListN.{get_or, take, drop}
use lib.Seq.{get_or-take, get_or-drop}
use Rattle.cows.specs.Format.{byte, word}

-- w bytes from byte k on
module _ (w : ℕ) (s : List ℕ) (k : ℕ) where
  pub byte_cut : (i : ℕ) → i < w → byte (take w (drop k s)) i ≡ byte s (k + i)
  unfolding byte
  byte_cut i h = get_or-take w (drop k s) i 0 h ∙ get_or-drop k s i 0

  pub word_cut : (i : ℕ) → suc i < w → word (take w (drop k s)) i ≡ word s (k + i)
  unfolding word
  word_cut i h =
      let z : k + suc i ≡ suc (k + i) = omega arith in
      rw (byte_cut i (omega arith), byte_cut (suc i) (omega arith), z)

  pub first-cut : 0 < w → byte (take w (drop k s)) 0 ≡ get_or s k 0
  unfolding byte
  first-cut h = byte_cut 0 h ∙ ap (λ i. get_or s i 0) (omega arith)

-- 16 bytes, a table's record
abbrev pub piece : List ℕ → ℕ → List ℕ
piece s k = take 16 (drop k s)

module _ (s : List ℕ) (k : ℕ) where
  pub byte_piece : (i : ℕ) → i < 16 → byte (piece s k) i ≡ byte s (k + i)
  byte_piece = byte_cut 16 s k

  pub word_piece : (i : ℕ) → i < 15 → word (piece s k) i ≡ word s (k + i)
  word_piece i h = word_cut 16 s k i (omega arith)

  pub first_piece : byte (piece s k) 0 ≡ get_or s k 0
  first_piece = first-cut 16 s k (omega arith)
