-- The record check on the bytes of a table.
use mathlib.Core.Path.{◌≡◌, sym, ◌∙◌}
use mathlib.Core.List.{List, [], ◌∷◌}
use Prim.Native.Nat.{ℕ, ◌+◌, ◌<◌}
use native.Mathlib.Omega.{arith}
use lib.ListN.{get_or, drop, get_or-eq_default, length-take}
use Rattle.cows.specs.Format.{byte, word, slots, right_contents, right_record}
use Rattle.cows.proofs.Basics.{lt_case}
use Rattle.records.proofs.Pieces.{piece, byte_piece, word_piece, first_piece}
use Rattle.rows.specs.Rows.{quad, tuple_contents, plain_right}
use Rattle.rows.proofs.Checks.{tuple_test, tuple_code, plain_code}

module _ (s : List ℕ) (k : ℕ) where
  pub quad_piece : (i : ℕ) → i < 9 → quad (piece s k) i ≡ quad s (k + i)
  unfolding quad
  quad_piece i h =
      let e : k + (i + 2) ≡ k + i + 2 = omega arith in
      let f : k + (i + 4) ≡ k + i + 4 = omega arith in
      let g : k + (i + 6) ≡ k + i + 6 = omega arith in
      rw (word_piece s k i (omega arith), word_piece s k (i + 2) (omega arith), word_piece s k (i + 4) (omega arith), word_piece s k (i + 6) (omega arith), e, f, g)

  pub tuple_piece : (top : ℕ)
      → tuple_test top (get_or s (k + 1) 0) (word s (k + 2)) (word s (k + 4)) (word s (k + 6)) (word s (k + 8)) (word s (k + 10)) (word s (k + 12)) (word s (k + 14))
      ≡ right_contents (tuple_contents top) (piece s k)
  unfolding byte
  tuple_piece top = let w = word_piece s k in rw (byte_piece s k 1 (omega arith), w 2 (omega arith), w 4 (omega arith), w 6 (omega arith), w 8 (omega arith), w 10 (omega arith), w 12 (omega arith), w 14 (omega arith)) at (tuple_code (piece s k) top)

  pub slots_piece : slots (piece s k) ≡ word s (k + 6) ∷ word s (k + 8) ∷ word s (k + 10) ∷ word s (k + 12) ∷ []
  unfolding slots
  slots_piece = rw (word_piece s k 6 (omega arith), word_piece s k 8 (omega arith), word_piece s k 10 (omega arith), word_piece s k 12 (omega arith))

  small_piece : ((i : ℕ) → get_or s i 0 < 256) → (i : ℕ) → byte (piece s k) i < 256
  unfolding byte
  small_piece h i =
      lt_case (get_or (piece s k) i 0 < 256) i 16 (λ l. rw (byte_piece s k i l) (h (k + i)))
      (λ l. rw (get_or-eq_default (piece s k) 0 {n = i} (omega (arith, length-take 16 (drop k s)))) (omega arith))

  pub plain_piece : ((i : ℕ) → get_or s i 0 < 256) → (get_or s k 0 ≡ 2 → ⊥) → (get_or s k 0 ≡ 3 → ⊥) → plain_right (get_or s k 0) (quad s k) (quad s (k + 8)) ≡ right_record (piece s k)
  plain_piece h m n =
      let z : k + 0 ≡ k = omega arith in
      rw (first_piece s k, quad_piece 0 (omega arith), quad_piece 8 (omega arith), z) at
      (plain_code (piece s k) (small_piece h) (λ e. m (sym (first_piece s k) ∙ e)) (λ e. n (sym (first_piece s k) ∙ e)))
