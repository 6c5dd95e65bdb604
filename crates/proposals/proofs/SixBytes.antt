-- The move that six bytes are (cows, specs/Step, `read_move`), by its kind.
use mathlib.Core.Path.{◌≡◌, refl, sym, ◌∙◌}
use mathlib.Core.Logic.{◌≢◌}
use mathlib.Core.Bool.{Bool, true, false, not, ◌&&◌, ◌||◌}
use mathlib.Core.List.{List, [], ◌∷◌}
use mathlib.Core.Option.{none, some}
use Prim.Native.Nat.{ℕ, zero, suc, ◌≤◌}
use native.Mathlib.Omega.{arith}
use lib.Dec.{eqb}
use lib.ListN.{length, get_or, get_elem?}
use borrow.Author.Tests.{eqb-true, eq-eqb, ne_eqb, not-false}
use Rattle.cows.specs.Basics.{only}
use Rattle.cows.specs.Format.{byte, word}
use Rattle.cows.proofs.Basics.{and_true}
use Rattle.cows.specs.Moves.{Move}
use Rattle.cows.specs.Step.{right_move, six_moves, read_move}

-- what the bytes of a move are tested for
pub wrong_length_lem : (m : List ℕ) → length m ≢ 6 → false ≡ right_move m
unfolding right_move
wrong_length_lem m h = rw (ne_eqb (length m) 6 h)

pub right_tests : (m : List ℕ) (b : ℕ) → length m ≡ 6 → b ≡ word m 4 → (eqb (get_or m 1 0) 0 && (eqb (get_or m 0 0) 1 || eqb b 0)) ≡ right_move m
unfolding right_move byte
right_tests m b h e = rw (eq-eqb (length m) 6 h, e)

-- no move: wrong bytes, or no kind
pub wrong_move : (m : List ℕ) → right_move m ≡ false → none ≡ read_move m
unfolding read_move only
wrong_move m e = rw e

beyond : {A : Type 0} (l : List A) (k : ℕ) → length l ≤ k → none ≡ get_elem? l k
beyond [] k h = refl
beyond (a ∷ l) zero h = absurd (omega arith)
beyond (a ∷ l) (suc k) h = beyond l k (omega arith)

-- the code's answer on the form of a move
pub right_so : (m : List ℕ) {b : Bool} → b ≡ right_move m → not b ≡ false → right_move m ≡ true
right_so m {b} e h = sym e ∙ not-false b h

pub right_length : (m : List ℕ) → right_move m ≡ true → length m ≡ 6
unfolding right_move
right_length m e = eqb-true (length m) 6 (and_true (eqb (length m) 6) _ (and_true (eqb (length m) 6 && eqb (byte m 1) 0) _ e).0).0

-- the kinds
module _ (m : List ℕ) (right : right_move m ≡ true) where
  pub no_kind : 6 ≤ get_or m 0 0 → none ≡ read_move m
  unfolding six_moves read_move only byte
  no_kind h = rw right (beyond (six_moves (word m 2) (word m 4)) (get_or m 0 0) h)

  pub kind_read : {v : Move} (a b k : ℕ) → a ≡ word m 2 → b ≡ word m 4 → get_or m 0 0 ≡ k → some v ≡ get_elem? (six_moves a b) k → some v ≡ read_move m
  unfolding read_move only byte
  kind_read a b k w x e h = h ∙ rw (right, e, w, x)
