-- A move and its six bytes: each is read back from the other; the kind and the numbers that the bytes hold, and so their rank.
use mathlib.Core.Path.{◌≡◌, refl, ap, subst, ◌∙◌}
use mathlib.Core.Logic.{◌≢◌}
use mathlib.Core.Bool.{◌&&◌}
use mathlib.Core.Option.{some}
use mathlib.Core.List.{List, [], ◌∷◌}
use Prim.Native.Nat.{ℕ, zero, suc, ◌+◌, ◌*◌, ◌/◌, ◌%◌}
use native.Mathlib.Omega.{arith}
use lib.Dec.{eqb}
use lib.ListN.{length, get_elem?}
use borrow.Author.Tests.{eqb-true, ne_eqb}
use Rattle.cows.specs.Basics.{only}
use Rattle.cows.specs.Format.{AreBytes, bytes2, byte, word}
use Rattle.cows.specs.Moves.{Move, Kill, Communicate, Timeout, Elapse, Unfold, Extrude}
use Rattle.cows.specs.Step.{right_move, six_moves, read_move}
use Rattle.cows.specs.Papers.{move_bytes}
use Rattle.cows.proofs.Basics.{and_true, or_second, only-some, same_some}
use Rattle.opening.specs.Opening.{six_byte_form, rank}

-- the kind of a move, and its numbers
abbrev pub move_kind : Move → ℕ
move_kind (Kill a) = 0
move_kind (Communicate a b) = 1
move_kind (Timeout a) = 2
move_kind (Elapse d) = 3
move_kind (Unfold a) = 4
move_kind (Extrude a) = 5

abbrev number_a : Move → ℕ
number_a (Kill a) = a
number_a (Communicate a b) = a
number_a (Timeout a) = a
number_a (Elapse d) = d
number_a (Unfold a) = a
number_a (Extrude a) = a

abbrev number_b : Move → ℕ
number_b (Kill a) = 0
number_b (Communicate a b) = b
number_b (Timeout a) = 0
number_b (Elapse d) = 0
number_b (Unfold a) = 0
number_b (Extrude a) = 0

six_is : (v : Move) → six_byte_form v ≡ move_bytes (move_kind v) (number_a v) (number_b v)
unfolding six_byte_form
six_is (Kill a) = refl
six_is (Communicate a b) = refl
six_is (Timeout a) = refl
six_is (Elapse d) = refl
six_is (Unfold a) = refl
six_is (Extrude a) = refl

pub rank_is : (v : Move) → rank (six_byte_form v) ≡ 65536 * (65536 * move_kind v + number_a v) + number_b v
unfolding rank bytes2 byte word
rank_is v = ap rank (six_is v) ∙ omega arith

pub move_kind_is : (v : Move) → byte (six_byte_form v) 0 ≡ move_kind v
unfolding byte
move_kind_is v = ap (λ m. byte m 0) (six_is v)

pub length_six : (v : Move) → length (six_byte_form v) ≡ 6
unfolding bytes2
length_six v = ap length (six_is v)

-- the bytes of a move are read as that move
number : (a : ℕ) → a % 256 + 256 * (a / 256) ≡ a
number a = omega arith

pub read_six : (v : Move) → read_move (six_byte_form v) ≡ some v
unfolding read_move right_move six_moves only six_byte_form bytes2 byte word
read_six (Kill a) = ap (λ n. some (Kill n)) (number a)
read_six (Communicate a b) = ap (λ n. some (Communicate n (b % 256 + 256 * (b / 256)))) (number a) ∙ ap (λ n. some (Communicate a n)) (number b)
read_six (Timeout a) = ap (λ n. some (Timeout n)) (number a)
read_six (Elapse d) = ap (λ n. some (Elapse n)) (number d)
read_six (Unfold a) = ap (λ n. some (Unfold n)) (number a)
read_six (Extrude a) = ap (λ n. some (Extrude n)) (number a)

-- six bytes with a zero at place 1 are those of their kind and numbers
form : (m : List ℕ) → AreBytes m → length m ≡ 6 → byte m 1 ≡ 0 → m ≡ move_bytes (byte m 0) (word m 2) (word m 4)
unfolding byte word bytes2
form [] h l y = absurd (omega arith)
form (a ∷ []) h l y = absurd (omega arith)
form (a ∷ b ∷ []) h l y = absurd (omega arith)
form (a ∷ b ∷ c ∷ []) h l y = absurd (omega arith)
form (a ∷ b ∷ c ∷ d ∷ []) h l y = absurd (omega arith)
form (a ∷ b ∷ c ∷ d ∷ f ∷ []) h l y = absurd (omega arith)
form (a ∷ b ∷ c ∷ d ∷ f ∷ g ∷ []) h l y =
    let hc = h.1.1.0 in
    let hd = h.1.1.1.0 in
    let hf = h.1.1.1.1.0 in
    let hg = h.1.1.1.1.1.0 in
    let c' : c ≡ (c + 256 * d) % 256 = omega arith in
    let d' : d ≡ (c + 256 * d) / 256 = omega arith in
    let f' : f ≡ (f + 256 * g) % 256 = omega arith in
    let g' : g ≡ (f + 256 * g) / 256 = omega arith in
    cc
form (a ∷ b ∷ c ∷ d ∷ f ∷ g ∷ x ∷ m) h l y = absurd (omega arith)

-- the i-th of the six moves of two numbers, of which only a communication uses b
pick : (a b i : ℕ) (v : Move) → get_elem? (six_moves a b) i ≡ some v → (i ≢ 1 → b ≡ 0) → move_bytes i a b ≡ six_byte_form v
unfolding six_moves six_byte_form
pick a b zero v e h = subst (λ v. move_bytes 0 a b ≡ six_byte_form v) (same_some e) (ap (move_bytes 0 a) (h (λ q. omega arith)))
pick a b (suc zero) v e h = subst (λ v. move_bytes 1 a b ≡ six_byte_form v) (same_some e) refl
pick a b (suc (suc zero)) v e h = subst (λ v. move_bytes 2 a b ≡ six_byte_form v) (same_some e) (ap (move_bytes 2 a) (h (λ q. omega arith)))
pick a b (suc (suc (suc zero))) v e h = subst (λ v. move_bytes 3 a b ≡ six_byte_form v) (same_some e) (ap (move_bytes 3 a) (h (λ q. omega arith)))
pick a b (suc (suc (suc (suc zero)))) v e h = subst (λ v. move_bytes 4 a b ≡ six_byte_form v) (same_some e) (ap (move_bytes 4 a) (h (λ q. omega arith)))
pick a b (suc (suc (suc (suc (suc zero))))) v e h = subst (λ v. move_bytes 5 a b ≡ six_byte_form v) (same_some e) (ap (move_bytes 5 a) (h (λ q. omega arith)))
pick a b (suc (suc (suc (suc (suc (suc i)))))) v e h = absurd (let z : ◌≡◌ {A = ℕ} 0 1 = cc in omega arith)

-- bytes that are read as a move are that move's
pub six_read : (m : List ℕ) (v : Move) → AreBytes m → read_move m ≡ some v → m ≡ six_byte_form v
unfolding read_move right_move
six_read m v h e =
    let (r, q) = only-some (right_move m) _ v e in
    let (p, z) = and_true (eqb (length m) 6 && eqb (byte m 1) 0) _ r in
    let (l, y) = and_true (eqb (length m) 6) (eqb (byte m 1) 0) p in
    form m h (eqb-true (length m) 6 l) (eqb-true (byte m 1) 0 y)
    ∙ pick (word m 2) (word m 4) (byte m 0) v q (λ n. eqb-true (word m 4) 0 (or_second (ne_eqb (byte m 0) 1 n) z))
