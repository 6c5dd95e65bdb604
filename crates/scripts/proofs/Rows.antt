-- The record check by kind: what the code tests of 8 bytes is what the kind's row says (orc, specs/Scripts, orc_kinds).
use mathlib.Core.Path.{◌≡◌, refl, ap}
use mathlib.Core.Bool.{Bool, ◌&&◌, ◌||◌}
use mathlib.Core.List.{List}
use Prim.Native.Nat.{ℕ, zero, suc, ◌+◌}
use native.Mathlib.Omega.{arith}
use lib.Dec.{ltb, eqb}
use lib.ListN.{length, get_or, take, drop}
use borrow.Author.Tests.{ne_eqb, le-ltb}
use Rattle.cows.specs.Terms.{value, variable, datum}
use Rattle.cows.specs.Kinds.{unused}
use Rattle.cows.specs.Format.{byte, word}
use Rattle.cows.proofs.Basics.{or_none, and_none}
use Rattle.records.proofs.Pieces.{byte_cut, word_cut, first-cut}
use Rattle.orc.specs.Scripts.{OrcRow, orc_row, orc_kinds, right_row, right_record8}

-- as the code tests it: the kind k, byte 1, the atom, the partner and the operation
abbrev tested : (k z a p o : ℕ) → Bool
tested k z a p o =
    eqb z 0 && ((eqb k 1 && datum a && value p && value o) || ((((eqb k 2 || eqb k 4) && variable a) || ((eqb k 0 || eqb k 3) && eqb a 0)) && eqb p 0 && eqb o 0))

abbrev by_row : OrcRow → (a p o : ℕ) → Bool
by_row r a p o = r.atom a && r.partner p && r.operation o

tested_row : (k z a p o : ℕ) → tested k z a p o ≡ (ltb k (length orc_kinds) && unused z && by_row (get_or orc_kinds k (orc_row unused unused unused)) a p o)
unfolding orc_kinds unused
tested_row zero z a p o = refl
tested_row (suc zero) z a p o = ap (λ b. eqb z 0 && b) (or_none (datum a && value p && value o))
tested_row (suc (suc zero)) z a p o = ap (λ b. eqb z 0 && (b && eqb p 0 && eqb o 0)) (or_none (variable a))
tested_row (suc (suc (suc zero))) z a p o = refl
tested_row (suc (suc (suc (suc zero)))) z a p o = ap (λ b. eqb z 0 && (b && eqb p 0 && eqb o 0)) (or_none (variable a))
tested_row (suc (suc (suc (suc (suc k))))) z a p o =
    let m : ℕ = suc (suc (suc (suc (suc k)))) in
    rw (ne_eqb m 0 (λ e. omega arith), ne_eqb m 1 (λ e. omega arith), ne_eqb m 2 (λ e. omega arith), ne_eqb m 3 (λ e. omega arith), ne_eqb m 4 (λ e. omega arith), le-ltb m 5 (omega arith))
    (and_none (eqb z 0))

pub tested_record : (s : List ℕ) (k : ℕ) → tested (get_or s k 0) (get_or s (k + 1) 0) (word s (k + 2)) (word s (k + 4)) (word s (k + 6)) ≡ right_record8 (take 8 (drop k s))
unfolding right_record8 right_row
tested_record s k =
    rw (
      first-cut 8 s k (omega arith),
      byte_cut 8 s k 1 (omega arith),
      word_cut 8 s k 2 (omega arith),
      word_cut 8 s k 4 (omega arith),
      word_cut 8 s k 6 (omega arith),
    ) (unfold byte in tested_row (get_or s k 0) (get_or s (k + 1) 0) (word s (k + 2)) (word s (k + 4)) (word s (k + 6)))
