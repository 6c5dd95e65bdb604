use Prim.Native.Nat.{◌*◌}
use native.Mathlib.Omega.{arith}
use mathlib.Core.Path.{◌∙◌}
use Rattle.rows.proofs.Checks.{invoke_code, receive_code}
use Rattle.records.proofs.Pieces.{first_piece}
use Rattle.rows.proofs.Tested.{slots_piece, plain_piece}
use Rattle.rows.proofs.record_right.Goals as goal

pub returns-in-2 : goal.returns-in-2
returns-in-2 c = let a = c.args in
    c.tuple_right.ensures ∙ invoke_code _ (first_piece a.s.now (16 * a.i) ∙ c.in-2.is)

pub returns-in-3 : goal.returns-in-3
returns-in-3 c = let a = c.args in
    rw (
      c.tuple_right-in-3.ensures,
      c.distinct4-d.ensures,
      c.word_at-in-3-3.ensures,
      c.word_at-in-3-2.ensures,
      c.word_at-in-3.ensures,
      c.word_at.ensures,
      ← slots_piece a.s.now (16 * a.i),
    ) (receive_code _ (first_piece a.s.now (16 * a.i) ∙ c.in-3.is))

pub returns-in_default : goal.returns-in_default
returns-in_default c = let a = c.args in
    rw (c.plain_right.ensures, c.quad_at-in_default.ensures, c.quad_at.ensures)
    (plain_piece a.s.now (16 * a.i) (λ i. omega (arith, c.type_inv.s i)) (λ e. omega arith) (λ e. omega arith))
