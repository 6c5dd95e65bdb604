use Prim.Native.Nat.{◌*◌}
use Rattle.scripts.proofs.Rows.{tested_record}
use Rattle.scripts.proofs.record8_right.Goals as goal

pub returns : goal.returns
returns c = let a = c.args in
    rw (
      c.in_variables.ensures,
      c.in_values-2.ensures,
      c.in_values.ensures,
      c.in_data.ensures,
      c.word_at-operation.ensures,
      c.word_at-partner.ensures,
      c.word_at-atom.ensures,
    ) (tested_record a.s.now (8 * a.i))
