use Rattle.rows.proofs.Tested.{tuple_piece}
use Rattle.rows.proofs.tuple_right.Goals as goal

pub returns : goal.returns
returns c = let a = c.args in
    let s = a.s.now in
    let k = a.k in
    rw (
      c.word_at-5.ensures,
      c.slot_right-4.ensures,
      c.word_at-4.ensures,
      c.slot_right-3.ensures,
      c.word_at-3.ensures,
      c.slot_right-2.ensures,
      c.word_at-2.ensures,
      c.slot_right.ensures,
      c.word_at.ensures,
      c.word_at-o.ensures,
      c.word_at-p.ensures,
    ) (tuple_piece s k _)
