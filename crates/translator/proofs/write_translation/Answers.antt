-- Marks of the values in use, and one pass from the first record on.
use Rattle.translator.proofs.Writing.{start_writable, whole_written, known_few}
use Rattle.translator.proofs.write_translation.Goals as goal

pub held-used-requires : goal.held-used-requires
held-used-requires c = (c.requires.0.expression, c.requires.0.stands)

pub write-requires : goal.write-requires
write-requires c = let a = c.args in
    let k = c.requires.0 in
    let (h, l) = c.held-used.ensures k.expression k.stands in
    start_writable a.to.partner a.to.operation k.expression k.stands k.few (c.requires.1 k.expression k.stands) h l

pub returns : goal.returns
returns c e h = let k = c.requires.0 in
    whole_written e h (known_few k e h) k.partner k.operation (c.held-used.ensures e h).0 c.write.ensures
