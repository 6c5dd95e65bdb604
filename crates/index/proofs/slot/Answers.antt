use Rattle.index.specs.Index.{slot_of}
use Rattle.index.proofs.Bounds.{slot-inside}
use Rattle.index.proofs.slot.Goals as goal

pub returns : goal.returns
unfolding slot_of
returns c = let a = c.args in record { is = rw c.from-w.ensures; inside = rw c.from-w.ensures (slot-inside a.shift a.mask a.a) }
