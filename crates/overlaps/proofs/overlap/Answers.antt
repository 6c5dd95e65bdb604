use Rattle.overlaps.specs.Overlaps.{overlap}
use Rattle.overlaps.proofs.overlap.Goals as goal

pub returns : goal.returns
unfolding overlap
returns c = rw (c.from.ensures, c.from-2.ensures)
