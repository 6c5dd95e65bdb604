use Rattle.holding.specs.Holding.{mark_of}
use Rattle.holding.proofs.marked.Goals as goal

pub returns : goal.returns
unfolding mark_of
returns c = rw c.label_index-i.ensures.0
