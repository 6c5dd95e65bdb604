use Rattle.holding.specs.Holding.{rival_at}
use Rattle.holding.proofs.conflicts.rival.Goals as goal

pub returns : goal.returns
unfolding rival_at
returns c = rw (c.word_at.ensures, c.word_at-2.ensures, c.word_at-3.ensures, c.word_at-4.ensures)
