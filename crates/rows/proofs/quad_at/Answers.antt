use Rattle.rows.specs.Rows.{quad}
use Rattle.rows.proofs.quad_at.Goals as goal

pub returns : goal.returns
unfolding quad
returns c = rw (c.from-4.ensures, c.word_at-4.ensures, c.from-3.ensures, c.word_at-3.ensures, c.from-2.ensures, c.word_at-2.ensures, c.from.ensures, c.word_at.ensures)
