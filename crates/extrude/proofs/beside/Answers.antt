use borrow.Author.Tests.{eq-eqb, ne_eqb}
use Rattle.extrude.proofs.beside.Goals as goal

pub returns-then-a-p : goal.returns-then-a-p
returns-then-a-p c = rw (eq-eqb _ _ c.if-a-p.true)

pub returns-else-a-p : goal.returns-else-a-p
returns-else-a-p c = rw (ne_eqb _ _ c.if-a-p.false)
