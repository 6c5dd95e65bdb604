use borrow.Author.Tests.{eq-eqb, ne_eqb}
use Rattle.meetings.proofs.end_of.Goals as goal

pub returns-then-p-eq0 : goal.returns-then-p-eq0
returns-then-p-eq0 c = rw (eq-eqb _ _ c.if-p-eq0.true)

pub returns-else-p-eq0 : goal.returns-else-p-eq0
returns-else-p-eq0 c = rw (ne_eqb _ _ c.if-p-eq0.false) c.from.ensures
