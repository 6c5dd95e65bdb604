use Rattle.rows.proofs.Checks.{distinct_code}
use Rattle.rows.proofs.distinct4.Goals as goal

pub returns : goal.returns
returns c = rw (
  c.same_variable-6.ensures,
  c.same_variable-5.ensures,
  c.same_variable-4.ensures,
  c.same_variable-3.ensures,
  c.same_variable-2.ensures,
  c.same_variable.ensures,
) (distinct_code _ _ _ _)
