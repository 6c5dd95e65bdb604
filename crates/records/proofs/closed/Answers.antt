use Rattle.records.proofs.Atoms.{variable_class}
use Rattle.records.specs.Atoms.{closed_at}
use Rattle.records.proofs.closed.Goals as goal

pub returns : goal.returns
unfolding closed_at
returns c = rw (
  c.is_variable-6.ensures,
  c.atom_at-6.ensures,
  variable_class,
  c.is_variable-5.ensures,
  c.atom_at-5.ensures,
  variable_class,
  c.is_variable-4.ensures,
  c.atom_at-4.ensures,
  variable_class,
  c.is_variable-3.ensures,
  c.atom_at-3.ensures,
  variable_class,
  c.is_variable-2.ensures,
  c.atom_at-2.ensures,
  variable_class,
  c.is_variable.ensures,
  c.atom_at.ensures,
  variable_class,
)
