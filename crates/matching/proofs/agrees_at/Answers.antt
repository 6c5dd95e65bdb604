use Rattle.records.proofs.Atoms.{number_class, variable_class}
use Rattle.matching.proofs.agrees_at.Goals as goal

pub returns : goal.returns
returns c = rw (c.eq.ensures, c.is_variable.ensures, c.atom_at.ensures, c.atom_at-w.ensures) (simp (variable_class, number_class))
