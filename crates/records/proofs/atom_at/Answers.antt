use mathlib.Core.Path.{ap, ◌∙◌}
use Rattle.records.specs.Atoms.{class_of}
use Rattle.records.proofs.atom_at.Goals as goal

pub returns : goal.returns
returns c = c.from.ensures ∙ ap class_of c.word_at.ensures
