use Rattle.records.proofs.Atoms.{number_class}
use Rattle.renaming.proofs.fields.NamesClassedMap.classed.Goals as goal

pub returns : goal.returns
returns c = rw (c.from.ensures, c.name_of.ensures) (simp number_class)
