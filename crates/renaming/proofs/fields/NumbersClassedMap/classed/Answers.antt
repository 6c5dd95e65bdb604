use Rattle.records.proofs.Atoms.{number_class}
use Rattle.renaming.proofs.fields.NumbersClassedMap.classed.Goals as goal

pub returns : goal.returns
returns g c = rw (c.from.ensures, c.map.ensures) (simp number_class)
