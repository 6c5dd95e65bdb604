use Rattle.renaming.proofs.Bound.{goes_read}
use Rattle.renaming.proofs.binding.Bindings.removes.Goals as goal

pub returns : goal.returns
returns c = rw (← goes_read _ _ _ c.atom_at.ensures, c.takes.ensures)
