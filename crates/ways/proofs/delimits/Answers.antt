use Rattle.records.proofs.Atoms.{number_class}
use Rattle.ways.proofs.Frames.{delimits-bytes}
use Rattle.ways.proofs.delimits.Goals as goal

pub returns : goal.returns
returns c t h l = rw (c.eq.ensures, c.atom_at.ensures, number_class) (delimits-bytes _ t _ _ h l)
