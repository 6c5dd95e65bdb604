use Rattle.renaming.proofs.Copies.{body-itself}
use Rattle.renaming.proofs.write_copy.Goals as goal

pub returns-then-not-delimits : goal.returns-then-not-delimits
returns-then-not-delimits c t h = rw (← body-itself _ _ _ c.requires.0 (c.delimits.ensures c.if-not-delimits.true) t h) c.copy.ensures
