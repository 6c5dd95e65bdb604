use native.Mathlib.Omega.{arith}
use Rattle.renaming.proofs.Copies.{body-length}
use Rattle.renaming.proofs.copy_renamed.Goals as goal

pub copy_with-requires-2-clause-enough : goal.copy_with-requires-2-clause-enough
copy_with-requires-2-clause-enough c = let b = c.requires.0 in omega (arith, body-length _ _ _ b, b.small)
