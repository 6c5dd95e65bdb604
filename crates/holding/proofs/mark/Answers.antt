use native.Mathlib.Omega.{arith}
use Rattle.holding.proofs.Bits.{sets_mark}
use Rattle.holding.proofs.mark.Goals as goal

pub returns : goal.returns
returns c = rw c.label_index-i.ensures.0 (sets_mark _ _ (omega (arith, c.label_index-i.ensures, c.requires.1)))
