use native.Mathlib.Omega.{arith}
use Rattle.renaming.proofs.Occurring.{slot_read}
use Rattle.renaming.proofs.names.slot.Goals as goal

pub returns : goal.returns
returns c = rw (c.from.ensures, c.from-2.ensures) (slot_read _ (omega arith))
