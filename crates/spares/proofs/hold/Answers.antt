use native.Mathlib.Omega.{arith}
use Rattle.spares.proofs.Marks.{held_low, held_high}
use Rattle.spares.proofs.hold.Goals as goal

pub returns-then-k-lt-SPARES : goal.returns-then-k-lt-SPARES
returns-then-k-lt-SPARES c = rw c.from-k.ensures (held_low _ _ (omega (arith, c.well_formed)) (omega arith))

pub returns-else-k-lt-SPARES : goal.returns-else-k-lt-SPARES
returns-else-k-lt-SPARES c = held_high _ _ (omega (arith, c.well_formed)) (omega arith)
