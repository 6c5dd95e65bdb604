use mathlib.Core.Path.{◌≡◌}
use lib.ListN.{length}
use Rattle.index.specs.Index.{Entered}
use Rattle.index.proofs.enter.Given as goal

abbrev pub invariant-loop-d : goal.invariant-loop-d
invariant-loop-d l = (length l.slots ≡ length l.initial.slots) × Entered l.s l.ends l.marks l.d-index l.slots l.shift l.mask
