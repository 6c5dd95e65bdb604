use mathlib.Core.Path.{◌≡◌}
use mathlib.Core.List.{[]}
use lib.ListN.{take, drop}
use Rattle.overlaps.specs.Overlaps.{first_overlap}
use Rattle.overlaps.proofs.first_overlap.Given as goal

abbrev pub invariant-loop-i : goal.invariant-loop-i
invariant-loop-i l = first_overlap l.ends [] l.places ≡ first_overlap l.ends (take l.i l.places) (drop l.i l.places)
