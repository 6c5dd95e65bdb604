use mathlib.Core.Path.{◌≡◌}
use lib.ListN.{drop}
use Rattle.renaming.specs.Bound.{first_image}
use Rattle.renaming.proofs.binding.first_image.Given as goal

-- none so far takes the variable
abbrev pub invariant-loop-t : goal.invariant-loop-t
invariant-loop-t l = first_image l.taken l.x l.other ≡ first_image (drop l.t-index l.taken) l.x l.other
