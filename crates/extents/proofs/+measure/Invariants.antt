use Prim.Native.Nat.{◌-◌}
use lib.ListN.{length}
use Rattle.extents.proofs.+measure.Given as goal

abbrev pub decreases-measure : goal.decreases-measure
decreases-measure l = length l.s.now - l.i
