use Prim.Native.Nat.{◌-◌, ◌/◌}
use lib.ListN.{length}
use Rattle.depths.proofs.+first_deep.Given as goal

abbrev pub decreases-first_deep : goal.decreases-first_deep
decreases-first_deep l = length l.s.now / 16 - l.i
