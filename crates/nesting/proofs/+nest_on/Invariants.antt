use Prim.Native.Nat.{◌-◌, ◌/◌}
use lib.ListN.{length}
use Rattle.nesting.proofs.+nest_on.Given as goal

abbrev pub decreases-nest_on : goal.decreases-nest_on
decreases-nest_on l = length l.s.now / 8 - l.i
