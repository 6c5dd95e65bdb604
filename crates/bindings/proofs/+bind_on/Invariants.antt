use Prim.Native.Nat.{◌-◌}
use lib.ListN.{length}
use Rattle.bindings.proofs.+bind_on.Given as goal

abbrev pub decreases-bind_on : goal.decreases-bind_on
decreases-bind_on l = length l.s.now - l.i
