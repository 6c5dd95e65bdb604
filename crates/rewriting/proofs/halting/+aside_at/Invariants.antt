use Prim.Native.Nat.{◌-◌}
use lib.ListN.{length}
use Rattle.rewriting.proofs.halting.+aside_at.Given as goal

abbrev pub decreases-aside_at : goal.decreases-aside_at
decreases-aside_at l = length l.s.now - l.at
