use Prim.Native.Nat.{◌-◌}
use lib.ListN.{length}
use Rattle.rewriting.proofs.halting.+halt_at.Given as goal

abbrev pub decreases-halt_at : goal.decreases-halt_at
decreases-halt_at l = length l.s.now - l.at
