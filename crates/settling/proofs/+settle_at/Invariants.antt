use Prim.Native.Nat.{◌-◌}
use lib.ListN.{length}
use Rattle.settling.proofs.+settle_at.Given as goal

abbrev pub decreases-settle_at : goal.decreases-settle_at
decreases-settle_at l = length l.s.now - l.at
