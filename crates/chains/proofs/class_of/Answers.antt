use native.Mathlib.Omega.{arith}
use native.Mathlib.Nat.{mod-lt}
use Rattle.chains.specs.Chains.{class_of_pair}
use Rattle.chains.proofs.class_of.Goals as goal

pub returns : goal.returns
unfolding class_of_pair
returns c = let x = c.from.ensures in
    let y = c.from-2.ensures in
    (rw (x, y), mod-lt _ {m = 256} (omega arith))
