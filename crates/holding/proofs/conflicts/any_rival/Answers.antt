use native.Mathlib.Omega.{arith}
use Rattle.holding.proofs.Conflicting.{rival_turn}
use Rattle.holding.proofs.conflicts.any_rival.Goals as goal

pub loop-i-init : goal.loop-i-init
loop-i-init c e j f l = absurd (omega arith)

pub loop-i-preserved : goal.loop-i-preserved
loop-i-preserved c = rival_turn _ _ _ _ c.loop-i.invariant c.rival-any.ensures

pub returns : goal.returns
returns c e i f l = c.loop-i.invariant e i f (omega arith)
