use native.Mathlib.Omega.{arith}
use Rattle.renaming.proofs.Across.{writing_room, writing_turn, writing_end}
use Rattle.renaming.proofs.binding.write_bound.Goals as goal

pub put_bound-next-requires : goal.put_bound-next-requires
put_bound-next-requires c = (omega arith, writing_room _ _ _ _ _ _ _ _ _ c.loop-i.invariant c.requires.1 c.loop-i-test.true)

pub loop-i-preserved : goal.loop-i-preserved
loop-i-preserved c = writing_turn _ _ _ _ _ _ _ _ _ c.loop-i.invariant c.loop-i-test.true c.put_bound-next.auto.dst c.put_bound-next.ensures.0 c.put_bound-next.ensures.1

pub returns : goal.returns
returns c = writing_end _ _ _ _ _ _ _ _ _ c.loop-i.invariant c.loop-i-test.false
