use borrow.Author.Rules.{rules}
use mathlib.Core.Path.{refl}
use Prim.Native.Nat.{◌+◌}
use native.Mathlib.Omega.{arith}
use Rattle.player.proofs.Lowering.{lowered_start, lowered_step, lowered_end}
use Rattle.player.proofs.cutting.lower_ends.Goals as goal

pub loop-i-init : goal.loop-i-init
loop-i-init c = (refl, refl, lowered_start _ _ _)

pub overflow_sub-ends : goal.overflow_sub-ends
overflow_sub-ends c = let v = c.loop-i.invariant in let i = c.loop-i.i in omega (arith, v.2.behind (i + c.args.by) (omega arith), c.requires.later i (omega arith) (omega arith))

pub loop-i-preserved : goal.loop-i-preserved
loop-i-preserved c = let v = c.loop-i.invariant in (search rules, v.1, rw v.1 (lowered_step _ _ c.loop-i.i _ v.2 (omega arith) (omega arith)))

pub returns : goal.returns
returns c = let v = c.loop-i.invariant in lowered_end _ _ _ _ (omega arith) v.2
