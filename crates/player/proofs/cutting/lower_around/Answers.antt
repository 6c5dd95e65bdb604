use borrow.Author.Rules.{rules}
use mathlib.Core.Path.{refl}
use native.Mathlib.Omega.{arith}
use Rattle.player.proofs.Lowering.{around_start, around_step, around_end}
use Rattle.player.proofs.cutting.lower_around.Goals as goal

pub loop-i-init : goal.loop-i-init
loop-i-init c = (refl, refl, refl, around_start _ _ _)

pub lower_behind-requires : goal.lower_behind-requires
lower_behind-requires c h = let v = c.loop-i.invariant in
    let i = c.loop-i.i in
    let e = v.3.left i (omega arith) in omega (arith, e, c.requires.high i (omega arith) (omega (arith, e)))

pub loop-i-preserved : goal.loop-i-preserved
loop-i-preserved c = let v = c.loop-i.invariant in (search rules, v.1, v.2, around_step _ _ _ c.loop-i.i v.3 (omega arith) (rw (v.1, v.2) at c.lower_behind.ensures))

pub returns : goal.returns
returns c = let v = c.loop-i.invariant in around_end _ _ _ (omega arith) v.3
