use mathlib.Core.Path.{◌≡◌, refl}
use Prim.Native.Nat.{◌+◌, ◌-◌}
use native.Mathlib.Omega.{arith}
use Rattle.extrude.proofs.Raising.{ends_start, ends_step, ends_done}
use Rattle.extrude.proofs.lift_ends.Goals as goal

pub loop-i-init : goal.loop-i-init
loop-i-init c = (c.requires.before, ends_start _ _)

pub overflow_add-ends : goal.overflow_add-ends
overflow_add-ends c = let i = c.loop-i.i in record { fits = omega (arith, c.loop-i.invariant.1.first (i - 1) (omega arith), c.requires.small (i - 1) (omega arith)) }

pub loop-i-preserved : goal.loop-i-preserved
loop-i-preserved c = let v = c.loop-i.invariant in
    let z : c.loop-i.i - 1 + 1 ≡ c.loop-i.i = omega arith in
    (omega arith, rw z (ends_step _ _ c.loop-i.i v.1 (omega arith) c.loop-i.auto.i (omega (arith, c.requires.room, c.loop-i.auto.ends))))

pub returns : goal.returns
returns c = let v = c.loop-i.invariant in
    ends_done _ _ _ _ v.1 (omega arith) c.requires.before (omega (arith, c.requires.room, c.loop-i.auto.ends)) refl
