use Prim.Native.Nat.{◌+◌, ◌*◌, ◌-◌}
use native.Mathlib.Omega.{arith}
use Rattle.extrude.specs.Extruding.{lifted}
use Rattle.plans.proofs.Joining.{four_parts}
use Rattle.extrude.proofs.lift.Goals as goal

pub returns : goal.returns
unfolding lifted
returns c = let s = c.args.s.now in
    let a = c.args.a in
    let p = c.args.p in
    four_parts s _ (16 * p) (16 * a) 16 (16 * p) (16 * (a - p)) (16 * (a + 1)) (16 * (a + 1)) (omega (arith, c.requires)) (omega (arith, c.requires)) (omega (arith, c.requires)) (omega (arith, c.requires))
    c.copy.ensures c.copy-2.ensures c.copy-3.ensures c.copy-4.ensures
