use Prim.Native.Nat.{◌+◌, ◌*◌, ◌-◌, ◌≤◌}
use native.Mathlib.Omega.{arith}
use lib.ListN.{length}
use Rattle.plans.specs.Cutting.{cut_of}
use Rattle.plans.proofs.Joining.{three-parts}
use Rattle.plans.proofs.cutting.cut.Goals as goal

pub returns : goal.returns
unfolding cut_of
returns c = let a = c.args.a in
    let n = 16 * (c.from.result - a - 1) in
    let r = 16 * c.from-rest.result in
    let x = c.requires.span in
    let l : 16 * c.args.from ≤ length c.args.s.now = omega (arith, x.low, x.inside) in
    let k : 16 * (a + 1) + n ≤ length c.args.s.now = omega (arith, c.from.ensures, x.inner, x.outer, x.some, c.requires.room.whole) in
    rw (← c.from-rest.ensures, ← c.from.ensures) (three-parts c.args.s.now _ _ (16 * (a + 1)) n r l k c.copy.ensures c.copy-2.ensures c.copy-3.ensures)
