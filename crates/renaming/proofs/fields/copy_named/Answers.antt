use Prim.Native.Nat.{◌*◌}
use native.Mathlib.Omega.{arith}
use Rattle.renaming.specs.Mapped.{named}
use Rattle.renaming.proofs.Across.{writing_turn, writing_end}
use Rattle.renaming.proofs.Mapped.{length-map_record}
use Rattle.renaming.proofs.fields.copy_named.Goals as goal

pub loop-i-preserved : goal.loop-i-preserved
loop-i-preserved c = let v = c.loop-i.invariant in
    let z = c.args in
    let n = length-map_record (named z.names.now) z.s.now (16 * c.loop-i.i) (omega arith) in
    (omega arith, omega arith, writing_turn _ _ _ _ _ _ _ _ _ v.2 c.loop-i-test.true c.put_classed.auto.dst c.put_classed.ensures (omega arith))

pub returns : goal.returns
returns c = (writing_end _ _ _ _ _ _ _ _ _ c.loop-i.invariant.2 c.loop-i-test.false).0
