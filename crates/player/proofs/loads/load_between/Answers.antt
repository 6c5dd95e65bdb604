use native.Mathlib.Omega.{arith}
use Rattle.player.proofs.Loading.{load_few, load-next, load-none}
use Rattle.player.proofs.loads.load_between.Goals as goal

pub loop-p-init : goal.loop-p-init
loop-p-init c = omega (arith, load_few c.args.s.now c.args.i c.args.j)

pub loop-p-preserved : goal.loop-p-preserved
loop-p-preserved c = omega (arith, c.weight-load.ensures.0, load-next c.args.s.now _ _ c.loop-p-test.true)

pub returns : goal.returns
returns c = omega (arith, load-none c.args.s.now c.loop-p.p c.args.j (omega arith))
