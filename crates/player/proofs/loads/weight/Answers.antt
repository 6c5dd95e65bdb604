use native.Mathlib.Omega.{arith}
use Rattle.player.proofs.Loading.{weight_counted}
use Rattle.player.proofs.loads.weight.Goals as goal

pub returns : goal.returns
returns c = omega (arith, weight_counted c.args.kind)
