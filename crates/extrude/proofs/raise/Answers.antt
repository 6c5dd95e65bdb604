use mathlib.Core.Path.{◌≡◌, ap, ◌∙◌}
use native.Mathlib.Omega.{arith}
use Rattle.extrude.specs.Extruding.{raised}
use Rattle.extrude.proofs.Raising.{raised-start, raised_step}
use Rattle.extrude.proofs.raise.Goals as goal

pub loop-i-init : goal.loop-i-init
loop-i-init c = (c.requires.0, raised-start _ _)

pub loop-i-preserved : goal.loop-i-preserved
loop-i-preserved c = (omega arith, raised_step _ _ _ (omega arith) c.loop-i.auto.i c.requires.1 c.loop-i.invariant.1)

pub returns : goal.returns
returns c = let v = c.loop-i.invariant in
    let z : c.loop-i.i ≡ c.args.low = omega arith in v.1 ∙ ap (λ i. raised c.args.t.now i c.args.high) z
