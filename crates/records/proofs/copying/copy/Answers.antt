use mathlib.Core.Path.{◌≡◌, refl, ◌∙◌}
use native.Mathlib.Omega.{arith}
use lib.ListN.{drop, length-drop, length-set}
use lib.Seq.{get_or-drop}
use Rattle.records.specs.Rewrites.{put}
use Rattle.records.proofs.Put.{put_more}
use Rattle.records.proofs.copying.copy.Goals as goal

pub loop-i-init : goal.loop-i-init
unfolding put
loop-i-init c = (refl, refl)

pub loop-i-preserved : goal.loop-i-preserved
loop-i-preserved c = let z = c.args in
    let l = c.loop-i in
    let xs = drop z.from z.src.now in (
      length-set l.dst _ _ ∙ l.invariant.0,
      rw (l.invariant.1, ← get_or-drop z.from z.src.now l.i 0) (put_more z.dst.now z.to xs l.i (omega (arith, length-drop z.from z.src.now))),
    )

pub returns : goal.returns
returns c = let e : c.loop-i.i ≡ c.args.len = omega arith in
    rw e at c.loop-i.invariant.1
