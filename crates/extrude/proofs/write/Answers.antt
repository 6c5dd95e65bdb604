use mathlib.Core.Path.{ap, ◌∙◌}
use Rattle.records.specs.Rewrites.{put}
use Rattle.plans.proofs.Planning.{gives}
use Rattle.extrude.proofs.Judged.{lift_asked}
use Rattle.extrude.proofs.write.Goals as goal

pub lift-requires : goal.lift-requires
lift-requires c = (lift_asked _ _ _ _ _ c.requires).0

pub returns : goal.returns
returns c = let q = c.requires in
    gives q (c.lift.ensures ∙ ap (put _ 0) (lift_asked _ _ _ _ _ q).1)
