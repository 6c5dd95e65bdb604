use mathlib.Core.Path.{ap, ◌∙◌}
use Rattle.records.specs.Rewrites.{put}
use Rattle.plans.proofs.Planning.{gives}
use Rattle.timeout.proofs.Judged.{asks_cut, gives_cut}
use Rattle.timeout.proofs.write.Goals as goal

pub cut-requires : goal.cut-requires
cut-requires c = let w = asks_cut _ _ _ _ _ c.requires in record { span = w.0; room = w.1 }

pub returns : goal.returns
returns c = let q = c.requires in
    gives q (c.cut.ensures ∙ ap (put _ 0) (gives_cut _ _ _ _ _ q))
