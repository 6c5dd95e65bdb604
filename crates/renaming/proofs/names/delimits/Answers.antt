use mathlib.Core.Path.{◌∙◌}
use Rattle.renaming.specs.Names.{delimited}
use Rattle.renaming.proofs.Across.{across-end}
use Rattle.renaming.proofs.Choosing.{next_other}
use Rattle.renaming.proofs.names.delimits.Goals as goal

pub loop-i-preserved : goal.loop-i-preserved
loop-i-preserved c = c.loop-i.invariant ∙ next_other _ _ _ c.loop-i-test.true c.if-s-i-eq-DELIMITATION.false

pub returns : goal.returns
returns c e = c.loop-i.invariant ∙ across-end delimited _ _ _ c.loop-i-test.false
