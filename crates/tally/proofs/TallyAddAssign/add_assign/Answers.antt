use mathlib.Core.Path.{refl}
use Rattle.tally.specs.Counted.{sum_of}
use Rattle.tally.proofs.TallyAddAssign.add_assign.Goals as goal

pub returns : goal.returns
unfolding sum_of
returns c = record { after = refl }
