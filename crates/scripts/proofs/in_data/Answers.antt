use Rattle.cows.specs.Terms.{datum}
use Rattle.scripts.proofs.in_data.Goals as goal

pub returns : goal.returns
unfolding datum
returns c = rw (c.in_variables.ensures, c.in_values.ensures)
