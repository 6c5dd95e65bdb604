use mathlib.Core.Path.{refl}
use Rattle.cows.specs.Terms.{variable}
use Rattle.rows.proofs.same_variable.Goals as goal

pub returns : goal.returns
unfolding variable
returns c = refl
