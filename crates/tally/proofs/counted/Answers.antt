use mathlib.Core.Path.{refl}
use Rattle.cows.specs.Run.{counted}
use Rattle.tally.proofs.counted.Goals as goal

pub returns : goal.returns
unfolding counted
returns c = refl
