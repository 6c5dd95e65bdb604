use Rattle.cows.specs.Run.{no_tally}
use Rattle.tally.proofs.TallyDefault.default.Goals as goal

pub returns : goal.returns
unfolding no_tally
returns c = c.counted.ensures
