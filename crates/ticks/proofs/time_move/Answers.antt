use Rattle.std.proofs.Common.{rules}
use Rattle.cows.specs.Format.{bytes2}
use Rattle.ticks.proofs.time_move.Goals as goal

pub returns : goal.returns
unfolding bytes2
returns c = search rules
