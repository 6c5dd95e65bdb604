-- The output that play leaves holds the records that its reply counts.
use Rattle.printing.proofs.Output.{last_fits}
use Rattle.printing.proofs.play.Goals as goal

pub load_left-requires : goal.load_left-requires
load_left-requires g c = last_fits c.play-played.ensures.0
