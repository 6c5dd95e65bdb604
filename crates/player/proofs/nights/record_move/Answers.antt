use Rattle.std.proofs.Common.{arith}
use Rattle.tally.proofs.Counting.{small_room}
use Rattle.player.proofs.nights.record_move.Goals as goal

pub count-requires : goal.count-requires
count-requires c = small_room _ _ c.args.i c.requires.1 c.move_at-next.ensures.few (omega (arith, c.requires.0.inside, c.requires.0.short))

pub returns : goal.returns
returns c = record { counts = c.move_at-next.result.tally; made = c.move_at-next.ensures; added = c.count.ensures }
