use mathlib.Core.Bool.{true, false}
use Rattle.player.proofs.Writing.{zeros_put, last_put}
use Rattle.player.proofs.buffers.put_last.Goals as goal

pub returns-then-second : goal.returns-then-second
returns-then-second c = last_put true c.args.second c.args.other.now c.args.out.now c.args.n c.if-second.true c.put_table.ensures

pub returns : goal.returns
returns c = last_put false c.args.second c.args.other.now c.args.out.now c.args.n c.if-second.false
    (zeros_put c.args.out.now c.args.n c.requires.1 c.requires.2 c.put_zeros.ensures)
