use mathlib.Core.Path.{◌≡◌}
use borrow.Author.Rules.{rules}
use lib.ListN.{replicate}
use Rattle.player.proofs.Writing.{zeros_filled}
use Rattle.player.proofs.buffers.put_zeros.Goals as goal

pub returns : goal.returns
returns c = let e : c.fill.new.self ≡ replicate c.args.len 0 = search rules in zeros_filled c.args.out.now c.args.to c.args.len c.requires e
