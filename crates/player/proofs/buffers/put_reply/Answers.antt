use Rattle.player.proofs.Writing.{reply_put}
use Rattle.player.proofs.buffers.put_reply.Goals as goal

pub returns : goal.returns
returns c = reply_put _ _ _ _ _ (rw c.from.ensures at c.put_word.ensures) c.put_word-2.ensures c.put_word-3.ensures
