use Rattle.renaming.proofs.Occurring.{action_read}
use Rattle.renaming.proofs.names.mark_action.Goals as goal

pub returns : goal.returns
returns c = rw (action_read _ _ c.word_at.ensures c.word_at-2.ensures c.word_at-3.ensures c.word_at-4.ensures c.word_at-5.ensures) c.enter_all.ensures
