use native.Mathlib.Omega.{arith}
use Rattle.entries.proofs.Entries.{move_put}
use Rattle.entries.proofs.put_move.Goals as goal

pub returns : goal.returns
returns c = move_put _ _ _ _ _ (omega arith) c.put_word.ensures c.put_word-2.ensures c.put_word-3.ensures
