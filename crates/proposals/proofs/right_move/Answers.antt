use Rattle.proposals.proofs.SixBytes.{wrong_length_lem, right_tests}
use Rattle.proposals.proofs.right_move.Goals as goal

pub returns-then-m-ne6 : goal.returns-then-m-ne6
returns-then-m-ne6 c = wrong_length_lem _ c.if-m-ne6.true

pub returns : goal.returns
returns c = right_tests _ _ c.if-m-ne6.false c.word_at.ensures
