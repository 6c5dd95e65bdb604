use mathlib.Core.Path.{sym}
use Rattle.chains.specs.Chains.{class_at}
use Rattle.chains.proofs.class_at.Goals as goal

pub returns : goal.returns
unfolding class_at
returns c = rw (sym c.word_at-2.ensures, sym c.word_at.ensures) c.class_of.ensures
