use mathlib.Core.Path.{sym, ap, ◌∙◌}
use native.Mathlib.Omega.{arith}
use Rattle.renaming.specs.Names.{set_number, set_of}
use Rattle.renaming.proofs.names.set_of.Goals as goal

pub returns-in-Value : goal.returns-in-Value
unfolding set_of
returns-in-Value c = (ap set_number (sym c.in-Value.is ∙ c.from.ensures), omega arith)

pub returns-in-Variable : goal.returns-in-Variable
unfolding set_of
returns-in-Variable c = (ap set_number (sym c.in-Variable.is ∙ c.from.ensures), omega arith)

pub returns-in-Label : goal.returns-in-Label
unfolding set_of
returns-in-Label c = (ap set_number (sym c.in-Label.is ∙ c.from.ensures), omega arith)

pub returns-in-None : goal.returns-in-None
unfolding set_of
returns-in-None c = (ap set_number (sym c.in-None.is ∙ c.from.ensures), omega arith)
