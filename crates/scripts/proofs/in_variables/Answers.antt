use borrow.Author.Rules.{rules}
use Rattle.cows.specs.Terms.{variable}
use Rattle.scripts.proofs.in_variables.Goals as goal

pub returns : goal.returns
unfolding variable
returns c = search rules
