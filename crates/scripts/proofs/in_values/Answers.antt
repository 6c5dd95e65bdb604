use borrow.Author.Rules.{rules}
use Rattle.cows.specs.Terms.{value}
use Rattle.scripts.proofs.in_values.Goals as goal

pub returns : goal.returns
unfolding value
returns c = search rules
