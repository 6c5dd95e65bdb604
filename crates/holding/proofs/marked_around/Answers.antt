use Rattle.std.proofs.Common.{rules}
use Rattle.holding.proofs.Around.{marked_first}
use Rattle.holding.proofs.marked_around.Goals as goal

pub returns : goal.returns
returns c t h m v = marked_first h c.requires.0 v (λ p b l y. search rules) _ (c.first_above.ensures t h)
