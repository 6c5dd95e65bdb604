use Rattle.std.proofs.Common.{rules}
use Rattle.ways.proofs.KnownTables.{scope_first}
use Rattle.ways.proofs.known.KnownTable.scope.Goals as goal

pub returns : goal.returns
returns c t h = scope_first h c.requires _ (λ p b l y. search rules) _ (c.first_above.ensures t h)
