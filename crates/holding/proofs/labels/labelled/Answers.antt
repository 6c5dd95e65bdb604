use mathlib.Core.Path.{sym, ◌∙◌}
use Rattle.std.proofs.Common.{rules}
use Rattle.holding.proofs.Around.{unlabelled}
use Rattle.holding.proofs.labels.labelled.Goals as goal

pub returns : goal.returns
returns c e t h = unlabelled h c.requires (λ p m y. search rules) _ (sym c.is_some.ensures ∙ e) (c.first_above.ensures t h)
