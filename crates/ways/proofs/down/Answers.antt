use mathlib.Core.Path.{◌∙◌}
use native.Mathlib.Omega.{arith}
use Rattle.ways.proofs.Descending.{step_first, step_second}
use Rattle.ways.proofs.down.Goals as goal

pub returns-then-a-end : goal.returns-then-a-end
returns-then-a-end c t e o b = step_first t _ _ o b _ (λ i. c.from-end.ensures ∙ e _ i) c.if-a-end.true

pub returns-else-a-end : goal.returns-else-a-end
returns-else-a-end c t e o b = step_second t _ _ o b _ (λ i. c.from-end.ensures ∙ e _ i) (omega (arith, c.if-a-end.false))
