use mathlib.Core.Path.{◌∙◌}
use Rattle.nesting.proofs.Steps.{whole_read, whole_fault}
use Rattle.nesting.proofs.find_misplaced.Goals as goal

pub returns-in-Ok : goal.returns-in-Ok
returns-in-Ok c = c.then_some.ensures ∙ whole_read _ _ c.in-Ok.ensures

pub returns-in-Err : goal.returns-in-Err
returns-in-Err c = whole_fault _ _ c.in-Err.ensures
