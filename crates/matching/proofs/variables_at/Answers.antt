use mathlib.Core.Path.{ap, ◌∙◌}
use mathlib.Core.Bool.{false}
use native.Mathlib.Omega.{arith}
use Rattle.records.specs.Atoms.{is_variable}
use Rattle.records.proofs.Atoms.{variable_class}
use Rattle.records.proofs.Laws.{test_sum, test_small}
use Rattle.matching.proofs.variables_at.Goals as goal

pub returns : goal.returns
returns c = let e = c.is_variable.ensures ∙ (ap is_variable c.atom_at.ensures ∙ variable_class _) in
    rw (← e) (omega (arith, test_sum c.is_variable.result false, test_small c.is_variable.result))
