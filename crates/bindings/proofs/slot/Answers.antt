-- A variable is a number of its range.
use borrow.Author.Rules.{rules}
use native.Mathlib.Omega.{arith}
use Rattle.cows.proofs.Sets.{variable-range}
use Rattle.bindings.proofs.slot.Goals as goal

pub overflow_sub-result : goal.overflow_sub-result
overflow_sub-result c = omega (arith, variable-range _ c.requires)

pub returns : goal.returns
returns c = let r = variable-range _ c.requires in search rules
