use native.Mathlib.Omega.{arith}
use Rattle.shapes.proofs.Picking.{first_small, other_small, picked}
use Rattle.shapes.proofs.number_of.Goals as goal

pub overflow_add-result : goal.overflow_add-result
overflow_add-result c = let a = c.args in let o = a.of.now in omega (arith, other_small o.behind o.second a.x a.b c.requires.0 c.requires.2)

pub returns-then-p-q : goal.returns-then-p-q
returns-then-p-q c k m = let a = c.args in (picked a.x a.a a.b c.requires.0 c.requires.1 (omega arith) k _ _ _ m).0 (omega arith)

pub overflow_add-result-2 : goal.overflow_add-result-2
overflow_add-result-2 c = let a = c.args in omega (arith, first_small a.of.now.first a.a c.requires.1)

pub overflow_add-result-3 : goal.overflow_add-result-3
overflow_add-result-3 c = let a = c.args in omega (arith, first_small a.of.now.first a.a c.requires.1)

pub returns : goal.returns
returns c k m = let a = c.args in (picked a.x a.a a.b c.requires.0 c.requires.1 (omega arith) k _ _ _ m).1 (omega arith)
