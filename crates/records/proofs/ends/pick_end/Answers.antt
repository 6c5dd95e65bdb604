use native.Mathlib.Omega.{arith}
use Rattle.records.proofs.Picking.{end_picked}
use Rattle.records.proofs.ends.pick_end.Goals as goal

pub overflow_mul-result : goal.overflow_mul-result
overflow_mul-result c = let a = c.args in omega (arith, end_picked a.x a.a a.b a.none a.one a.two c.requires.0)

pub overflow_mul-result-2 : goal.overflow_mul-result-2
overflow_mul-result-2 c = let a = c.args in omega (arith, end_picked a.x a.a a.b a.none a.one a.two c.requires.0)

pub overflow_add-result : goal.overflow_add-result
overflow_add-result c = let a = c.args in omega (arith, end_picked a.x a.a a.b a.none a.one a.two c.requires.0)

pub overflow_mul-result-3 : goal.overflow_mul-result-3
overflow_mul-result-3 c = let a = c.args in omega (arith, end_picked a.x a.a a.b a.none a.one a.two c.requires.0)

pub overflow_add-result-2 : goal.overflow_add-result-2
overflow_add-result-2 c = let a = c.args in omega (arith, end_picked a.x a.a a.b a.none a.one a.two c.requires.0)

pub returns : goal.returns
returns c = let a = c.args in (end_picked a.x a.a a.b a.none a.one a.two c.requires.0).3
