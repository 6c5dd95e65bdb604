-- Each call is at a later place, so fewer records are left; what reading comes to at a record is in proofs/Steps.
use native.Mathlib.Omega.{arith}
use Rattle.nesting.proofs.Steps.{stops, inside, single_read, left_fault, right_read}
use Rattle.nesting.proofs.+nest_on.Goals as goal

pub returns-then-i-s : goal.returns-then-i-s
returns-then-i-s t c = stops _ _ _ c.requires.0 c.if-i-s.true

pub bounds-s-i : goal.bounds-s-i
bounds-s-i t c = let a = c.args in omega (arith, inside a.s.now a.i a.depth c.requires.0 c.if-i-s.false)

pub returns-then-kind : goal.returns-then-kind
returns-then-kind t c = single_read _ _ _ c.requires.0 c.if-i-s.false c.if-kind.true

pub nest_on-requires : goal.nest_on-requires
nest_on-requires t c = let a = c.args in omega (arith, inside a.s.now a.i a.depth c.requires.0 c.if-i-s.false)

pub returns-in_err-m : goal.returns-in_err-m
returns-in_err-m t c = left_fault _ _ _ c.requires.0 c.if-i-s.false c.if-kind.false _ _ c.from_residual.ensures.1 c.in_err-m.ensures

pub nest_on-requires-2 : goal.nest_on-requires-2
nest_on-requires-2 t c = let a = c.args in omega (arith, inside a.s.now a.i a.depth c.requires.0 c.if-i-s.false, c.in_ok-m.ensures)

pub returns : goal.returns
returns t c = right_read _ _ _ c.requires.0 c.if-i-s.false c.if-kind.false c.nest_on-2.result _ c.in_ok-m.ensures c.nest_on-2.ensures
