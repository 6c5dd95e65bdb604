-- Each call is at a later place, so fewer bytes are left; what measuring comes to at a record is in proofs/Measures.
use native.Mathlib.Omega.{arith}
use Rattle.extents.proofs.Measures.{act_measured, left_measurable, right_measurable, parts_bounded, composed_measured}
use Rattle.extents.proofs.+measure.Goals as goal

pub returns-then-kind-lt-SEQUENCE : goal.returns-then-kind-lt-SEQUENCE
returns-then-kind-lt-SEQUENCE t c = act_measured c.if-kind-lt-SEQUENCE.true

pub measure-left-requires : goal.measure-left-requires
measure-left-requires t c = (omega arith, left_measurable c.if-kind-lt-SEQUENCE.false c.requires)

pub measure-right-requires : goal.measure-right-requires
measure-right-requires t c = (omega arith, right_measurable c.if-kind-lt-SEQUENCE.false c.measure-left.ensures c.requires)

pub overflow_add-result-2 : goal.overflow_add-result-2
overflow_add-result-2 t c = omega (arith, parts_bounded c.if-kind-lt-SEQUENCE.false c.measure-left.ensures c.measure-right.ensures c.requires)

pub overflow_add-result-3 : goal.overflow_add-result-3
overflow_add-result-3 t c = omega (arith, parts_bounded c.if-kind-lt-SEQUENCE.false c.measure-left.ensures c.measure-right.ensures c.requires)

pub deepened-requires : goal.deepened-requires
deepened-requires t c = omega (arith, parts_bounded c.if-kind-lt-SEQUENCE.false c.measure-left.ensures c.measure-right.ensures c.requires)

pub returns : goal.returns
returns t c = composed_measured c.if-kind-lt-SEQUENCE.false c.measure-left.ensures c.measure-right.ensures _ _ c.added.ensures.0 c.deepened.ensures
