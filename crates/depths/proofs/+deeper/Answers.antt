-- Each call has less room.
use mathlib.Core.Path.{refl}
use native.Mathlib.Omega.{arith}
use Rattle.depths.proofs.Deep.{end_after, short_shallow, no_room, first_standing, second_standing, has_child, first_deeper, only_deeper, second_deeper}
use Rattle.depths.proofs.+deeper.Goals as goal

pub bounds-ends-i : goal.bounds-ends-i
bounds-ends-i t c = omega (arith, c.requires.end.room)

pub overflow_sub-from : goal.overflow_sub-from
overflow_sub-from t c = omega (arith, c.from.ensures, end_after c.requires)

pub returns-then-from-i : goal.returns-then-from-i
returns-then-from-i t c = short_shallow c.requires _ (omega (arith, c.from.ensures))

pub returns-then-room-eq0 : goal.returns-then-room-eq0
returns-then-room-eq0 t c u h = no_room _ c.if-room-eq0.true u

pub deeper-requires : goal.deeper-requires
deeper-requires t c = (omega arith, first_standing _ _ _ _ c.requires refl (has_child _ _ _ _ c.requires refl (omega (arith, c.from.ensures))))

pub returns-then-deeper : goal.returns-then-deeper
returns-then-deeper t c = let q = c.requires in
    first_deeper _ _ _ _ q refl _ (omega arith) (has_child _ _ _ _ q refl (omega (arith, c.from.ensures))) (rw c.if-deeper.true at c.deeper.ensures)

pub bounds-s-i : goal.bounds-s-i
bounds-s-i t c = omega (arith, c.requires.inside)

pub returns-then-children-eq1 : goal.returns-then-children-eq1
returns-then-children-eq1 t c = let q = c.requires in
    only_deeper _ _ _ _ q c.children.ensures.0 _ (omega arith) c.if-children-eq1.true _ (rw c.if-deeper.false at c.deeper.ensures)

pub bounds-ends-i-2 : goal.bounds-ends-i-2
bounds-ends-i-2 t c = omega (arith, c.requires.end.room, c.requires.inside)

pub deeper-requires-2 : goal.deeper-requires-2
deeper-requires-2 t c = let q = c.requires in
    let has = has_child _ _ _ _ q c.children.ensures.0 (omega (arith, c.from.ensures)) in
    (omega arith, (second_standing _ _ _ _ q c.children.ensures.0 has c.if-children-eq1.false _ c.from-2.ensures).0)

pub returns : goal.returns
returns t c = let q = c.requires in
    let has = has_child _ _ _ _ q c.children.ensures.0 (omega (arith, c.from.ensures)) in
    second_deeper _ _ _ _ q c.children.ensures.0 _ (omega arith) has c.if-children-eq1.false _ c.from-2.ensures
    (rw c.if-deeper.false at c.deeper.ensures) _ c.deeper-2.ensures
