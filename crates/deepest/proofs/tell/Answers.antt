-- By the children of the record.
use mathlib.Core.Path.{refl}
use native.Mathlib.Omega.{arith}
use lib.ListN.{length-set}
use Rattle.deepest.proofs.Telling.{level_few, first_child, both-children, told_none, told_one, told_two}
use Rattle.deepest.proofs.tell.Goals as goal

pub returns-then-c-eq0 : goal.returns-then-c-eq0
returns-then-c-eq0 c = told_none c.requires c.children-c.ensures.0 c.if-c-eq0.true

pub overflow_add-level : goal.overflow_add-level
overflow_add-level c = omega (arith, level_few c.requires)

pub bounds-levels-l : goal.bounds-levels-l
bounds-levels-l c = omega (arith, first_child c.requires c.children-c.ensures.0 c.if-c-eq0.false)

pub bounds-sides-l : goal.bounds-sides-l
bounds-sides-l c = omega (arith, first_child c.requires c.children-c.ensures.0 c.if-c-eq0.false)

pub returns-then-c-eq1 : goal.returns-then-c-eq1
returns-then-c-eq1 c = told_one c.requires c.children-c.ensures.0 _ refl c.if-c-eq1.true

pub bounds-levels-r : goal.bounds-levels-r
bounds-levels-r c = simp length-set (omega (arith, both-children c.requires c.children-c.ensures.0 c.if-c-eq0.false c.if-c-eq1.false c.from-r.ensures))

pub bounds-heights-r : goal.bounds-heights-r
bounds-heights-r c = omega (arith, both-children c.requires c.children-c.ensures.0 c.if-c-eq0.false c.if-c-eq1.false c.from-r.ensures)

pub overflow_add-sides : goal.overflow_add-sides
overflow_add-sides c = omega (arith, level_few c.requires, both-children c.requires c.children-c.ensures.0 c.if-c-eq0.false c.if-c-eq1.false c.from-r.ensures)

pub bounds-sides-l-2 : goal.bounds-sides-l-2
bounds-sides-l-2 c = omega (arith, both-children c.requires c.children-c.ensures.0 c.if-c-eq0.false c.if-c-eq1.false c.from-r.ensures)

pub bounds-heights-l : goal.bounds-heights-l
bounds-heights-l c = omega (arith, both-children c.requires c.children-c.ensures.0 c.if-c-eq0.false c.if-c-eq1.false c.from-r.ensures)

pub overflow_add-sides-2 : goal.overflow_add-sides-2
overflow_add-sides-2 c = omega (arith, level_few c.requires, both-children c.requires c.children-c.ensures.0 c.if-c-eq0.false c.if-c-eq1.false c.from-r.ensures)

pub bounds-sides-r : goal.bounds-sides-r
bounds-sides-r c = simp length-set (omega (arith, both-children c.requires c.children-c.ensures.0 c.if-c-eq0.false c.if-c-eq1.false c.from-r.ensures))

pub returns : goal.returns
returns c = told_two c.requires c.children-c.ensures.0 _ _ refl c.if-c-eq0.false c.if-c-eq1.false c.from-r.ensures
