-- The children's depths are at hand: one more than the larger.
use native.Mathlib.Omega.{arith}
use Rattle.depths.proofs.Deep.{depth-none, depth_one, depth_two}
use Rattle.deepest.proofs.Heights.{first_place, both_places}
use Rattle.deepest.proofs.height.Goals as goal

pub returns-then-c-eq0 : goal.returns-then-c-eq0
returns-then-c-eq0 c = depth-none _ _ _ _ c.requires.0 c.children-c.ensures.0 c.if-c-eq0.true

pub bounds-heights-i : goal.bounds-heights-i
bounds-heights-i c = omega (arith, first_place _ _ c.args.heights.now _ _ c.requires.0 c.children-c.ensures.0 c.requires.1 c.if-c-eq0.false)

pub overflow_add-result : goal.overflow_add-result
overflow_add-result c = omega (arith, first_place _ _ c.args.heights.now _ _ c.requires.0 c.children-c.ensures.0 c.requires.1 c.if-c-eq0.false)

pub returns-then-c-eq1 : goal.returns-then-c-eq1
returns-then-c-eq1 c = depth_one _ _ _ _ c.requires.0 c.children-c.ensures.0 _ (c.requires.1 _ (omega arith)) c.if-c-eq1.true

pub bounds-heights-from : goal.bounds-heights-from
bounds-heights-from c = omega (arith, both_places _ _ c.args.heights.now _ _ c.requires.0 c.children-c.ensures.0 c.requires.1 _ c.if-c-eq0.false c.if-c-eq1.false c.from.ensures)

pub overflow_add-result-2 : goal.overflow_add-result-2
overflow_add-result-2 c = omega (arith, c.max.ensures, both_places _ _ c.args.heights.now _ _ c.requires.0 c.children-c.ensures.0 c.requires.1 _ c.if-c-eq0.false c.if-c-eq1.false c.from.ensures)

pub returns : goal.returns
returns c = let z = both_places _ _ c.args.heights.now _ _ c.requires.0 c.children-c.ensures.0 c.requires.1 _ c.if-c-eq0.false c.if-c-eq1.false c.from.ensures in
    rw c.max.ensures
    (depth_two _ _ _ _ c.requires.0 c.children-c.ensures.0 _ (c.requires.1 _ (omega arith)) c.if-c-eq0.false c.if-c-eq1.false _ c.from.ensures _ (c.requires.1 _ (omega arith)))
