-- Each call has fewer records left.
use mathlib.Core.Path.{sym, ◌∙◌}
use native.Mathlib.Omega.{arith}
use Rattle.depths.proofs.Deep.{first_standing, second_standing}
use Rattle.depths.proofs.TooDeep.{deep_here, deep-leaf, deep_one, deep-left, deep_right}
use Rattle.depths.proofs.+first_deep.Goals as goal

pub returns-then-d-gt-MAX_DEPTH : goal.returns-then-d-gt-MAX_DEPTH
returns-then-d-gt-MAX_DEPTH t c = deep_here _ _ _ c.if-d-gt-MAX_DEPTH.true

pub returns-then-c-eq0 : goal.returns-then-c-eq0
returns-then-c-eq0 t c = deep-leaf _ _ _ _ _ c.requires c.children-c.ensures.0 (omega (arith, c.if-d-gt-MAX_DEPTH.false)) c.if-c-eq0.true

pub first_deep-first-requires : goal.first_deep-first-requires
first_deep-first-requires t c = let q = c.requires in (omega (arith, q.inside), first_standing _ _ _ _ q c.children-c.ensures.0 c.if-c-eq0.false)

pub returns-then-c-eq1 : goal.returns-then-c-eq1
returns-then-c-eq1 t c = deep_one _ _ _ _ _ c.requires c.children-c.ensures.0 (omega (arith, c.if-d-gt-MAX_DEPTH.false)) _ c.first_deep-first.ensures c.if-c-eq1.true

pub returns-then-is_some : goal.returns-then-is_some
returns-then-is_some t c = deep-left _ _ _ _ _ c.requires c.children-c.ensures.0 (omega (arith, c.if-d-gt-MAX_DEPTH.false)) _ c.first_deep-first.ensures c.if-c-eq0.false c.if-c-eq1.false (sym c.is_some.ensures ∙ c.if-is_some.true)

pub bounds-ends-i : goal.bounds-ends-i
bounds-ends-i t c = omega (arith, c.requires.end.room, c.requires.inside)

pub first_deep-requires : goal.first_deep-requires
first_deep-requires t c = let (q, l) = second_standing _ _ _ _ c.requires c.children-c.ensures.0 c.if-c-eq0.false c.if-c-eq1.false _ c.from.ensures in (omega (arith, q.inside), q)

pub returns : goal.returns
returns t c = deep_right _ _ _ _ _ c.requires c.children-c.ensures.0 (omega (arith, c.if-d-gt-MAX_DEPTH.false)) _ c.first_deep-first.ensures c.if-c-eq0.false c.if-c-eq1.false (sym c.is_some.ensures ∙ c.if-is_some.false) _ c.from.ensures _ c.first_deep.ensures
