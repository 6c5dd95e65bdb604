use mathlib.Core.Path.{refl, ◌∙◌}
use native.Mathlib.Omega.{arith}
use Rattle.renaming.proofs.Choosing.{going_start, going_other, going_wants, going_fits, going_turn, going_end}
use Rattle.renaming.proofs.names.choose.Goals as goal

pub loop-i-init : goal.loop-i-init
loop-i-init c = let m = c.requires in (omega (arith, m.marking.end), refl, refl, going_start _ _ _ _ m)

pub loop-i-preserved-then-s-i-ne-DELIMITATION : goal.loop-i-preserved-then-s-i-ne-DELIMITATION
loop-i-preserved-then-s-i-ne-DELIMITATION c = let v = c.loop-i.invariant in
    (omega arith, v.1, v.2, going_other _ _ _ _ _ _ _ v.3 c.loop-i-test.true c.if-s-i-ne-DELIMITATION.true)

pub new_atom-new-requires : goal.new_atom-new-requires
new_atom-new-requires c = going_wants _ _ _ _ _ _ _ c.loop-i.invariant.3 c.loop-i-test.true c.if-s-i-ne-DELIMITATION.false c.word_at-d.ensures

pub enter-requires : goal.enter-requires
enter-requires c = omega (arith, c.new_atom-new.auto.names, going_fits _ _ _ _ _ _ _ c.loop-i.invariant.3 c.loop-i-test.true c.if-s-i-ne-DELIMITATION.false c.word_at-d.ensures)

pub loop-i-preserved : goal.loop-i-preserved
loop-i-preserved c = let v = c.loop-i.invariant in (
  omega arith,
  c.enter.auto.names ∙ (c.new_atom-new.auto.names ∙ v.1),
  c.new_atom-new.auto.next ∙ v.2,
  going_turn _ _ _ _ _ _ _ v.3 c.loop-i-test.true c.if-s-i-ne-DELIMITATION.false c.word_at-d.ensures _ _ c.new_atom-new.ensures c.enter.ensures,
)

pub returns : goal.returns
returns c = going_end _ _ _ _ _ _ _ c.loop-i.invariant.3 c.loop-i-test.false
