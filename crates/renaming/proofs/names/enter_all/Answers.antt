use mathlib.Core.Path.{sym, ◌∙◌}
use borrow.Author.Tests.{ltb-true}
use Rattle.cows.proofs.Basics.{and_true}
use Rattle.renaming.proofs.Occurring.{every-drop, entered-drop, entered-none}
use Rattle.renaming.proofs.names.enter_all.Goals as goal

pub enter-requires : goal.enter-requires
enter-requires c = let v = c.loop-a.invariant in
    rw v.0 (ltb-true _ _ (and_true _ _ (sym (every-drop _ _ _ c.loop-a-test.true) ∙ v.1)).0)

pub loop-a-preserved : goal.loop-a-preserved
loop-a-preserved c = let v = c.loop-a.invariant in
    (c.enter.auto.names ∙ v.0, (and_true _ _ (sym (every-drop _ _ _ c.loop-a-test.true) ∙ v.1)).1, rw c.enter.ensures (sym (entered-drop _ _ _ c.loop-a-test.true) ∙ v.2))

pub returns : goal.returns
returns c = let v = c.loop-a.invariant in
    record { fit = sym c.if-not-all_fit.false ∙ c.all_fit.ensures; left = λ e. sym (entered-none _ _ _ c.loop-a-test.false) ∙ v.2 }
