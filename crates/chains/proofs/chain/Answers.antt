-- The records from place i on that pass are chained.
use mathlib.Core.Path.{◌≡◌, sym, subst, ◌∙◌}
use Prim.Native.Nat.{◌+◌, ◌-◌}
use native.Mathlib.Omega.{arith}
use Rattle.chains.specs.Chains.{Chained}
use Rattle.chains.proofs.Chaining.{chained_start, chained_other, chained_put}
use Rattle.chains.proofs.chain.Goals as goal

pub loop-i-init : goal.loop-i-init
loop-i-init g c f h = chained_start _ _ _ _ _ c.requires.room.bare

pub loop-i-preserved-then-passes : goal.loop-i-preserved-then-passes
loop-i-preserved-then-passes g c f h = let l = c.loop-i in
    let q : l.i - 1 + 1 ≡ l.i = omega arith in
    let e = c.class_at-c.ensures in
    chained_put _ _ _ _ _ (l.i - 1) (omega arith) (subst (Chained _ _ _ _ _) (sym q) (l.invariant f h)) (sym (h (l.i - 1) (omega arith) _ c.passes.ensures) ∙ c.if-passes.true) _ e.0 e.1 (omega (arith, l.auto.heads, c.requires.room.wide)) (omega (arith, l.auto.next, c.requires.room.room))

pub loop-i-preserved : goal.loop-i-preserved
loop-i-preserved g c f h = let l = c.loop-i in
    let q : l.i - 1 + 1 ≡ l.i = omega arith in
    chained_other _ _ _ _ _ (l.i - 1) (omega arith) (subst (Chained _ _ _ _ _) (sym q) (l.invariant f h)) (sym (h (l.i - 1) (omega arith) _ c.passes.ensures) ∙ c.if-passes.false)

pub returns : goal.returns
returns g c f h = let l = c.loop-i in
    let q : l.i ≡ 0 = omega arith in
    subst (Chained _ _ _ _ _) q (l.invariant f h)
