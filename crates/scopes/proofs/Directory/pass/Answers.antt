use mathlib.Core.Path.{refl, sym, ◌∙◌}
use native.Mathlib.Omega.{arith}
use Rattle.scopes.proofs.NextPlace.{pass_other}
use Rattle.scopes.proofs.Passing.{going_start, going_turn, going_open, going_clash, going_fine, level_two, unbound_is, unbound_not, found-delimitation, found_other}
use Rattle.scopes.proofs.Directory.pass.Goals as goal

pub loop-j-init : goal.loop-j-init
loop-j-init c t p = going_start _ _ _ _ t refl p

pub pass_delimitation-again-requires : goal.pass_delimitation-again-requires
pass_delimitation-again-requires c = (c.requires, omega arith, c.if-s-j-eq-DELIMITATION.true)

pub loop-j-preserved-then-s-j-eq-DELIMITATION : goal.loop-j-preserved-then-s-j-eq-DELIMITATION
loop-j-preserved-then-s-j-eq-DELIMITATION c t p =
    let g = c.loop-j.invariant t p in
    let (q, e) = c.pass_delimitation-again.ensures t g.passed in
    let (u, k) = found-delimitation _ t p.holds _ c.loop-j-test.true c.if-s-j-eq-DELIMITATION.true in
    going_turn _ _ _ _ _ _ t g _ _ _ _ c.loop-j-test.true u (k ∙ sym e) (rw (c.or-clash.ensures, c.then_some.ensures)) q

pub record_fault-f-requires : goal.record_fault-f-requires
record_fault-f-requires c = (omega (arith, c.requires.few), omega arith)

pub returns-then-eq : goal.returns-then-eq
returns-then-eq c t p = let g = c.loop-j.invariant t p in
    going_open _ _ _ _ _ _ t g c.loop-j-test.true (level_two _ _ _ (c.record_fault-f.ensures t g.passed) (unbound_is _ (sym c.eq.ensures ∙ c.if-eq.true)))

pub loop-j-preserved : goal.loop-j-preserved
loop-j-preserved c t p =
    let l = c.loop-j-test.true in
    let g = c.loop-j.invariant t p in
    let (u, k) = found_other _ t p.holds _ l _ (c.record_fault-f.ensures t g.passed) (unbound_not _ (sym c.eq.ensures ∙ c.if-eq.false)) c.if-s-j-eq-DELIMITATION.false in
    going_turn _ _ _ _ _ _ t g _ _ _ _ l u k (rw (c.or-clash-in-loop-j.ensures, c.then_some-in-loop-j.ensures, c.eq-in-loop-j.ensures)) (pass_other _ _ _ _ l c.if-s-j-eq-DELIMITATION.false t g.passed)

pub returns-in-Some : goal.returns-in-Some
returns-in-Some c t p = going_clash _ _ _ _ _ _ t (c.loop-j.invariant t p) c.loop-j-test.false _ c.in-Some.is

pub returns-in-None : goal.returns-in-None
returns-in-None c t p = going_fine _ _ _ _ _ _ t (c.loop-j.invariant t p) c.loop-j-test.false c.in-None.is
