use mathlib.Core.Path.{◌≡◌, sym, subst, ◌∙◌}
use native.Mathlib.Omega.{arith}
use Rattle.chains.proofs.Finding.{Finding, walk_most, finding_start, finding_end, finding_found, finding_on, finding_less}
use Rattle.chains.proofs.Chains.behind.Goals as goal

pub loop-e-init : goal.loop-e-init
loop-e-init c = let f = finding_start c.args.s.now c.args.atom _ _ c.requires in
    rw (c.first-e.ensures, c.class_of.ensures.0) (walk_most _ _ _ f, f)

pub returns-then-word_at-atom : goal.returns-then-word_at-atom
returns-then-word_at-atom c = let l = c.loop-e in finding_found _ _ _ _ c.requires l.e (omega arith) l.invariant.1 (sym c.word_at.ensures ∙ c.if-word_at-atom.true)

pub loop-e-smaller : goal.loop-e-smaller
loop-e-smaller c = let l = c.loop-e in rw c.after-e.ensures (finding_less _ _ _ _ c.requires l.e (omega arith) l.invariant.1)

pub loop-e-preserved : goal.loop-e-preserved
loop-e-preserved c = let l = c.loop-e in
    let f = finding_on _ _ _ _ c.requires l.e (omega arith) l.invariant.1 (λ q. c.if-word_at-atom.false (c.word_at.ensures ∙ q)) in
    rw c.after-e.ensures (walk_most _ _ _ f, f)

pub returns : goal.returns
returns c = let l = c.loop-e in
    let q : l.e ≡ 0 = omega arith in
    finding_end _ _ _ _ c.requires (subst (Finding _ _) q l.invariant.1)
