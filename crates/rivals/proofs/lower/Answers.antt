-- The walk along the chain of the class: the invokes before the place reached are lowered (proofs/Lowering).
use borrow.Author.Tests.{not-true, not-false}
use mathlib.Core.Path.{◌≡◌, refl, sym, subst}
use native.Mathlib.Omega.{arith}
use Rattle.rivals.proofs.Lowering.{Lowering, by_tests, lowered_none, lowering_start, lowering_most, lowering_less, lowering_end, lowering_past, lowering_put}
use Rattle.rivals.proofs.lower.Goals as goal

pub returns-then-not-eq : goal.returns-then-not-eq
returns-then-not-eq c = lowered_none _ _ _ _ _ _ c.requires (by_tests _ _ _ _ c.eq.ensures c.eq-2.ensures (not-true _ c.if-not-eq.true-raw))

pub loop-e-init : goal.loop-e-init
loop-e-init c = let p = c.requires in
    let e = c.class_at.ensures in
    let w = lowering_start _ _ _ _ _ _ p (rw e.0 at e.1) in
    rw (c.first-e.ensures, e.0) (lowering_most _ _ _ _ _ _ p _ _ w, refl, w)

pub loop-e-smaller-in_default : goal.loop-e-smaller-in_default
loop-e-smaller-in_default c = let l = c.loop-e in
    let p = c.requires in
    rw c.after-e.ensures (lowering_less _ _ _ _ _ _ p l.fewest l.e (omega arith) l.invariant.2)

pub loop-e-preserved-in_default : goal.loop-e-preserved-in_default
loop-e-preserved-in_default c = let l = c.loop-e in
    let p = c.requires in
    let v = by_tests _ _ _ _ c.eq.ensures c.eq-2.ensures (not-false _ c.if-not-eq.false-raw) in
    let w = lowering_past _ _ _ _ _ _ p v l.fewest l.e (omega arith) l.invariant.2 _ c.fits_closed.ensures _ (sym c.in_default.is) in
    rw c.after-e.ensures (lowering_most _ _ _ _ _ _ p _ _ w, l.invariant.1, w)

pub loop-e-smaller : goal.loop-e-smaller
loop-e-smaller c = let l = c.loop-e in
    let p = c.requires in
    rw c.after-e.ensures (lowering_less _ _ _ _ _ _ p l.fewest l.e (omega arith) l.invariant.2)

pub loop-e-preserved : goal.loop-e-preserved
loop-e-preserved c = let l = c.loop-e in
    let p = c.requires in
    let v = by_tests _ _ _ _ c.eq.ensures c.eq-2.ensures (not-false _ c.if-not-eq.false-raw) in
    let w = lowering_put _ _ _ _ _ _ p v l.fewest l.e (omega arith) l.invariant.2 _ c.fits_closed.ensures _ _ (sym c.in-Ok.is) c.put_fewer.ensures in
    rw c.after-e.ensures (lowering_most _ _ _ _ _ _ p _ _ w, omega arith, w)

pub returns : goal.returns
returns c = let l = c.loop-e in
    let q : l.e ≡ 0 = omega arith in
    lowering_end _ _ _ _ _ _ c.requires (by_tests _ _ _ _ c.eq.ensures c.eq-2.ensures (not-false _ c.if-not-eq.false-raw)) l.fewest (subst (Lowering _ _ _ _ _) q l.invariant.2)
