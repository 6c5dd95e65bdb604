-- Each turn of the loop goes on to a later place; what it does to the count is in proofs/Losing.
use mathlib.Core.Path.{refl}
use native.Mathlib.Omega.{arith}
use Rattle.kill.proofs.Losing.{end_fits, losing_start, losing_end, losing_on, losing_gone, losing_kept, losing_alone}
use Rattle.ways.proofs.KnownTables.{known_of}
use Rattle.kill.proofs.losses.lost.Goals as goal
use Rattle.kill.proofs.losses.lost.Goals.{then-kind-eq-PROTECTION+else-a-i, else-kind-eq-PROTECTION}

pub loop-i-init : goal.loop-i-init
loop-i-init c = let q = known_of c.args.table.known in
    let l = c.requires in
    let e = c.from-end.ensures in
    let f = end_fits _ _ q.term q.table _ l _ e in
    (omega arith, f.0, f.1, λ t h. losing_start _ _ t h _ l _ e _)

pub loop-i-preserved-then-kind-lt-RECEIVE : goal.loop-i-preserved-then-kind-lt-RECEIVE
loop-i-preserved-then-kind-lt-RECEIVE c = let v = c.loop-i.invariant in (omega arith, omega arith, v.2, λ t h. losing_alone _ _ h.end _ _ _ _ _ _ (v.3 t h) (omega arith) _ refl (λ k. omega arith) (λ k. absurd (omega arith)))

pub overflow_sub-gone : goal.overflow_sub-gone
overflow_sub-gone c = let n = losing_on (known_of c.args.table.known) c.loop-i.invariant.3 (omega arith) c.from-next.ensures in omega arith

pub overflow_sub-gone-then-kind-lt-PARALLEL : goal.overflow_sub-gone-then-kind-lt-PARALLEL
overflow_sub-gone-then-kind-lt-PARALLEL c = let n = losing_on (known_of c.args.table.known) c.loop-i.invariant.3 (omega arith) c.from-next.ensures in omega arith

pub overflow_add-gone : goal.overflow_add-gone
overflow_add-gone c = let n = losing_on (known_of c.args.table.known) c.loop-i.invariant.3 (omega arith) c.from-next.ensures in omega (arith, (known_of c.args.table.known).few)

pub loop-i-smaller-then-kind-lt-PARALLEL : goal.loop-i-smaller-then-kind-lt-PARALLEL
loop-i-smaller-then-kind-lt-PARALLEL c = let n = losing_on (known_of c.args.table.known) c.loop-i.invariant.3 (omega arith) c.from-next.ensures in omega arith

pub loop-i-preserved-then-kind-lt-PARALLEL : goal.loop-i-preserved-then-kind-lt-PARALLEL
loop-i-preserved-then-kind-lt-PARALLEL c = let v = c.loop-i.invariant in
    let e = c.from-next.ensures in
    let n = losing_on (known_of c.args.table.known) v.3 (omega arith) e in
    (omega arith, n.1, v.2, λ t h. losing_gone _ _ h.end _ _ _ _ _ _ (v.3 t h) (omega arith) _ e c.if-kind-lt-PARALLEL.true)

pub loop-i-smaller-then-a-i : goal.loop-i-smaller-then-a-i
loop-i-smaller-then-a-i c = let n = losing_on (known_of c.args.table.known) c.loop-i.invariant.3 (omega arith) c.from-next-then-kind-eq-PROTECTION.ensures in omega arith

pub loop-i-preserved-then-a-i : goal.loop-i-preserved-then-a-i
loop-i-preserved-then-a-i c = let v = c.loop-i.invariant in
    let e = c.from-next-then-kind-eq-PROTECTION.ensures in
    let n = losing_on (known_of c.args.table.known) v.3 (omega arith) e in
    (omega arith, n.1, v.2, λ t h. losing_kept _ _ h.end _ _ _ _ _ _ (v.3 t h) (omega arith) _ e c.if-kind-eq-PROTECTION.true c.if-a-i.true)

pub loop-i-preserved : goal.loop-i-preserved
loop-i-preserved c = let v = c.loop-i.invariant in (
  omega arith,
  omega arith,
  v.2,
  λ t h. losing_alone _ _ h.end _ _ _ _ _ _ (v.3 t h) (omega arith) _ refl (λ k. c.if-kind-lt-PARALLEL.false)
      (λ k. elim c.if-kind-eq-PROTECTION.branch [
        | then-kind-eq-PROTECTION+else-a-i w ↦ rw w.from-next-then-kind-eq-PROTECTION.ensures at w.if-a-i.false
        | else-kind-eq-PROTECTION w ↦ absurd (w.if-kind-eq-PROTECTION.false k)
      ]),
)

pub returns : goal.returns
returns c t h = losing_end _ _ t h _ c.requires _ c.from-end.ensures _ _ _ (c.loop-i.invariant.3 t h) (omega arith)
