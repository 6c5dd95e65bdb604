-- What the walk does at each record is in proofs/Lapsing.
use borrow.Author.Rules.{rules}
use mathlib.Core.Path.{refl, sym}
use Prim.Native.Nat.{◌*◌}
use native.Mathlib.Omega.{arith}
use lib.ListN.{take-append-drop}
use lib.Seq.{length-take-le}
use Rattle.elapse.proofs.Walking.{ahead-next, ahead-past}
use Rattle.elapse.proofs.Lapsing.{lapsing_start, lapsing_end, lapsing_past, lapsing_wait}
use Rattle.elapse.proofs.lower_waits.Goals as goal

pub loop-p-init : goal.loop-p-init
loop-p-init c = let (i, k) = c.requires in
    let l = length-take-le _ _ i in
    (omega arith, omega (arith, l, k.few), omega (arith, l, k.room), refl, l, λ u h. lapsing_start _ _ u _ _ h.holds.is (sym (take-append-drop (16 * c.args.n) _)))

pub next_live-next-requires : goal.next_live-next-requires
next_live-next-requires c = let k = c.requires.1 in let v = c.loop-p.invariant in (ahead-next _ _ _ k (v.5 k.term k.table).ahead (omega arith) c.from.ensures).0

pub loop-p-smaller-then-kind-eq-WAIT : goal.loop-p-smaller-then-kind-eq-WAIT
loop-p-smaller-then-kind-eq-WAIT c = let k = c.requires.1 in let v = c.loop-p.invariant in omega (arith, ahead-past _ _ _ k (v.5 k.term k.table).ahead (omega arith) c.from.ensures _ c.next_live-next.ensures)

pub loop-p-preserved-then-kind-eq-WAIT : goal.loop-p-preserved-then-kind-eq-WAIT
loop-p-preserved-then-kind-eq-WAIT c = let k = c.requires.1 in let v = c.loop-p.invariant in (
  omega (arith, ahead-past _ _ _ k (v.5 k.term k.table).ahead (omega arith) c.from.ensures _ c.next_live-next.ensures),
  v.1,
  v.2,
  search rules,
  v.4,
  λ u h.
      lapsing_wait _ _ u _ _ _ (v.5 u h) (omega arith) h.end c.from.ensures c.if-kind-eq-WAIT.true c.next_live-next.ensures (search rules) c.put_word.ensures,
)

pub loop-p-smaller : goal.loop-p-smaller
loop-p-smaller c = let k = c.requires.1 in let v = c.loop-p.invariant in omega (arith, ahead-past _ _ _ k (v.5 k.term k.table).ahead (omega arith) c.from.ensures _ c.next_live-next.ensures)

pub loop-p-preserved : goal.loop-p-preserved
loop-p-preserved c = let k = c.requires.1 in let v = c.loop-p.invariant in
    (omega (arith, ahead-past _ _ _ k (v.5 k.term k.table).ahead (omega arith) c.from.ensures _ c.next_live-next.ensures), v.1, v.2, v.3, v.4, λ u h. lapsing_past _ _ u _ _ _ (v.5 u h) (omega arith) h.end c.from.ensures (omega arith) c.next_live-next.ensures)

pub returns : goal.returns
returns c u h = lapsing_end _ _ u _ _ _ (c.loop-p.invariant.5 u h) (omega arith)
