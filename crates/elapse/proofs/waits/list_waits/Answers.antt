-- What the walk does at each record is in proofs/Listing.
use borrow.Author.Rules.{rules}
use mathlib.Core.Path.{refl, ◌∙◌}
use Prim.Native.Nat.{◌*◌}
use native.Mathlib.Omega.{arith}
use lib.Seq.{length-take-le, get_or-take}
use Rattle.elapse.proofs.Walking.{ahead-next, ahead-past}
use Rattle.elapse.proofs.Listing.{listing_start, listing-end, listing_past, listing-wait}
use Rattle.elapse.proofs.waits.list_waits.Goals as goal

pub loop-p-init : goal.loop-p-init
loop-p-init c = let (i, _, k) = c.requires in
    let l = length-take-le _ _ i in
    (omega arith, omega arith, omega (arith, l, k.few), omega (arith, l, k.room), refl, l, λ u h. listing_start _ _ u h.holds.is)

pub next_live-next-requires : goal.next_live-next-requires
next_live-next-requires c = let k = c.requires.2 in let v = c.loop-p.invariant in (ahead-next _ _ _ k (v.6 k.term k.table).ahead (omega arith) c.from.ensures).0

pub put_word-requires : goal.put_word-requires
put_word-requires c = omega (arith, c.requires.1, c.loop-p.invariant.4)

pub loop-p-smaller-then-kind-eq-WAIT : goal.loop-p-smaller-then-kind-eq-WAIT
loop-p-smaller-then-kind-eq-WAIT c = let k = c.requires.2 in let v = c.loop-p.invariant in omega (arith, ahead-past _ _ _ k (v.6 k.term k.table).ahead (omega arith) c.from.ensures _ c.next_live-next.ensures)

pub loop-p-preserved-then-kind-eq-WAIT : goal.loop-p-preserved-then-kind-eq-WAIT
loop-p-preserved-then-kind-eq-WAIT c = let k = c.requires.2 in let v = c.loop-p.invariant in
    let kind = get_or-take (16 * c.args.n) c.args.t.now (16 * c.loop-p.p) 0 (omega arith) in
    (omega (arith, ahead-past _ _ _ k (v.6 k.term k.table).ahead (omega arith) c.from.ensures _ c.next_live-next.ensures), omega (arith, ahead-past _ _ _ k (v.6 k.term k.table).ahead (omega arith) c.from.ensures _ c.next_live-next.ensures), v.2, v.3, search rules, v.5, λ u h. listing-wait _ _ u _ _ _ (v.6 u h) (omega arith) h.end c.from.ensures (kind ∙ c.if-kind-eq-WAIT.true) (c.next_live-next.ensures ∙ rw kind refl) c.put_word.ensures)

pub loop-p-smaller : goal.loop-p-smaller
loop-p-smaller c = let k = c.requires.2 in let v = c.loop-p.invariant in omega (arith, ahead-past _ _ _ k (v.6 k.term k.table).ahead (omega arith) c.from.ensures _ c.next_live-next.ensures)

pub loop-p-preserved : goal.loop-p-preserved
loop-p-preserved c = let k = c.requires.2 in let v = c.loop-p.invariant in
    let kind = get_or-take (16 * c.args.n) c.args.t.now (16 * c.loop-p.p) 0 (omega arith) in
    (omega (arith, ahead-past _ _ _ k (v.6 k.term k.table).ahead (omega arith) c.from.ensures _ c.next_live-next.ensures), omega (arith, ahead-past _ _ _ k (v.6 k.term k.table).ahead (omega arith) c.from.ensures _ c.next_live-next.ensures), v.2, v.3, v.4, v.5, λ u h. listing_past _ _ u _ _ _ (v.6 u h) (omega arith) h.end c.from.ensures (omega (arith, kind)) (c.next_live-next.ensures ∙ rw kind refl))

pub returns : goal.returns
returns c u h = let v = c.loop-p.invariant in listing-end _ _ u _ _ _ (v.6 u h) (omega arith) (omega (arith, c.requires.1))
