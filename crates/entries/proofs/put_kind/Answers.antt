-- The moves of the places below i are written.
use native.Mathlib.Omega.{arith}
use lib.ListN.{length}
use Rattle.roles.proofs.Same.{by_test}
use Rattle.entries.proofs.Entries.{listed_start, listed_on, listed-put, room_for}
use Rattle.entries.proofs.put_kind.Goals as goal
use Rattle.entries.proofs.put_kind.Goals.{then-eq, else-eq}

pub loop-i-init : goal.loop-i-init
loop-i-init c = listed_start _ _ _ _ _

pub overflow_mul-count : goal.overflow_mul-count
overflow_mul-count c = let l = c.loop-i in omega (arith, room_for c.args.cast.now c.args.role l.i (length c.args.cast.now) (omega arith) (by_test _ c.args.role c.eq.ensures c.if-eq.true), l.invariant.number, c.requires.fits, l.auto.out)

pub put_move-requires : goal.put_move-requires
put_move-requires c = let l = c.loop-i in omega (arith, room_for c.args.cast.now c.args.role l.i (length c.args.cast.now) (omega arith) (by_test _ c.args.role c.eq.ensures c.if-eq.true), l.invariant.number, c.requires.fits, l.auto.out)

pub overflow_add-count : goal.overflow_add-count
overflow_add-count c = let l = c.loop-i in omega (arith, room_for c.args.cast.now c.args.role l.i (length c.args.cast.now) (omega arith) (by_test _ c.args.role c.eq.ensures c.if-eq.true), l.invariant.number, c.requires.fits, l.auto.out)

pub loop-i-preserved : goal.loop-i-preserved
loop-i-preserved c = let l = c.loop-i in
    elim c.if-eq.branch [
      | then-eq w ↦ rw (w.out-is, w.count-is) (listed-put _ _ _ _ _ l.i l.count l.out l.invariant _ (by_test _ c.args.role c.eq.ensures w.if-eq.true) w.put_move.ensures)
      | else-eq w ↦ rw (w.out-is, w.count-is) (listed_on _ _ _ _ _ l.i l.count l.out l.invariant (by_test _ c.args.role c.eq.ensures w.if-eq.false))
    ]
