use borrow.Author.Tests.{not-true, not-false}
use mathlib.Core.Path.{refl, ◌∙◌}
use mathlib.Core.List.{[], ◌∷◌}
use Prim.Native.Nat.{◌+◌, ◌-◌}
use native.Mathlib.Omega.{arith}
use Rattle.cows.specs.Moves.{Communicate}
use Rattle.ways.proofs.KnownTables.{table_size}
use Rattle.meetings.specs.Meetings.{Lists}
use Rattle.meetings.proofs.Listing.{lists_written, lists_counted, lists_length}
use Rattle.meetings.proofs.Walks.{along, steps_all, stepping_start, stepping_few, stepping_end, stepping_tells, stepping_less, stepping_skip, stepping_room, stepping_put}
use Rattle.meetings.proofs.put_meetings_of.Goals as goal
use Rattle.meetings.proofs.put_meetings_of.Goals.{then-writes, else-writes}

pub loop-e-init : goal.loop-e-init
loop-e-init c = let z = c.requires in
    let q = c.class_at.ensures.0 in
    rw (c.first-e.ensures, q) (refl, steps_all _ _ _ _ _ _ _ _ _ _ _ z.0.played.known (λ t h. stepping_start _ _ t h _ _ _ _ _ _ (along z.0 z.1 refl refl)))

pub loop-e-smaller-then-not-meet : goal.loop-e-smaller-then-not-meet
loop-e-smaller-then-not-meet c = let k = c.requires.0.played.known in
    let l = c.loop-e in
    rw c.after-e.ensures (stepping_less _ _ k.term k.table _ _ _ _ _ _ l.e _ _ (l.invariant.1.1 k.term k.table) (omega arith))

pub loop-e-preserved-then-not-meet : goal.loop-e-preserved-then-not-meet
loop-e-preserved-then-not-meet c = let z = c.requires in
    let l = c.loop-e in (
      l.invariant.0,
      rw c.after-e.ensures
          (steps_all _ _ _ _ _ _ _ _ _ _ _ z.0.played.known (λ t h.
          stepping_skip _ _ t h _ _ _ _ _ _ l.e _ _ (l.invariant.1.1 t h) (omega arith)
          (stepping_tells _ _ t h _ _ _ _ _ _ l.e _ _ (l.invariant.1.1 t h) (omega arith) _ _ _ (z.0.numbers t h) (z.0.places t h) (c.reach_of-reach.ensures t h) _ c.meet.ensures ∙ not-true _ c.if-not-meet.true-raw))),
    )

pub overflow_mul-count : goal.overflow_mul-count
overflow_mul-count c = let z = c.requires in
    let k = z.0.played.known in
    let l = c.loop-e in
    omega (arith, stepping_few _ _ k.term k.table _ _ _ _ _ _ l.e _ _ (l.invariant.1.1 k.term k.table), table_size _ _ k.term k.table, k.few, z.2.few)

pub put_move-requires : goal.put_move-requires
put_move-requires c = let z = c.requires in
    let k = z.0.played.known in
    let l = c.loop-e in
    let w = l.invariant.1.1 k.term k.table in
    let y = stepping_tells _ _ k.term k.table _ _ _ _ _ _ l.e _ _ w (omega arith) _ _ _ (z.0.numbers k.term k.table) (z.0.places k.term k.table) (c.reach_of-reach.ensures k.term k.table) _ c.meet.ensures ∙ not-false _ c.if-not-meet.false-raw in
    omega (arith, stepping_room _ _ k.term k.table _ _ _ _ _ _ l.e _ _ w (omega arith) y, z.2.room k.term k.table c.if-writes.true, l.invariant.0)

pub overflow_add-count : goal.overflow_add-count
overflow_add-count c = let z = c.requires in
    let k = z.0.played.known in
    let l = c.loop-e in
    omega (arith, stepping_few _ _ k.term k.table _ _ _ _ _ _ l.e _ _ (l.invariant.1.1 k.term k.table), table_size _ _ k.term k.table, k.few, z.2.few)

pub loop-e-smaller : goal.loop-e-smaller
loop-e-smaller c = let k = c.requires.0.played.known in
    let l = c.loop-e in
    rw c.after-e.ensures (stepping_less _ _ k.term k.table _ _ _ _ _ _ l.e _ _ (l.invariant.1.1 k.term k.table) (omega arith))

-- a meeting is listed
pub loop-e-preserved : goal.loop-e-preserved
loop-e-preserved c = let l = c.loop-e in
    let one : Lists c.args.writes l.out l.count (Communicate c.args.a (l.e - 1) ∷ []) c.if-writes.out (l.count + 1) =
    elim c.if-writes.branch [
      | then-writes w ↦ rw (w.if-writes.true, w.out-is) (lists_written _ _ _ _ w.put_move.ensures)
      | else-writes w ↦ rw (w.if-writes.false, w.out-is) (lists_counted _ _ _ _)
    ] in (
      lists_length _ _ _ _ one ∙ l.invariant.0,
      rw c.after-e.ensures
          (steps_all _ _ _ _ _ _ _ _ _ _ _ c.requires.0.played.known (λ t h.
          stepping_put _ _ t h _ _ _ _ _ _ l.e _ _ (l.invariant.1.1 t h) (omega arith)
          (stepping_tells _ _ t h _ _ _ _ _ _ l.e _ _ (l.invariant.1.1 t h) (omega arith) _ _ _ (c.requires.0.numbers t h) (c.requires.0.places t h) (c.reach_of-reach.ensures t h) _ c.meet.ensures ∙ not-false _ c.if-not-meet.false-raw) one)),
    )

pub returns : goal.returns
returns c t h = let l = c.loop-e in stepping_end _ _ t h _ _ _ _ _ _ l.e _ _ (l.invariant.1.1 t h) (omega arith)
