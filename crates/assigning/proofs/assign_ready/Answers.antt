-- The ready records before place i are noted.
use mathlib.Core.Path.{refl}
use native.Mathlib.Omega.{arith}
use Rattle.ways.proofs.KnownTables.{known_of, table_size}
use Rattle.holding.proofs.Passing.{past_next}
use Rattle.assigning.proofs.Noting.{noting_start, noting_end, noting_past}
use Rattle.assigning.proofs.assign_ready.Goals as goal

pub loop-i-init : goal.loop-i-init
loop-i-init c = (omega arith, refl, λ t h b. noting_start t _ b)

pub note-requires : goal.note-requires
note-requires c = let p = c.requires in
    let q = (known_of c.args.table.known) in
    record { term = q.term; holds = q.table.holds; within = q.table.within; chained = p.0; room = omega arith; place = omega arith }

pub loop-i-smaller : goal.loop-i-smaller
loop-i-smaller c = let q = (known_of c.args.table.known) in
    omega (arith, past_next _ _ q.term q.table c.loop-i.i (omega arith) _ c.next_ready-i.ensures)

pub loop-i-preserved : goal.loop-i-preserved
loop-i-preserved c = let q = (known_of c.args.table.known) in (
  (past_next _ _ q.term q.table c.loop-i.i (omega arith) _ c.next_ready-i.ensures).1,
  omega arith,
  λ t h b. noting_past _ _ t h c.loop-i.i (omega arith) _ (omega arith) (c.loop-i.invariant.2 t h b) _ c.next_ready-i.ensures _ (c.note.ensures t h.holds),
)

pub returns : goal.returns
returns c t h b = noting_end t _ _ (c.loop-i.invariant.2 t h b) (omega (arith, table_size _ _ t h))
