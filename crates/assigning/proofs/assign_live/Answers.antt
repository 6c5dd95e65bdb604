-- The live records before place i have their roles.
use mathlib.Core.Path.{refl, ◌∙◌}
use native.Mathlib.Omega.{arith}
use lib.ListN.{length-set}
use Rattle.ways.proofs.KnownTables.{known_of, table_size}
use Rattle.ways.proofs.Seeking.{table_next}
use Rattle.assigning.proofs.Living.{living_start, living_end, living_through, living_over}
use Rattle.assigning.proofs.assign_live.Goals as goal

pub loop-i-init : goal.loop-i-init
loop-i-init c = (omega arith, refl, λ t h b. living_start t _ b)

pub loop-i-preserved-then-live_kind : goal.loop-i-preserved-then-live_kind
loop-i-preserved-then-live_kind c = (
  omega arith,
  length-set c.loop-i.cast _ _ ∙ c.loop-i.invariant.1,
  λ t h b.
      living_through _ _ t h c.loop-i.i (omega arith) _ _ (omega arith) (c.loop-i.invariant.2 t h b) _ (c.role_of.ensures t h) _ c.from-end.ensures _ c.held_past-held.ensures c.live_kind.ensures c.if-live_kind.true,
)

pub loop-i-smaller : goal.loop-i-smaller
loop-i-smaller c = let q = (known_of c.args.table.known) in
    omega (arith, table_next _ _ q.term q.table c.loop-i.i (omega arith) _ c.from-end.ensures)

pub loop-i-preserved : goal.loop-i-preserved
loop-i-preserved c = let q = (known_of c.args.table.known) in (
  (table_next _ _ q.term q.table c.loop-i.i (omega arith) _ c.from-end.ensures).1,
  length-set c.loop-i.cast _ _ ∙ c.loop-i.invariant.1,
  λ t h b.
      living_over _ _ t h c.loop-i.i (omega arith) _ _ (omega arith) (c.loop-i.invariant.2 t h b) _ (c.role_of.ensures t h) _ c.from-end.ensures _ c.held_past-held.ensures c.live_kind.ensures c.if-live_kind.false,
)

pub returns : goal.returns
returns c t h b = living_end t _ _ _ (c.loop-i.invariant.2 t h b) (omega (arith, table_size _ _ t h))
