use borrow.Author.Rules.{rules}
use mathlib.Core.Path.{refl}
use native.Mathlib.Omega.{arith}
use Rattle.ways.proofs.KnownTables.{known_of, table_size}
use Rattle.stopper.proofs.Gathers.{gathering_start, from_fits, left_fits, gathering_turn, gathers_absent, gathers_gone}
use Rattle.stopper.proofs.gathering.gather.Goals as goal

pub loop-i-init : goal.loop-i-init
loop-i-init c = (refl, omega arith, λ t h. gathering_start t _ _)

pub returns-in_default : goal.returns-in_default
returns-in_default c t h = gathers_absent h.within (c.loop-i.invariant.2 t h) (omega arith) c.from-a.ensures _ (c.judge.ensures t h) c.in_default.not-Ok

pub overflow_cast-scopes : goal.overflow_cast-scopes
overflow_cast-scopes c =
    let q = (known_of c.args.table.known) in
    omega (arith, q.few, table_size _ _ q.term q.table, from_fits q.table.within (c.loop-i.invariant.2 q.term q.table) (omega arith) c.from-a.ensures (c.in-Ok.ensures q.term q.table) _ (table_size _ _ q.term q.table))

pub overflow_sub-gone : goal.overflow_sub-gone
overflow_sub-gone c =
    let q = (known_of c.args.table.known) in
    left_fits q.table.within (c.loop-i.invariant.2 q.term q.table) (omega arith) c.from-a.ensures (c.in-Ok.ensures q.term q.table) _ (table_size _ _ q.term q.table)

pub overflow_add-gone : goal.overflow_add-gone
overflow_add-gone c = let q = (known_of c.args.table.known) in omega (arith, q.few, c.loop-i.invariant)

pub loop-i-preserved : goal.loop-i-preserved
loop-i-preserved c =
    let v = c.loop-i.invariant in
    let q = c.requires in (
      search rules,
      omega (arith, (known_of c.args.table.known).few, v),
      λ t h. gathering_turn h.within (v.2 t h) (omega arith) c.from-a.ensures (c.in-Ok.ensures t h) _ (table_size _ _ t h) (omega (arith, v, q)),
    )

pub returns : goal.returns
returns c t h = gathers_gone (c.loop-i.invariant.2 t h) (omega arith) (omega arith)
