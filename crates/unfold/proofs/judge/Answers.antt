use native.Mathlib.Omega.{arith}
use Rattle.ways.proofs.KnownTables.{known_of, none-live, found-live, found_inside, found_above}
use Rattle.plans.specs.declared.Refusal.TheVariants.{Absent}
use Rattle.plans.proofs.Planning.{planned_refused}
use Rattle.unfold.proofs.Judged.{no-replication, judges, unfold_allowed, unfold_large}
use Rattle.unfold.proofs.judge.Goals as goal

pub returns-in_default : goal.returns-in_default
returns-in_default c t h = planned_refused (Absent _) (no-replication t _ (none-live c.place_at.ensures h c.in_default.is))

pub offset_bounds-table-a : goal.offset_bounds-table-a
offset_bounds-table-a c = let q = (known_of c.args.table.known) in let j = judges _ _ _ q (found_inside c.place_at.ensures c.in-Some.is q) in omega arith

pub bounds-table-a : goal.bounds-table-a
bounds-table-a c = let q = (known_of c.args.table.known) in let j = judges _ _ _ q (found_inside c.place_at.ensures c.in-Some.is q) in omega arith

pub overflow_sub-size : goal.overflow_sub-size
overflow_sub-size c = let q = (known_of c.args.table.known) in let j = judges _ _ _ q (found_inside c.place_at.ensures c.in-Some.is q) in omega (arith, c.from.ensures)

pub overflow_add-size : goal.overflow_add-size
overflow_add-size c = let q = (known_of c.args.table.known) in let j = judges _ _ _ q (found_inside c.place_at.ensures c.in-Some.is q) in omega (arith, c.from.ensures)

pub overflow_sub-room-2 : goal.overflow_sub-room-2
overflow_sub-room-2 c = let q = (known_of c.args.table.known) in let j = judges _ _ _ q (found_inside c.place_at.ensures c.in-Some.is q) in omega (arith, found_above c.place_at.ensures c.in-Some.is q.table)

pub deeper-requires : goal.deeper-requires
deeper-requires c = let q = (known_of c.args.table.known) in let j = judges _ _ _ q (found_inside c.place_at.ensures c.in-Some.is q) in j.standing

pub returns-then-size-deeper : goal.returns-then-size-deeper
returns-then-size-deeper c t h = let f = c.place_at.ensures in
    unfold_large _ t _ (found-live f c.in-Some.is h) _ h _ _ _ c.from.ensures (found_above f c.in-Some.is h) c.deeper.ensures c.if-size-deeper.true

pub returns : goal.returns
returns c t h = let f = c.place_at.ensures in
    unfold_allowed _ t _ (found-live f c.in-Some.is h) _ h _ _ _ c.from.ensures (found_above f c.in-Some.is h) c.deeper.ensures c.if-size-deeper.false
