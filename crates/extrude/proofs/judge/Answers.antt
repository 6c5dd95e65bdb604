use native.Mathlib.Omega.{arith}
use Rattle.ways.proofs.KnownTables.{known_of, way_short, none-live, found-live, found_inside, found_above, found_parent}
use Rattle.plans.specs.declared.Refusal.TheVariants.{Absent, Stuck}
use Rattle.plans.proofs.Planning.{planned_refused}
use Rattle.extrude.proofs.Judged.{no-delimitation, stuck, live_lifting, lift_planned, live_below}
use Rattle.extrude.proofs.judge.Goals as goal

pub returns-in_default : goal.returns-in_default
returns-in_default c t h = planned_refused (Absent _) (no-delimitation t _ (none-live c.place_at.ensures h c.in_default.is))

pub overflow_mul-a : goal.overflow_mul-a
overflow_mul-a c = let q = (known_of c.args.table.known) in let i = found_inside c.place_at.ensures c.in-Some.is q in omega (arith, q.few)

pub overflow_add-a : goal.overflow_add-a
overflow_add-a c = let q = (known_of c.args.table.known) in let i = found_inside c.place_at.ensures c.in-Some.is q in omega (arith, q.few)

pub atom_at-requires : goal.atom_at-requires
atom_at-requires c = let q = (known_of c.args.table.known) in let i = found_inside c.place_at.ensures c.in-Some.is q in omega (arith, q.few)

pub returns-then-is_label-place : goal.returns-then-is_label-place
returns-then-is_label-place c t h = let f = c.place_at.ensures in
    planned_refused (Stuck _)
    (stuck _ t _ _ (found-live f c.in-Some.is h) (found_above f c.in-Some.is h) (rw (c.is_label.ensures, c.atom_at.ensures) at c.if-is_label-place.true))

pub judge_above-requires : goal.judge_above-requires
judge_above-requires c = let q = (known_of c.args.table.known) in
    let f = c.place_at.ensures in
    let n = found_above f c.in-Some.is q.table in
    live_below _ q.term _ _ (found-live f c.in-Some.is q.table) n _ q.table _ (found_parent f c.in-Some.is q.table)
    (rw (c.is_label.ensures, c.atom_at.ensures) at c.if-is_label-place.false) q.room
    (omega (arith, n, way_short q.term c.args.a q.table.within.shallow))

pub returns : goal.returns
returns c t h = let f = c.place_at.ensures in
    let d = found-live f c.in-Some.is h in
    let n = found_above f c.in-Some.is h in
    let p = found_parent f c.in-Some.is h in
    let e = rw (c.is_label.ensures, c.atom_at.ensures) at c.if-is_label-place.false in
    lift_planned _ t _ _ d n _ h _ p e _ (c.judge_above.ensures t _ (live_lifting _ t _ _ d n _ h _ p e))
