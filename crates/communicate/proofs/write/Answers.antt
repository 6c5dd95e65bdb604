use native.Mathlib.Omega.{arith}
use Rattle.plans.proofs.Planning.{gives}
use Rattle.communicate.proofs.Written.{asks_span, asks_parts, asks_unchanged, low_inside, joined}
use Rattle.communicate.proofs.write.Goals as goal

pub bindings-taken-requires : goal.bindings-taken-requires
bindings-taken-requires c = let p = asks_span _ _ c.requires in (omega (arith, p), omega (arith, p))

pub offset_bounds-table-a : goal.offset_bounds-table-a
offset_bounds-table-a c = omega (arith, asks_span _ _ c.requires)

pub bounds-table-a : goal.bounds-table-a
bounds-table-a c = omega (arith, asks_span _ _ c.requires)

pub offset_bounds-table-from : goal.offset_bounds-table-from
offset_bounds-table-from c = omega (arith, asks_span _ _ c.requires)

pub bounds-table-from : goal.bounds-table-from
bounds-table-from c = omega (arith, asks_span _ _ c.requires)

pub outermost-low-requires : goal.outermost-low-requires
outermost-low-requires c = omega (arith, asks_span _ _ c.requires)

pub offset_bounds-table-low : goal.offset_bounds-table-low
offset_bounds-table-low c = let q = c.requires in omega (arith, asks_span _ _ q, low_inside _ _ q (c.outermost-low.ensures _ q.known.table))

pub bounds-table-low : goal.bounds-table-low
bounds-table-low c = let q = c.requires in omega (arith, asks_span _ _ q, q.known.room, low_inside _ _ q (c.outermost-low.ensures _ q.known.table))

pub write_within-body-requires : goal.write_within-body-requires
write_within-body-requires c = let q = c.requires in
    let p = asks_parts _ _ q c.from-end.ensures c.from-rest.ensures c.bindings-taken.ensures in
    let u = asks_unchanged _ _ q c.bindings-taken.ensures (c.outermost-low.ensures _ q.known.table) c.from-high.ensures in
    record { from_le_to = (omega (arith, asks_span _ _ q), omega (arith, asks_span _ _ q), u); from_in_bounds = omega (arith, p.front_fits) }

pub overflow_add-a : goal.overflow_add-a
overflow_add-a c = omega (arith, asks_span _ _ c.requires)

pub write_within-back-requires : goal.write_within-back-requires
write_within-back-requires c = let q = c.requires in
    let p = asks_parts _ _ q c.from-end.ensures c.from-rest.ensures c.bindings-taken.ensures in
    let u = asks_unchanged _ _ q c.bindings-taken.ensures (c.outermost-low.ensures _ q.known.table) c.from-high.ensures in record { from_le_to = (omega (arith, asks_span _ _ q, c.from-end.ensures), omega (arith, asks_span _ _ q, c.from-end.ensures), u); from_in_bounds = omega (arith, p.body_fits, c.write_within-body.ensures.1, c.write_within-body.auto.dst) }

pub write_within-requires : goal.write_within-requires
write_within-requires c = let q = c.requires in
    let p = asks_parts _ _ q c.from-end.ensures c.from-rest.ensures c.bindings-taken.ensures in
    let u = asks_unchanged _ _ q c.bindings-taken.ensures (c.outermost-low.ensures _ q.known.table) c.from-high.ensures in record { from_le_to = (omega (arith, asks_span _ _ q, c.from-rest.ensures), omega (arith, asks_span _ _ q), u); from_in_bounds = omega (arith, p.back_fits, c.write_within-body.ensures.1, c.write_within-body.auto.dst, c.write_within-back.ensures.1, c.write_within-back.auto.dst) }

pub returns : goal.returns
returns c = let q = c.requires in
    let p = asks_parts _ _ q c.from-end.ensures c.from-rest.ensures c.bindings-taken.ensures in
    gives q (joined p c.write_within-body.ensures.0 c.write_within-body.ensures.1 c.write_within-back.ensures.0 c.write_within-back.ensures.1 c.write_within.ensures.0)
