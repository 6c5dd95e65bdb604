use native.Mathlib.Omega.{arith}
use Rattle.ways.proofs.KnownTables.{known_of, table_inside}
use Rattle.scoping.proofs.Scoping.{every_in_scope, slots}
use Rattle.scoping.proofs.all_in_scope.Goals as goal

pub slot_in_scope-requires : goal.slot_in_scope-requires
slot_in_scope-requires c = let (l, m) = c.requires in let k = known_of c.args.table.known in (l, m, omega (arith, k.whole), omega (arith, k.whole))

pub slot_in_scope-requires-2 : goal.slot_in_scope-requires-2
slot_in_scope-requires-2 c = let (l, m) = c.requires in let k = known_of c.args.table.known in (l, m, omega (arith, k.whole), omega (arith, k.whole))

pub slot_in_scope-requires-3 : goal.slot_in_scope-requires-3
slot_in_scope-requires-3 c = let (l, m) = c.requires in let k = known_of c.args.table.known in (l, m, omega (arith, k.whole), omega (arith, k.whole))

pub slot_in_scope-requires-4 : goal.slot_in_scope-requires-4
slot_in_scope-requires-4 c = let (l, m) = c.requires in let k = known_of c.args.table.known in (l, m, omega (arith, k.whole), omega (arith, k.whole))

pub returns : goal.returns
returns c t σ z h = let (l, m) = c.requires in
    let i = table_inside _ _ t z _ l in
    let j = table_inside _ _ t z _ m in
    let (p, q, r, s) = slots _ _ _ t σ z.holds i j h in
    rw (every_in_scope _ _ _ t σ z.holds i j h, c.slot_in_scope-4.ensures t z p, c.slot_in_scope-3.ensures t z q, c.slot_in_scope.ensures t z r, c.slot_in_scope-2.ensures t z s)
