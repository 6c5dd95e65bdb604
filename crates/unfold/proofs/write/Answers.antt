use native.Mathlib.Omega.{arith}
use Rattle.plans.proofs.Planning.{gives}
use Rattle.unfold.proofs.Judged.{asks_listed, asks_opens, gives_unfold}
use Rattle.unfold.proofs.write.Goals as goal

pub offset_bounds-table-a : goal.offset_bounds-table-a
offset_bounds-table-a c = omega (arith, asks_listed _ _ _ _ c.requires)

pub bounds-table-a : goal.bounds-table-a
bounds-table-a c = asks_listed _ _ _ _ c.requires

pub overflow_add-left : goal.overflow_add-left
overflow_add-left c = let o = asks_opens _ _ _ _ c.requires _ c.from-end.ensures in omega arith

pub overflow_mul-left : goal.overflow_mul-left
overflow_mul-left c = let o = asks_opens _ _ _ _ c.requires _ c.from-end.ensures in omega arith

pub overflow_mul-a : goal.overflow_mul-a
overflow_mul-a c = let o = asks_opens _ _ _ _ c.requires _ c.from-end.ensures in omega arith

pub copy-requires : goal.copy-requires
copy-requires c = let o = asks_opens _ _ _ _ c.requires _ c.from-end.ensures in omega arith

pub overflow_mul-a-2 : goal.overflow_mul-a-2
overflow_mul-a-2 c = let o = asks_opens _ _ _ _ c.requires _ c.from-end.ensures in omega arith

pub put_parallel-requires : goal.put_parallel-requires
put_parallel-requires c = let o = asks_opens _ _ _ _ c.requires _ c.from-end.ensures in omega arith

pub overflow_add-a : goal.overflow_add-a
overflow_add-a c = let o = asks_opens _ _ _ _ c.requires _ c.from-end.ensures in omega arith

pub write_copy-requires : goal.write_copy-requires
write_copy-requires c = let o = asks_opens _ _ _ _ c.requires _ c.from-end.ensures in (o.body, omega arith)

pub overflow_mul-a-3 : goal.overflow_mul-a-3
overflow_mul-a-3 c = let o = asks_opens _ _ _ _ c.requires _ c.from-end.ensures in omega arith

pub overflow_mul-a-4 : goal.overflow_mul-a-4
overflow_mul-a-4 c = let o = asks_opens _ _ _ _ c.requires _ c.from-end.ensures in omega arith

pub overflow_sub-table : goal.overflow_sub-table
overflow_sub-table c = let o = asks_opens _ _ _ _ c.requires _ c.from-end.ensures in omega arith

pub copy-requires-2 : goal.copy-requires-2
copy-requires-2 c = let o = asks_opens _ _ _ _ c.requires _ c.from-end.ensures in omega arith

pub returns : goal.returns
returns c = let q = c.requires in gives q (gives_unfold _ _ _ _ q _ c.from-end.ensures c.copy.ensures c.put_parallel.ensures (c.write_copy.ensures q.known.term q.known.table.holds) c.copy-2.ensures)
