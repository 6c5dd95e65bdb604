-- The table's refusals, the number's, 21, or the table copied.
use Rattle.std.proofs.Common.{arith}
use Rattle.tables.proofs.Judging.{slice_bytes}
use Rattle.ticks.proofs.Unmoved.{missing, table_unmoved, refused_unmoved, short_unmoved, handed_unmoved}
use Rattle.ticks.proofs.make_no_move.Goals as goal

pub returns-then-checked-ne0 : goal.returns-then-checked-ne0
returns-then-checked-ne0 c = table_unmoved _ _ _ _ c.check-checked.ensures c.if-checked-ne0.true

pub returns-in-Some : goal.returns-in-Some
returns-in-Some c = refused_unmoved _ _ _ _ c.check-checked.ensures (slice_bytes c.args.table.now (λ i. omega (arith, c.shared_slice_known-1.given i))) c.if-checked-ne0.false _ c.in-Some.is _ c.refusal.ensures

pub returns-then-out-table : goal.returns-then-out-table
returns-then-out-table c = short_unmoved _ _ _ _ c.check-checked.ensures (slice_bytes c.args.table.now (λ i. omega (arith, c.shared_slice_known-1.given i))) c.if-checked-ne0.false (missing _ c.in_default.not-Some) (omega arith) _ c.refusal-then-out-table.ensures

pub returns : goal.returns
returns c = rw c.accepted.ensures (handed_unmoved _ _ _ _ c.check-checked.ensures (slice_bytes c.args.table.now (λ i. omega (arith, c.shared_slice_known-1.given i))) c.if-checked-ne0.false (missing _ c.in_default.not-Some) (omega arith) _ c.copy.ensures)
