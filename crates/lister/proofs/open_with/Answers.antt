use native.Mathlib.Omega.{arith}
use Rattle.tables.proofs.Judging.{slice_bytes}
use Rattle.stepper.proofs.Stepping.{checked_known, table_read}
use Rattle.lister.proofs.Opening.{table_unopened, read_opened}
use Rattle.lister.proofs.open_with.Goals as goal

pub returns-then-checked-ne0 : goal.returns-then-checked-ne0
returns-then-checked-ne0 c = table_unopened _ _ _ _ c.check_ends-checked.ensures c.if-checked-ne0.true

pub invariant_of-open_known : goal.invariant_of-open_known
invariant_of-open_known c = record { known = checked_known _ _ _ (λ i. omega (arith, c.shared_slice_known-1.given i)) c.check_ends-checked.ensures c.if-checked-ne0.false }

pub returns : goal.returns
returns c = let q = table_read _ _ _ (slice_bytes c.args.table.now (λ i. omega (arith, c.shared_slice_known-1.given i))) c.check_ends-checked.ensures c.if-checked-ne0.false in
    read_opened _ _ _ _ _ q (c.open_known.ensures q.term q.table)
