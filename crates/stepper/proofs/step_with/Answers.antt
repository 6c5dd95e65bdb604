use native.Mathlib.Omega.{arith}
use Rattle.tables.proofs.Judging.{slice_bytes}
use Rattle.stepper.proofs.Stepping.{checked_known, table_refused, table_read, read_stepped}
use Rattle.stepper.proofs.Theorems.{promised}
use Rattle.stepper.proofs.step_with.Goals as goal

pub returns-then-checked-ne0 : goal.returns-then-checked-ne0
returns-then-checked-ne0 c = promised _ _ _ _ _ (slice_bytes c.args.table.now (λ i. omega (arith, c.shared_slice_known-1.given i))) (table_refused _ _ _ _ _ c.check_ends-checked.ensures c.if-checked-ne0.true)

pub invariant_of-step_known : goal.invariant_of-step_known
invariant_of-step_known c = record { known = checked_known _ _ _ (λ i. omega (arith, c.shared_slice_known-1.given i)) c.check_ends-checked.ensures c.if-checked-ne0.false }

pub returns : goal.returns
returns c = let b = slice_bytes c.args.table.now (λ i. omega (arith, c.shared_slice_known-1.given i)) in
    let q = table_read _ _ _ b c.check_ends-checked.ensures c.if-checked-ne0.false in
    promised _ _ _ _ _ b (read_stepped _ _ _ _ _ _ q _ c.read_move.ensures (c.step_known.ensures q.term q.table))
