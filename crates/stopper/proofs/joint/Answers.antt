use mathlib.Core.Path.{refl, sym, ◌∙◌}
use borrow.Author.Rules.{rules}
use native.Mathlib.Omega.{arith}
use Rattle.tables.proofs.Judging.{slice_bytes}
use Rattle.stopper.proofs.Claims.{promised, table_joined, number_joined, can_join, known_joined}
use Rattle.stepper.proofs.Stepping.{checked_known}
use Rattle.stopper.proofs.joint.Goals as goal

pub slice_bounds-check_ends-end : goal.slice_bounds-check_ends-end
slice_bounds-check_ends-end c = refl

pub returns-then-checked-ne0 : goal.returns-then-checked-ne0
returns-then-checked-ne0 c = promised _ _ _ _ _ (slice_bytes c.args.table.now (λ i. omega (arith, c.shared_slice_known-1.given i))) (table_joined _ _ _ _ _ c.check_ends-checked.ensures _ (search rules) c.refused.ensures)

pub returns-then-wrong_number : goal.returns-then-wrong_number
returns-then-wrong_number c = let b = slice_bytes c.args.table.now (λ i. omega (arith, c.shared_slice_known-1.given i)) in
    promised _ _ _ _ _ b (number_joined _ _ _ _ _ c.check_ends-checked.ensures _ b c.if-checked-ne0.false (sym c.wrong_number.ensures ∙ c.if-wrong_number.true) c.refused-then-wrong_number.ensures)

pub invariant_of-table : goal.invariant_of-table
invariant_of-table c = record { known = checked_known _ _ _ (λ i. omega (arith, c.shared_slice_known-1.given i)) c.check_ends-checked.ensures c.if-checked-ne0.false }

pub joint_known-requires : goal.joint_known-requires
joint_known-requires c = can_join _ _ _ _ c.check_ends-checked.ensures (slice_bytes c.args.table.now (λ i. omega (arith, c.shared_slice_known-1.given i))) c.if-checked-ne0.false (sym c.wrong_number.ensures ∙ c.if-wrong_number.false)

pub returns : goal.returns
returns c = let b = slice_bytes c.args.table.now (λ i. omega (arith, c.shared_slice_known-1.given i)) in
    promised _ _ _ _ _ b (known_joined _ _ _ _ _ c.check_ends-checked.ensures _ b c.if-checked-ne0.false _ c.joint_known.ensures)
