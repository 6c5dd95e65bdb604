-- The place stays in the table.
use Rattle.std.proofs.Common.{◌≡◌, ◌≤◌, length}
use Rattle.conformance.proofs.put_hex.Given as goal

abbrev pub invariant-loop-pair : goal.invariant-loop-pair
invariant-loop-pair l = (l.at ≤ length l.table) × (length l.table ≡ length l.initial.table)
