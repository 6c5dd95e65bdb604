-- There are `unit` bytes before the place, and it stays in the table.
use Rattle.std.proofs.Common.{◌≡◌, ◌≤◌, length}
use Rattle.conformance.proofs.put_again.Given as goal

abbrev pub invariant-loop : goal.invariant-loop
invariant-loop l = (l.unit ≤ l.at) × (l.at ≤ length l.table) × (length l.table ≡ length l.initial.table)
