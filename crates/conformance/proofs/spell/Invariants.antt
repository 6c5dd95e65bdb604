-- What is spelled stays in the table.
use Rattle.std.proofs.Common.{◌≡◌, ◌≤◌, length}
use Rattle.conformance.proofs.spell.Given as goal

abbrev pub invariant-loop-word : goal.invariant-loop-word
invariant-loop-word l = (l.len ≤ length l.table) × (length l.table ≡ length l.initial.table)
