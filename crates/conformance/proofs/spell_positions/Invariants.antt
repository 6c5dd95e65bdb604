-- There is room for the positions that are spelled.
use Rattle.std.proofs.Common.{◌≡◌, ◌≤◌, length}
use Rattle.conformance.proofs.spell_positions.Given as goal

abbrev pub invariant-loop-word : goal.invariant-loop-word
invariant-loop-word l = (l.n ≤ length l.places) × (length l.places ≡ length l.initial.places)
