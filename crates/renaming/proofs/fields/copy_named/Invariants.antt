use Prim.Native.Nat.{◌+◌, ◌-◌, ◌*◌, ◌≤◌}
use Rattle.renaming.specs.Mapped.{map_record, named}
use Rattle.renaming.proofs.Across.{Writing}
use Rattle.renaming.proofs.fields.copy_named.Given as goal

abbrev pub invariant-loop-i : goal.invariant-loop-i
invariant-loop-i l = (l.from ≤ l.i) × (l.i ≤ l.to) × Writing (λ j. map_record (named l.names)) l.s l.initial.dst l.at l.from l.to l.dst l.i (l.at + 16 * (l.i - l.from))
