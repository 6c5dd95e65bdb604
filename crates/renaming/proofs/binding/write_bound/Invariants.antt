use Rattle.renaming.specs.Bound.{record_bound}
use Rattle.renaming.proofs.Across.{Writing}
use Rattle.renaming.proofs.binding.write_bound.Given as goal

abbrev pub invariant-loop-i : goal.invariant-loop-i
invariant-loop-i l = Writing (record_bound l.taken.0 l.b) l.s l.initial.dst l.at l.from l.to l.dst l.i l.next
