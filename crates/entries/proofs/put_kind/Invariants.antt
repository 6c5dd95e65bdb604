use Rattle.entries.specs.Entries.{Entered}
use Rattle.entries.proofs.put_kind.Given as goal

abbrev pub invariant-loop-i : goal.invariant-loop-i
invariant-loop-i l = Entered l.cast l.role l.kind l.initial.out l.m l.i l.out l.count
