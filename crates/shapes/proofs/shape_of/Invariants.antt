use Rattle.shapes.proofs.Passing.{Passed}
use Rattle.shapes.proofs.shape_of.Given as goal

abbrev pub invariant-loop-i : goal.invariant-loop-i
invariant-loop-i l = Passed l.s l.ends l.stack l.marks l.users l.have l.term l.m l.u l.i
