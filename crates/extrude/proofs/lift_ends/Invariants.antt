use Prim.Native.Nat.{◌<◌}
use Rattle.extrude.proofs.Raising.{EndsRaised}
use Rattle.extrude.proofs.lift_ends.Given as goal

abbrev pub invariant-loop-i : goal.invariant-loop-i
invariant-loop-i l = (l.p < l.i) × EndsRaised l.initial.ends l.a l.i l.ends
