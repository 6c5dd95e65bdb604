use Prim.Native.Nat.{◌/◌}
use lib.ListN.{length}
use Rattle.renaming.proofs.Occurring.{Marking-on}
use Rattle.renaming.proofs.names.mark.Given as goal

-- what is entered from place i on is all that is left to enter
abbrev pub invariant-loop-i : goal.invariant-loop-i
invariant-loop-i l = Marking-on l.s l.initial.names l.names (length l.s / 16) l.i
