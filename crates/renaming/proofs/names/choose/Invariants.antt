use mathlib.Core.Path.{◌≡◌}
use Prim.Native.Nat.{◌≤◌}
use lib.ListN.{length}
use Rattle.renaming.proofs.Choosing.{Going}
use Rattle.renaming.proofs.names.choose.Given as goal

-- the names so far, and the renaming of those that are left
abbrev pub invariant-loop-i : goal.invariant-loop-i
invariant-loop-i l = (l.i ≤ l.to) × (length l.names ≡ length l.initial.names) × (length l.next ≡ 3) × Going l.s l.from l.to l.initial.names l.names l.next l.i
