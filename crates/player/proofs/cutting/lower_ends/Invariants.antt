use mathlib.Core.Path.{◌≡◌}
use lib.ListN.{length}
use Rattle.player.specs.Cutting.{Lowered}
use Rattle.player.proofs.cutting.lower_ends.Given as goal

abbrev pub invariant-loop-i : goal.invariant-loop-i
invariant-loop-i l = (length l.ends ≡ length l.initial.ends) × (l.d ≡ l.by) × Lowered l.initial.ends l.low l.i l.by l.ends
