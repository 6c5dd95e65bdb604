use mathlib.Core.Path.{◌≡◌}
use lib.ListN.{length}
use Rattle.player.specs.Cutting.{LoweredAround}
use Rattle.player.proofs.cutting.lower_around.Given as goal

abbrev pub invariant-loop-i : goal.invariant-loop-i
invariant-loop-i l = (length l.ends ≡ length l.initial.ends) × (l.start ≡ l.from) × (l.d ≡ l.by) × LoweredAround l.initial.ends l.from l.by l.i l.ends
