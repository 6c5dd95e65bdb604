use mathlib.Core.Path.{◌≡◌}
use mathlib.Core.Bool.{true}
use lib.ListN.{length, drop}
use Rattle.cows.specs.Basics.{every}
use Rattle.renaming.specs.Names.{fits_in, entered}
use Rattle.renaming.proofs.names.enter_all.Given as goal

-- those that are left have places, and are all that is left to enter
abbrev pub invariant-loop-a : goal.invariant-loop-a
invariant-loop-a l = (length l.names ≡ length l.initial.names) × (every (fits_in (length l.initial.names)) (drop l.a-index l.atoms) ≡ true) × (entered l.names (drop l.a-index l.atoms) ≡ entered l.initial.names l.atoms)
