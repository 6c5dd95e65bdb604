-- The arrays as they are made: there is no role yet.
use mathlib.Core.Path.{refl}
use Prim.Native.Nat.{ℕ, zero, suc}
use lib.ListN.{replicate}
use Rattle.roles.specs.declared.Role.TheVariants.{Idle}
use Rattle.roles.specs.Roles.{Unassigned}

pub unassigned : (n : ℕ) → Unassigned (replicate n Idle)
unassigned zero i = refl
unassigned (suc n) zero = refl
unassigned (suc n) (suc i) = unassigned n i
