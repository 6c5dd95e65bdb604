use mathlib.Core.Path.{◌≡◌}
use mathlib.Core.Bool.{false}
use Prim.Native.Nat.{ℕ, ◌-◌, ◌≤◌, ◌<◌}
use Rattle.holding.specs.Holding.{rival_at}
use Rattle.holding.proofs.conflicts.any_rival.Given as goal

abbrev pub invariant-loop-i : goal.invariant-loop-i
invariant-loop-i l = l.any ≡ false → (j : ℕ) → l.from ≤ j → j < l.i → rival_at l.s l.b j ≡ false
