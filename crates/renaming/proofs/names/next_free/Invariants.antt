use mathlib.Core.Logic.{◌≢◌}
use Prim.Native.Nat.{ℕ, ◌≤◌, ◌<◌}
use Rattle.renaming.specs.Mapped.{named}
use Rattle.renaming.proofs.names.next_free.Given as goal

-- no atom so far is free
abbrev pub invariant-loop-i : goal.invariant-loop-i
invariant-loop-i l = (l.from ≤ l.i) × ((a : ℕ) → l.from ≤ a → a < l.i → named l.names a ≢ 0)
