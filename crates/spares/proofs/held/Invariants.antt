use mathlib.Core.List.{◌∷◌}
use Prim.Native.Nat.{◌+◌, ◌*◌, ◌≤◌}
use Rattle.spares.specs.Spares.{total, Holding}
use Rattle.spares.proofs.Gathered.{gathered-atoms}
use Rattle.spares.proofs.held.Given as goal

abbrev pub invariant-loop-i : goal.invariant-loop-i
invariant-loop-i l = (total l.used ≤ 2 + 3 * l.i) × Holding l.used (l.fn.to.partner ∷ l.fn.to.operation ∷ gathered-atoms l.s l.i)
