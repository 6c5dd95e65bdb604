use mathlib.Core.Path.{◌≡◌}
use mathlib.Core.Bool.{true}
use Prim.Native.Nat.{ℕ, ◌<◌}
use lib.ListN.{get_or}
use Rattle.index.specs.Index.{Clear, UsesRight}
use Rattle.index.proofs.Index.uses_right.Given as goal

abbrev pub invariant-loop-j : goal.invariant-loop-j
invariant-loop-j l = Clear l.fault → l.apart ≡ true → (q : ℕ) → q < l.j-index → UsesRight l.s l.self.slots.now l.self.shift l.self.mask (get_or l.users q 0)
