use mathlib.Core.Bool.{Bool}
use mathlib.Core.Path.{◌≡◌}
use Prim.Native.Nat.{ℕ, ◌/◌, ◌<◌}
use lib.ListN.{length}
use Rattle.chains.specs.Chains.{class_at, Chained}
use Rattle.chains.proofs.chain.Given as goal

abbrev pub invariant-loop-i : goal.invariant-loop-i
invariant-loop-i g l = (f : ℕ → Bool) → ((i : ℕ) → i < length l.s / 16 → (b : Bool) → g.F.Fn.post l.passes (i, tt) b → b ≡ f i) → Chained f (class_at l.s) (length l.s / 16) l.heads l.next l.i
