use mathlib.Core.Path.{◌≡◌}
use Prim.Native.Nat.{◌≤◌, ◌/◌}
use lib.ListN.{length, get_or}
use Rattle.records.specs.Ends.{EndsFrom}
use Rattle.records.proofs.ends.ends.Given as goal

abbrev pub invariant-loop-i : goal.invariant-loop-i
invariant-loop-i l = (l.n ≡ length l.s / 16) × (l.i ≤ l.n) × (length l.out ≡ length l.initial.out) × EndsFrom l.s l.out l.i × (l.top ≡ get_or l.out l.i 0)
