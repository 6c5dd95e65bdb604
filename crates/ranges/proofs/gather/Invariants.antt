use Rattle.std.proofs.Common.{◌≡◌, ℕ, ◌≤◌, length, get_or}
use Rattle.ranges.specs.Ranges.{Gathers}
use Rattle.ranges.proofs.gather.Given as goal

abbrev pub invariant-loop-j : goal.invariant-loop-j
invariant-loop-j l = (length l.out ≡ 8) × Gathers l.s l.k l.low l.span l.initial.out l.out l.j × ((q : ℕ) → l.j ≤ q → get_or l.out q 0 ≡ get_or l.initial.out q 0)
