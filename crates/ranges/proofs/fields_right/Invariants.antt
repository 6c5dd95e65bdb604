use Rattle.std.proofs.Common.{◌≡◌, ℕ, ◌*◌, ◌<◌, true, get_or}
use Rattle.ranges.specs.Ranges.{ranged}
use Rattle.ranges.proofs.fields_right.Given as goal

abbrev pub invariant-loop-i : goal.invariant-loop-i
invariant-loop-i l = ((j : ℕ) → j < 8 → get_or l.out j 0 ≡ 0) → (q : ℕ) → q < l.i → ranged l.s (16 * q) ≡ true
