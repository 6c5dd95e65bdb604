use mathlib.Core.Path.{◌≡◌}
use Rattle.std.specs.Prelude as rust
use Prim.Native.Nat.{ℕ, ◌+◌, ◌*◌, ◌-◌, ◌/◌, ◌≤◌}
use lib.ListN.{length, get_or}
use Rattle.readers.specs.Reads.{Readable, ReadGuard}
use Rattle.readers.proofs.Reading.{Going}
use Rattle.readers.proofs.services.+guard_read_guard_service.Given as goal

-- three times the records left, and one or two more where a reader hands on from the same place
abbrev pub decreases-guard : goal.decreases-guard
decreases-guard l = 3 * (length l.s.now / 16 - l.at)

abbrev pub invariant-guard-loop-k : goal.invariant-guard-loop-k
invariant-guard-loop-k l = (l.at ≤ l.g) × (l.k ≡ get_or l.s (16 * l.g) 0) × Readable l.s l.ends l.g × ((v : rust.Result Unit ℕ) → ReadGuard l.s l.g (get_or l.ends l.g 0) v → ReadGuard l.s l.at (get_or l.ends l.at 0) v)

abbrev pub decreases-guard-loop-k : goal.decreases-guard-loop-k
decreases-guard-loop-k l = length l.s / 16 - l.g

abbrev pub decreases-read_guard : goal.decreases-read_guard
decreases-read_guard l = 3 * (length l.s.now / 16 - l.at) + 1

abbrev pub decreases-service : goal.decreases-service
decreases-service l = 3 * (length l.s.now / 16 - l.at) + 2

abbrev pub invariant-service-loop-i : goal.invariant-service-loop-i
invariant-service-loop-i l = Going l.s l.ends l.at l.end l.i

abbrev pub decreases-service-loop-i : goal.decreases-service-loop-i
decreases-service-loop-i l = l.end - l.i
