use Prim.Native.Nat.{◌+◌, ◌-◌, ◌/◌, ◌≤◌}
use lib.ListN.{length}
use Rattle.cows.specs.Terms.{Term}
use Rattle.cows.specs.Places.{sub}
use Rattle.ways.specs.TermOf.{TermOf}
use Rattle.kill.proofs.Losing.{Losing}
use Rattle.kill.proofs.losses.lost.Given as goal

abbrev pub invariant-loop-i : goal.invariant-loop-i
invariant-loop-i l = (l.p + l.gone ≤ l.i) × (l.i ≤ l.end) × (l.end ≤ length l.table.bytes.now / 16) × ((t : Term) → TermOf l.table t → Losing l.table.bytes.now l.a l.p l.end (sub t l.p) l.gone l.i)

abbrev pub decreases-loop-i : goal.decreases-loop-i
decreases-loop-i l = l.end - l.i
