use mathlib.Core.Path.{◌≡◌}
use Prim.Native.Nat.{◌/◌}
use lib.ListN.{length, get_or}
use Rattle.chains.specs.Chains.{class_at}
use Rattle.chains.proofs.Chaining.{steps_left}
use Rattle.meetings.proofs.Walks.{Steps}
use Rattle.meetings.proofs.put_meetings_of.Given as goal

abbrev pub invariant-loop-e : goal.invariant-loop-e
invariant-loop-e l = (length l.out ≡ length l.initial.out) × Steps l.x.table.bytes.now l.x.table.ends.now l.a (get_or l.x.senders.heads.now (class_at l.x.table.bytes.now l.a) 0) l.x.senders.next.now l.writes l.initial.out l.m l.e l.out l.count

abbrev pub decreases-loop-e : goal.decreases-loop-e
decreases-loop-e l = steps_left (length l.x.table.bytes.now / 16) l.e
