use Prim.Native.Nat.{◌+◌, ◌*◌}
use Rattle.cows.specs.Terms.{Term}
use Rattle.records.specs.Holds.{Holds}
use Rattle.meetings.specs.Reaching.{SentTo}
use Rattle.meetings.proofs.put_scopes.Given as goal

abbrev pub invariant-loop-k : goal.invariant-loop-k
invariant-loop-k l = (t : Term) → Holds l.s t → SentTo l.s t l.initial.sent (4 * l.b) → SentTo l.s t l.sent (4 * l.b + l.k)
