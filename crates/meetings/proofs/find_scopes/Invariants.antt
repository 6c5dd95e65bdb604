use Prim.Native.Nat.{◌*◌}
use Rattle.cows.specs.Terms.{Term}
use Rattle.ways.specs.TermOf.{TermOf}
use Rattle.roles.specs.Roles.{Cast}
use Rattle.meetings.specs.Reaching.{SentTo}
use Rattle.meetings.proofs.find_scopes.Given as goal

abbrev pub invariant-loop-b : goal.invariant-loop-b
invariant-loop-b l = (t : Term) → TermOf l.table t → Cast t l.cast → SentTo l.table.bytes.now t l.sent (4 * l.b)
