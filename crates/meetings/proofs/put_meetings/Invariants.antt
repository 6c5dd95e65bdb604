use Rattle.cows.specs.Terms.{Term}
use Rattle.ways.specs.Known.{Table}
use Rattle.meetings.specs.Meetings.{meetings_of}
use Rattle.meetings.proofs.Listing.{Listing}
use Rattle.meetings.proofs.Walks.{later_of}
use Rattle.meetings.proofs.put_meetings.Given as goal

abbrev pub invariant-loop-a : goal.invariant-loop-a
invariant-loop-a l = (t : Term) → Table l.x.table.bytes.now l.x.table.ends.now t → Listing l.writes l.initial.out l.m (meetings_of t) (later_of t l.a) l.out l.count
