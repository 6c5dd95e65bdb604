use Rattle.std.proofs.Common.{le-ltb, lt-ltb, le-leb}
use borrow.Author.Tests.{lt-leb}
use Rattle.ticks.specs.Ticks.{gone_back, longest_time}
use Rattle.ticks.proofs.refused_with.Goals as goal

pub returns-then-d-ge-GONE_BACK : goal.returns-then-d-ge-GONE_BACK
returns-then-d-ge-GONE_BACK c = rw (le-leb gone_back _ c.if-d-ge-GONE_BACK.true)

pub returns-then-d-gt-LONGEST_TIME : goal.returns-then-d-gt-LONGEST_TIME
returns-then-d-gt-LONGEST_TIME c = rw (lt-leb gone_back _ c.if-d-ge-GONE_BACK.false, lt-ltb longest_time _ c.if-d-gt-LONGEST_TIME.true)

pub returns : goal.returns
returns c = rw (lt-leb gone_back _ c.if-d-ge-GONE_BACK.false, le-ltb longest_time _ c.if-d-gt-LONGEST_TIME.false)
