use Rattle.std.proofs.Common.{sym, ap, ◌∙◌, arith}
use Rattle.cows.proofs.Cut.{failing_here, passing_here, none_left}
use Rattle.records.specs.Answers.{found_of}
use Rattle.ranges.proofs.find_wrong.Goals as goal

pub returns-then-not-record_right : goal.returns-then-not-record_right
returns-then-not-record_right c = sym (ap found_of (c.loop-i.invariant ∙ failing_here 16 _ _ _ _ (omega arith) c.record_right.ensures c.if-not-record_right.true-raw))

pub loop-i-preserved : goal.loop-i-preserved
loop-i-preserved c = c.loop-i.invariant ∙ passing_here 16 _ _ _ _ (omega arith) c.record_right.ensures c.if-not-record_right.false-raw

pub returns : goal.returns
returns c = sym (ap found_of (c.loop-i.invariant ∙ none_left 16 _ _ _ (omega arith)))
