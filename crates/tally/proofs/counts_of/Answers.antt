use Rattle.cows.specs.Run.{adds}
use Rattle.tally.proofs.Counting.{counts_by}
use Rattle.tally.proofs.counts_of.Goals as goal

pub returns-in-Kill : goal.returns-in-Kill
unfolding adds
returns-in-Kill c = counts_by _ c.in-Kill.is c.counted.ensures

pub returns-in-Communicate : goal.returns-in-Communicate
unfolding adds
returns-in-Communicate c = counts_by _ c.in-Communicate.is c.counted-in-Communicate.ensures

pub returns-in-Timeout : goal.returns-in-Timeout
unfolding adds
returns-in-Timeout c = counts_by _ c.in-Timeout.is c.counted-in-Timeout.ensures

pub returns-in-Elapse : goal.returns-in-Elapse
unfolding adds
returns-in-Elapse c = counts_by _ c.in-Elapse.is c.counted-in-Elapse.ensures

pub returns-in-Unfold : goal.returns-in-Unfold
unfolding adds
returns-in-Unfold c = counts_by _ c.in-Unfold.is c.counted-in-Unfold.ensures

pub returns-in-Extrude : goal.returns-in-Extrude
unfolding adds
returns-in-Extrude c = counts_by _ c.in-Extrude.is c.counted-in-Extrude.ensures
