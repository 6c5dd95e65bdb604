use Rattle.cows.specs.Basics.{◌>>=◌, need}
use Rattle.cows.specs.Moves.{successor}
use Rattle.cows.specs.Step.{proposed}
use Rattle.moves.proofs.Proposing.{plans}
use Rattle.moves.proofs.judge_move.Goals as goal

pub returns-in-Kill : goal.returns-in-Kill
unfolding proposed need ◌>>=◌ successor
returns-in-Kill c t h = plans c.in-Kill.is t _ (c.judge_kill.ensures t h)

pub returns-in-Communicate : goal.returns-in-Communicate
unfolding proposed need ◌>>=◌ successor
returns-in-Communicate c t h = plans c.in-Communicate.is t _ (c.judge.ensures t h)

pub returns-in-Timeout : goal.returns-in-Timeout
unfolding proposed need ◌>>=◌ successor
returns-in-Timeout c t h = plans c.in-Timeout.is t _ (c.judge-in-Timeout.ensures t h)

pub returns-in-Elapse : goal.returns-in-Elapse
unfolding proposed need ◌>>=◌ successor
returns-in-Elapse c t h = plans c.in-Elapse.is t _ (c.judge-in-Elapse.ensures _ t h)

pub returns-in-Unfold : goal.returns-in-Unfold
unfolding proposed need ◌>>=◌ successor
returns-in-Unfold c t h = plans c.in-Unfold.is t _ (c.judge-in-Unfold.ensures t h)

pub returns-in-Extrude : goal.returns-in-Extrude
unfolding proposed need ◌>>=◌ successor
returns-in-Extrude c t h = plans c.in-Extrude.is t _ (c.judge-in-Extrude.ensures t h)
