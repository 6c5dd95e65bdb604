use mathlib.Core.Path.{refl}
use Rattle.cows.specs.Basics.{◌>>=◌, need}
use Rattle.cows.specs.Moves.{successor}
use Rattle.cows.specs.Step.{proposed}
use Rattle.moves.proofs.Proposing.{asked, asked_at, given}
use Rattle.moves.proofs.write.Goals as goal

pub write-requires : goal.write-requires
unfolding proposed need ◌>>=◌ successor
write-requires c = asked c.in-Kill.is _ _ _ _ c.requires

pub write-requires-in-Communicate : goal.write-requires-in-Communicate
unfolding proposed need ◌>>=◌ successor
write-requires-in-Communicate c = asked c.in-Communicate.is _ _ _ _ c.requires

pub write-requires-in-Timeout : goal.write-requires-in-Timeout
unfolding proposed need ◌>>=◌ successor
write-requires-in-Timeout c = asked c.in-Timeout.is _ _ _ _ c.requires

pub write-requires-in-Elapse : goal.write-requires-in-Elapse
unfolding proposed need ◌>>=◌ successor
write-requires-in-Elapse c = asked_at c.in-Elapse.is _ _ _ _ _ (λ t. refl) c.requires

pub write-requires-in-Unfold : goal.write-requires-in-Unfold
unfolding proposed need ◌>>=◌ successor
write-requires-in-Unfold c = asked_at c.in-Unfold.is _ _ _ _ _ (λ t. refl) c.requires

pub write-requires-in-Extrude : goal.write-requires-in-Extrude
unfolding proposed need ◌>>=◌ successor
write-requires-in-Extrude c = asked c.in-Extrude.is _ _ _ _ c.requires

pub returns-in-Kill : goal.returns-in-Kill
unfolding proposed need ◌>>=◌ successor
returns-in-Kill c = given c.in-Kill.is _ _ _ _ c.write.ensures

pub returns-in-Communicate : goal.returns-in-Communicate
unfolding proposed need ◌>>=◌ successor
returns-in-Communicate c = given c.in-Communicate.is _ _ _ _ c.write-in-Communicate.ensures

pub returns-in-Timeout : goal.returns-in-Timeout
unfolding proposed need ◌>>=◌ successor
returns-in-Timeout c = given c.in-Timeout.is _ _ _ _ c.write-in-Timeout.ensures

pub returns-in-Elapse : goal.returns-in-Elapse
unfolding proposed need ◌>>=◌ successor
returns-in-Elapse c = given c.in-Elapse.is _ _ _ _ c.write-in-Elapse.ensures

pub returns-in-Unfold : goal.returns-in-Unfold
unfolding proposed need ◌>>=◌ successor
returns-in-Unfold c = given c.in-Unfold.is _ _ _ _ c.write-in-Unfold.ensures

pub returns-in-Extrude : goal.returns-in-Extrude
unfolding proposed need ◌>>=◌ successor
returns-in-Extrude c = given c.in-Extrude.is _ _ _ _ c.write-in-Extrude.ensures
