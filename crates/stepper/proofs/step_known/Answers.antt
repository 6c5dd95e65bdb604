use mathlib.Core.Path.{ap, subst}
use lib.ListN.{length}
use Rattle.cows.specs.Basics.{◌>>=◌, need}
use Rattle.cows.specs.Step.{proposed, step_term, reply_to}
use Rattle.plans.specs.Plans.{Planned}
use Rattle.proposals.specs.Proposals.{read_as}
use Rattle.stepper.proofs.Stepping.{refused_answers, answers_as}
use Rattle.stepper.proofs.Moved.{moved_written, moved_refused, asks}
use Rattle.ways.proofs.KnownTables.{known_of}
use Rattle.stepper.proofs.step_known.Goals as goal

pub returns-in_default : goal.returns-in_default
unfolding step_term proposed need ◌>>=◌ reply_to
returns-in_default c t h = refused_answers 10 0 (ap (λ v. step_term t (read_as v) (length c.args.out.now)) c.in_default.is) c.refused.ensures

pub write-requires : goal.write-requires
unfolding step_term
write-requires c = asks (known_of c.args.table.known) c.judge.ensures _ c.in-Ok.plan c.in-Ok.ensures

pub returns-in-Err : goal.returns-in-Err
unfolding step_term
returns-in-Err c t h = answers_as (ap (λ v. step_term t (read_as v) (length c.args.out.now)) c.in-Some.is) (moved_refused _ _ _ (c.judge.ensures t h) _ c.in-Err.ensures)

pub returns-in-Ok : goal.returns-in-Ok
unfolding step_term
returns-in-Ok c t h = answers_as (ap (λ v. step_term t (read_as v) (length c.args.out.now)) c.in-Some.is) (moved_written (subst (Planned _ _) c.in-Ok.ensures.0 (c.judge.ensures t h)) _ c.in-Ok.ensures.1 _ c.accepted.ensures (λ u e. c.write.ensures t u h e))
