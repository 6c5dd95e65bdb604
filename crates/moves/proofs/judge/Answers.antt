use mathlib.Core.Path.{refl, sym, subst}
use Rattle.cows.specs.Basics.{◌>>=◌, need}
use Rattle.cows.specs.Step.{proposed}
use Rattle.proposals.specs.Proposals.{read_as}
use Rattle.plans.specs.declared.Refusal.TheVariants.{Unread}
use Rattle.plans.specs.Plans.{Planned}
use Rattle.plans.proofs.Planning.{planned_refused}
use Rattle.moves.specs.Places.{read_place}
use Rattle.moves.proofs.judge.Goals as goal

pub returns-in-None : goal.returns-in-None
unfolding proposed need ◌>>=◌
returns-in-None c t h = rw c.in-None.is (planned_refused Unread refl)

pub returns-in-Some : goal.returns-in-Some
returns-in-Some c t h = subst (λ x. Planned (proposed (read_as x) t) (read_place x t) c.judge_move.result) (sym c.in-Some.is) (c.judge_move.ensures t h)
