use Rattle.cows.proofs.Recordwise.{no-time}
use Rattle.plans.specs.declared.Refusal.TheVariants.{Timeless}
use Rattle.plans.proofs.Planning.{planned_refused}
use Rattle.elapse.proofs.Judged.{elapse_planned}
use Rattle.elapse.proofs.judge.Goals as goal

pub returns-then-d-eq0 : goal.returns-then-d-eq0
returns-then-d-eq0 c ends t h = planned_refused Timeless (no-time t _ c.if-d-eq0.true)

pub returns : goal.returns
returns c ends t h = elapse_planned t _ c.if-d-eq0.false _ ends h
