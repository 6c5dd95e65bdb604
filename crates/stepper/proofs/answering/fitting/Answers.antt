use Rattle.std.proofs.lemmas.Result.{err_from_is_err_and}
use Rattle.stepper.proofs.Moved.{fitting_not}
use Rattle.stepper.proofs.answering.fitting.Goals as goal

pub returns-in_err-plan : goal.returns-in_err-plan
returns-in_err-plan c =
    let r = err_from_is_err_and c.from_residual.result c.from_residual.ensures.1 in
    rw (r.1, r.2) (fitting_not _ _ c.map_err.ensures.cases c.in_err-plan.was)
