use mathlib.Core.Path.{sym, ◌∙◌}
use Rattle.plans.proofs.Mapped.{mapped_ok}
use Rattle.communicate.proofs.Judged.{told_apart}
use Rattle.std.proofs.lemmas.Result.{err_from_is_err_and}
use Rattle.communicate.proofs.ask.Goals as goal

pub returns-in_err-l : goal.returns-in_err-l
returns-in_err-l c t z h =
    let r = err_from_is_err_and c.from_residual.result c.from_residual.ensures.1 in
    rw (r.1, r.2) (told_apart z h c.fits.ensures c.map_err.ensures.cases c.in_err-l.was)

pub returns : goal.returns
returns c t z h = c.ask_matched.ensures t z h (λ q m i j. sym (mapped_ok _ c.map_err.result c.fits.result c.map_err.ensures.cases c.in_ok-l.was) ∙ c.fits.ensures q m i j)
