use mathlib.Core.Path.{sym, ◌∙◌}
use Rattle.std.proofs.lemmas.Result.{err_from_is_err_and}
use Rattle.records.proofs.StandsIn.{holds_size}
use Rattle.tables.proofs.Judging.{judge-fine, judge-scoping}
use Rattle.tables.proofs.find_scopes.Goals as goal

pub returns-in_err-scope_faults : goal.returns-in_err-scope_faults
returns-in_err-scope_faults c t h = let p = err_from_is_err_and c.from_residual.result c.from_residual.ensures.1 in
    rw (p.1, p.2) (judge-scoping t _ (sym c.in_err-scope_faults.was ∙ c.scope_faults.ensures t h))

pub returns : goal.returns
returns c t h = judge-fine t _ (sym c.in_ok-scope_faults.was ∙ c.scope_faults.ensures t h) (holds_size _ t h)
