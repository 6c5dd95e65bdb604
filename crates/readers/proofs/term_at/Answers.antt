use Rattle.std.proofs.lemmas.Result.{err_from_is_err_and}
use Rattle.readers.proofs.Terms.{read_behind, read_fault}
use Rattle.readers.proofs.term_at.Goals as goal

pub returns-in_err-service : goal.returns-in_err-service
returns-in_err-service c = let p = err_from_is_err_and c.from_residual.result c.from_residual.ensures.1 in
    rw (p.1, p.2) (read_fault _ _ _ _ _ c.from-end.ensures c.service.ensures _ c.in_err-service.was)

pub returns : goal.returns
returns c = read_behind _ _ _ _ _ c.from-end.ensures c.service.ensures c.in_ok-service.was
