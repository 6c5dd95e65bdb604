use Rattle.clauses.proofs.Records.{call-put, nothing_put}
use Rattle.clauses.proofs.put_act.Goals as goal

pub returns-then-s-i-eq-CALL : goal.returns-then-s-i-eq-CALL
returns-then-s-i-eq-CALL c = call-put _ _ _ _ _ _ c.if-s-i-eq-CALL.true (rw (c.word_at-w.ensures, c.word_at-service.ensures, c.word_at-site.ensures) at c.put_fields.ensures)

pub returns-else-s-i-eq-CALL : goal.returns-else-s-i-eq-CALL
returns-else-s-i-eq-CALL c = nothing_put _ _ _ _ _ _ c.if-s-i-eq-CALL.false c.put_fields-else-s-i-eq-CALL.ensures
