use Rattle.scopes.proofs.Uses.{use-level, endpoint_level, kill-level, none-level}
use Rattle.scopes.proofs.Directory.record_fault.Goals as goal

pub returns-then-k : goal.returns-then-k
returns-then-k c t h = let l = c.requires.1 in
    rw (c.max-then-k.ensures, c.max.ensures, c.use_fault-p.ensures, c.use_fault-o.ensures, c.word_at.ensures, c.word_at-then-k.ensures)
    (endpoint_level _ _ _ _ t h l c.if-k.true _ (λ ws. c.tuple_fault.ensures _ _ ws (use-level _ _ _ _ t h l)))

pub returns-then-k-eq-KILL : goal.returns-then-k-eq-KILL
returns-then-k-eq-KILL c t h = rw (c.use_fault.ensures, c.word_at-then-k-eq-KILL.ensures) (kill-level _ _ _ _ t h c.requires.1 c.if-k-eq-KILL.true)

pub returns : goal.returns
returns c t h = none-level _ _ _ _ t h c.requires.1 c.if-k.false c.if-k-eq-KILL.false
