use mathlib.Core.Path.{sym, ◌∙◌}
use Rattle.holding.proofs.Conflicting.{no-receive, receive_tests}
use Rattle.holding.proofs.conflicts.tighter.Goals as goal

pub returns-then-s-i-ne-RECEIVE : goal.returns-then-s-i-ne-RECEIVE
returns-then-s-i-ne-RECEIVE c t m h p k z = no-receive _ t _ _ m h p c.if-s-i-ne-RECEIVE.true

pub returns-in_default : goal.returns-in_default
returns-in_default c t m h p k z = receive_tests _ t _ _ m h p c.if-s-i-ne-RECEIVE.false _ (λ q x. sym c.in_default.is ∙ c.fits_closed.ensures q m x k z)

pub returns : goal.returns
returns c t m h p k z = receive_tests _ t _ _ m h p c.if-s-i-ne-RECEIVE.false _ (λ q x. sym c.in-Ok.is ∙ c.fits_closed.ensures q m x k z)
