use borrow.Author.Tests.{eq-eqb, ne_eqb}
use mathlib.Core.Path.{sym, ◌∙◌}
use Rattle.meetings.proofs.Meets.{meets_test}
use Rattle.meetings.proofs.meet.Goals as goal

pub returns-in_default : goal.returns-in_default
returns-in_default c ends t p = sym (meets_test _ ends _ _ _ _ _ t p _ (λ q m x y z. sym c.in_default.is ∙ c.fits_closed.ensures q m x y z))

pub returns-then-l-eq0 : goal.returns-then-l-eq0
returns-then-l-eq0 c ends t p = sym (meets_test _ ends _ _ _ _ _ t p _ (λ q m x y z. sym c.in-Ok.is ∙ c.fits_closed.ensures q m x y z)
    ∙ rw (eq-eqb _ _ (c.if-l-from.true ∙ c.from.ensures), eq-eqb _ _ c.if-l-eq0.true))

pub returns-else-l-eq0 : goal.returns-else-l-eq0
returns-else-l-eq0 c ends t p = sym (meets_test _ ends _ _ _ _ _ t p _ (λ q m x y z. sym c.in-Ok.is ∙ c.fits_closed.ensures q m x y z)
    ∙ rw (eq-eqb _ _ (c.if-l-from.true ∙ c.from.ensures), ne_eqb _ _ c.if-l-eq0.false) (sym c.reaches.ensures))

pub returns-else-l-from : goal.returns-else-l-from
returns-else-l-from c ends t p = sym (meets_test _ ends _ _ _ _ _ t p _ (λ q m x y z. sym c.in-Ok.is ∙ c.fits_closed.ensures q m x y z)
    ∙ rw (c.from.ensures, ne_eqb _ _ (λ z. c.if-l-from.false (z ∙ sym c.from.ensures))))
