use mathlib.Core.Path.{sym, ◌∙◌}
use Rattle.renaming.proofs.Occurring.{entering_none, entering_stop, entering_one, entering_all}
use Rattle.renaming.proofs.names.mark_record.Goals as goal

pub returns-then-p-eq0 : goal.returns-then-p-eq0
returns-then-p-eq0 c = entering_none _ _ _ c.word_at-p.ensures c.if-p-eq0.true

pub returns-then-not-fits : goal.returns-then-not-fits
returns-then-not-fits c = entering_stop _ _ _ c.word_at-p.ensures c.if-p-eq0.false (sym c.fits.ensures ∙ c.if-not-fits.true)

pub returns-then-word_at-eq0 : goal.returns-then-word_at-eq0
returns-then-word_at-eq0 c = entering_one _ _ _ c.word_at-p.ensures c.if-p-eq0.false (sym c.fits.ensures ∙ c.if-not-fits.false) c.enter.ensures c.word_at.ensures c.if-word_at-eq0.true

pub returns : goal.returns
returns c = entering_all _ _ _ c.word_at-p.ensures c.if-p-eq0.false (sym c.fits.ensures ∙ c.if-not-fits.false) c.enter.ensures c.word_at.ensures c.if-word_at-eq0.false c.mark_action.ensures
