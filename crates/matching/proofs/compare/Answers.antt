use borrow.Author.Tests.{not-true, not-false}
use mathlib.Core.Path.{◌∙◌}
use Rattle.matching.proofs.Matches.{unlike_so, slots_so}
use Rattle.matching.proofs.compare.Goals as goal

pub returns-then-not-closed-endpoint : goal.returns-then-not-closed-endpoint
returns-then-not-closed-endpoint c q m h k z = let e = not-true _ c.if-not-closed-endpoint.true-raw in
    rw (c.first_unlike.ensures, c.word_at.ensures, c.word_at-2.ensures, c.word_at-3.ensures, c.word_at-4.ensures)
    (unlike_so _ _ _ q m h k _ z (rw (← c.word_at.ensures, ← c.word_at-2.ensures, ← c.word_at-3.ensures, ← c.word_at-4.ensures) e))

pub returns : goal.returns
returns c q m h k z = let e = not-false _ c.if-not-closed-endpoint.false-raw in
    c.slots_fit.ensures ∙ slots_so _ _ _ q m h k _ z (rw (← c.word_at.ensures, ← c.word_at-2.ensures, ← c.word_at-3.ensures, ← c.word_at-4.ensures) e)
