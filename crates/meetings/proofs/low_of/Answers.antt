use mathlib.Core.Path.{◌≡◌, sym, ap, ◌∙◌}
use mathlib.Core.Bool.{true, false}
use Rattle.cows.specs.Terms.{variable}
use Rattle.records.specs.Atoms.{is_variable}
use Rattle.records.proofs.Atoms.{variable_class}
use Rattle.meetings.specs.Reaching.{reach_low}
use Rattle.meetings.proofs.low_of.Goals as goal

pub returns-then-is_variable : goal.returns-then-is_variable
unfolding reach_low
returns-then-is_variable c t h = let e : variable _ ≡ true = sym (variable_class _) ∙ (ap is_variable (sym c.atom_at.ensures) ∙ (sym c.is_variable.ensures ∙ c.if-is_variable.true)) in
    rw e (c.behind.ensures t h ∙ rw c.word_at.ensures)

pub returns : goal.returns
unfolding reach_low
returns c t h = let e : variable _ ≡ false = sym (variable_class _) ∙ (ap is_variable (sym c.atom_at.ensures) ∙ (sym c.is_variable.ensures ∙ c.if-is_variable.false)) in
    rw e
