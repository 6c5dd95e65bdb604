use mathlib.Core.Path.{refl, sym, ◌∙◌}
use Rattle.cows.proofs.Basics.{never}
use Rattle.renaming.proofs.Occurring.{all_fit}
use Rattle.renaming.proofs.Copies.{body_marked, body_copied}
use Rattle.renaming.proofs.copy_by.Goals as goal

pub returns-then-not-mark : goal.returns-then-not-mark
returns-then-not-mark c = let b = c.requires.0 in
    (λ l. sym c.if-not-mark.true ∙ (c.mark.ensures.0 ∙ all_fit _ b.term b.holds _ l), record { written = λ e. never e; kept = λ e. refl })

pub choose-requires : goal.choose-requires
choose-requires c = let p = c.requires in
    body_marked _ _ _ p.0 _ _ p.2 c.mark.auto.names (c.mark.ensures.1 c.if-not-mark.false)

pub returns : goal.returns
returns c = let p = c.requires in (
  λ l. refl,
  record {
    written = λ e t k. rw (← body_copied _ _ _ p.0 _ _ p.2 c.mark.auto.names (c.mark.ensures.1 c.if-not-mark.false) _ c.choose.ensures t k) c.copy_named.ensures;
    kept = λ e. never (sym e);
  },
)
