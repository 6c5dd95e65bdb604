use mathlib.Core.Path.{refl, sym, ◌∙◌}
use native.Mathlib.Omega.{arith}
use Rattle.records.proofs.Atoms.{is-label, no_label}
use Rattle.holding.proofs.Marking.{holds_other, holds_no-label, holds_marked}
use Rattle.holding.proofs.delimits_marked.Goals as goal

pub returns-then-s-p-ne-DELIMITATION : goal.returns-then-s-p-ne-DELIMITATION
returns-then-s-p-ne-DELIMITATION c t h l m = sym (holds_other _ t h _ l c.if-s-p-ne-DELIMITATION.true)

pub returns-in_default : goal.returns-in_default
returns-in_default c t h l m = sym (holds_no-label _ t h _ l c.if-s-p-ne-DELIMITATION.false _ refl (no_label _ (rw c.atom_at-atom.ensures at c.in_default.not-Label)))

pub marked-requires : goal.marked-requires
marked-requires c = let k = is-label _ _ (sym c.atom_at-atom.ensures ∙ c.in-Label.is) in
    (omega arith, c.requires.1)

pub returns : goal.returns
returns c t h l m = let k = is-label _ _ (sym c.atom_at-atom.ensures ∙ c.in-Label.is) in
    c.marked.ensures ∙ holds_marked _ t h _ l c.if-s-p-ne-DELIMITATION.false _ k.0 _ m (omega arith) (omega arith)
