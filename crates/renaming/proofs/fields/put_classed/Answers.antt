use mathlib.Core.Path.{◌∙◌}
use native.Mathlib.Omega.{arith}
use Rattle.renaming.proofs.Mapped.{fields_start, fields_turn, fields_end}
use Rattle.renaming.proofs.fields.put_classed.Goals as goal

pub loop-k-init : goal.loop-k-init
loop-k-init g c = fields_start _ _ _ _ _ c.requires.0 c.copy.ensures

pub loop-k-preserved : goal.loop-k-preserved
loop-k-preserved g c = let r = c.from.ensures ∙ (rw c.word_at.ensures at c.classed.ensures) in
    fields_turn _ _ _ _ _ c.requires.0 c.loop-k.k c.loop-k.auto.k (omega arith) c.loop-k.invariant r c.put_word.ensures

pub returns : goal.returns
returns g c = fields_end _ _ _ _ _ c.requires.0 c.loop-k.k (omega arith) c.loop-k.invariant c.copy-2.ensures
