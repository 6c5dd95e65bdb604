-- At the start no variable is bound.
use mathlib.Core.Path.{refl, ◌∙◌}
use Rattle.bindings.proofs.Whole.{start, whole_asks, whole_told}
use Rattle.bindings.proofs.find_misbound.Goals as goal

pub bind_on-requires : goal.bind_on-requires
bind_on-requires c = whole_asks c.requires refl

pub returns : goal.returns
returns c e h = c.err.ensures.value ∙ whole_told start _ c.bind_on.ensures e h
