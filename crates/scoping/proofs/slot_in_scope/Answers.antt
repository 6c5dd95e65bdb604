use mathlib.Core.Path.{sym, ◌∙◌}
use Rattle.matching.proofs.Slots.{takes-pair, takes-nothing}
use Rattle.scoping.proofs.slot_in_scope.Goals as goal

pub returns-in-None : goal.returns-in-None
returns-in-None c t z h = rw (takes-nothing _ _ (sym c.in-None.is ∙ c.takes_at.ensures) (λ y. (h y).sent))

pub returns-in-Some : goal.returns-in-Some
returns-in-Some c t z h = let p = takes-pair _ _ _ (sym c.in-Some.is ∙ c.takes_at.ensures) in
    rw (p.2, ← p.0, ← p.1) (c.in_scope.ensures t z (rw (← p.1) at (h p.2)))
