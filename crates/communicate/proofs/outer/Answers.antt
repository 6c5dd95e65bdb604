use mathlib.Core.Path.{sym, ◌∙◌}
use Rattle.records.proofs.Laws.{found_at, found_nothing}
use Rattle.ways.proofs.KnownTables.{known_of, table_inside}
use Rattle.communicate.proofs.Outside.{outer_none, outer_unscoped, outer_min}
use Rattle.communicate.proofs.outer.Goals as goal

pub returns-in_default : goal.returns-in_default
returns-in_default c t z o = rw c.in_default.is (outer_none o)

pub returns-in-None : goal.returns-in-None
returns-in-None c t z o = rw c.in-Some.is (outer_unscoped o _ (found_nothing _ (sym c.in-None.is ∙ c.scope.ensures t z)))

pub returns-in-Some-scope : goal.returns-in-Some-scope
returns-in-Some-scope c t z o = rw (c.in-Some.is, c.min.ensures)
    (outer_min o _ _ (found_at _ _ (sym c.in-Some-scope.is ∙ c.scope.ensures t z)) (table_inside _ _ t z _ c.requires))
