use mathlib.Core.Path.{sym, ◌∙◌}
use Rattle.records.proofs.Laws.{found_at, found_nothing}
use Rattle.ways.proofs.KnownTables.{table_inside}
use Rattle.scoping.proofs.InScope.{not_around_a, not_around_b, not-delimited, around_both}
use Rattle.scoping.proofs.in_scope.Goals as goal

pub returns-in_default : goal.returns-in_default
returns-in_default c t z h = let (l, m) = c.requires in
    not_around_a _ _ t _ _ z.within (table_inside _ _ t z _ l) (table_inside _ _ t z _ m) h (found_nothing _ (sym c.in_default.is ∙ c.scope.ensures t z))

pub returns-in_default-scope : goal.returns-in_default-scope
returns-in_default-scope c t z h = let (l, m) = c.requires in
    not_around_b _ _ t _ _ z.within (table_inside _ _ t z _ l) (table_inside _ _ t z _ m) h (found_nothing _ (sym c.in_default-scope.is ∙ c.scope-2.ensures t z))

pub returns-in_default-scope-2 : goal.returns-in_default-scope-2
returns-in_default-scope-2 c t z h = let (l, m) = c.requires in
    let p = found_at _ _ (sym c.in-Some.is ∙ c.scope.ensures t z) in
    let q = found_at _ _ (sym c.in-Some-scope.is ∙ c.scope-2.ensures t z) in
    not-delimited _ _ t _ _ z.within (table_inside _ _ t z _ l) (table_inside _ _ t z _ m) h _ _ p q (found_nothing _ (sym c.in_default-scope-2.is ∙ c.scope-3.ensures t z))

pub returns : goal.returns
returns c t z h = let (l, m) = c.requires in
    let p = found_at _ _ (sym c.in-Some.is ∙ c.scope.ensures t z) in
    let q = found_at _ _ (sym c.in-Some-scope.is ∙ c.scope-2.ensures t z) in
    around_both _ _ t _ _ z.within (table_inside _ _ t z _ l) (table_inside _ _ t z _ m) h _ _ p q _ (found_at _ _ (sym c.in-Some-scope-2.is ∙ c.scope-3.ensures t z))
