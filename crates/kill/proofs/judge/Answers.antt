use mathlib.Core.Path.{sym, ◌∙◌}
use native.Mathlib.Omega.{arith}
use Rattle.ways.proofs.KnownTables.{known_of, none-live, found-live, found_inside}
use Rattle.records.proofs.Atoms.{no_label}
use Rattle.plans.specs.declared.Refusal.TheVariants.{Absent}
use Rattle.plans.proofs.Planning.{planned_refused}
use Rattle.kill.proofs.Judged.{no-kill, label_there, scope_there, body-inside, few_gone, kill_planned}
use Rattle.kill.proofs.judge.Goals as goal

pub returns-in_default : goal.returns-in_default
returns-in_default c t h = planned_refused (Absent _) (no-kill t _ (none-live c.place_at.ensures h c.in_default.is))

pub overflow_mul-a : goal.overflow_mul-a
overflow_mul-a c = let q = (known_of c.args.table.known) in let i = found_inside c.place_at.ensures c.in-Some.is q in omega (arith, q.few)

pub overflow_add-a : goal.overflow_add-a
overflow_add-a c = let q = (known_of c.args.table.known) in let i = found_inside c.place_at.ensures c.in-Some.is q in omega (arith, q.few)

pub atom_at-atom-requires : goal.atom_at-atom-requires
atom_at-atom-requires c = let q = (known_of c.args.table.known) in let i = found_inside c.place_at.ensures c.in-Some.is q in omega (arith, q.few)

pub returns-in_default-atom : goal.returns-in_default-atom
returns-in_default-atom c t h = absurd (label_there _ t _ (found-live c.place_at.ensures c.in-Some.is h) _ h (no_label _ (rw c.atom_at-atom.ensures at c.in_default-atom.not-Label)))

pub scope-requires : goal.scope-requires
scope-requires c = let q = (known_of c.args.table.known) in
    found_inside c.place_at.ensures c.in-Some.is q

pub returns-in_default-scope : goal.returns-in_default-scope
returns-in_default-scope c t h = let l = found-live c.place_at.ensures c.in-Some.is h in
    let k = sym c.atom_at-atom.ensures ∙ c.in-Label.is in
    absurd (scope_there _ t _ l _ h _ k _ (c.scope.ensures t h) c.in_default-scope.is)

pub overflow_add-from : goal.overflow_add-from
overflow_add-from c = let q = (known_of c.args.table.known) in
    let l = found-live c.place_at.ensures c.in-Some.is q.table in
    let k = sym c.atom_at-atom.ensures ∙ c.in-Label.is in
    omega (arith, q.few, body-inside _ q.term _ l _ q.table _ k _ (c.scope.ensures q.term q.table) _ c.in-Some-scope.is)

pub lost-requires : goal.lost-requires
lost-requires c = let q = (known_of c.args.table.known) in
    let l = found-live c.place_at.ensures c.in-Some.is q.table in
    let k = sym c.atom_at-atom.ensures ∙ c.in-Label.is in
    body-inside _ q.term _ l _ q.table _ k _ (c.scope.ensures q.term q.table) _ c.in-Some-scope.is

pub overflow_sub-result : goal.overflow_sub-result
overflow_sub-result c = let q = (known_of c.args.table.known) in
    let l = found-live c.place_at.ensures c.in-Some.is q.table in
    let k = sym c.atom_at-atom.ensures ∙ c.in-Label.is in
    few_gone _ q.term _ l _ q.table _ k _ (c.scope.ensures q.term q.table) _ c.in-Some-scope.is _ (c.lost.ensures q.term q.table)

pub returns : goal.returns
returns c t h = let l = found-live c.place_at.ensures c.in-Some.is h in
    let k = sym c.atom_at-atom.ensures ∙ c.in-Label.is in
    kill_planned _ t _ l _ h _ k _ (c.scope.ensures t h) _ c.in-Some-scope.is _ (c.lost.ensures t h)
