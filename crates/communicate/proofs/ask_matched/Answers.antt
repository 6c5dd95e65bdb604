use borrow.Author.Tests.{not-true, not-false}
use mathlib.Core.Path.{sym, ◌∙◌}
use Rattle.records.proofs.Laws.{found_at, found_nothing}
use Rattle.communicate.proofs.Judged.{receives_here, ends_b, parties_fit, meets, closed, apart, held, looser, may_meet}
use Rattle.communicate.proofs.ask_matched.Goals as goal

pub returns-then-not-all_in_scope : goal.returns-then-not-all_in_scope
returns-then-not-all_in_scope c t z h g = let e = parties_fit z h g in
    (apart z h e (sym (c.all_in_scope.ensures t _ z (meets z h e)) ∙ not-true _ c.if-not-all_in_scope.true-raw))

pub returns-in-Some : goal.returns-in-Some
returns-in-Some c t z h g = let e = parties_fit z h g in
    let y = sym (c.all_in_scope.ensures t _ z (meets z h e)) ∙ not-false _ c.if-not-all_in_scope.false-raw in
    (held z h e y _ (found_at _ _ (sym c.in-Some.is ∙ c.first_held.ensures t z h.receive.live h.invoke.live)))

pub returns-in-Some-first_rival : goal.returns-in-Some-first_rival
returns-in-Some-first_rival c t z h g = let e = parties_fit z h g in
    let y = sym (c.all_in_scope.ensures t _ z (meets z h e)) ∙ not-false _ c.if-not-all_in_scope.false-raw in
    let x = found_nothing _ (sym c.in_default.is ∙ c.first_held.ensures t z h.receive.live h.invoke.live) in
    (looser z h e y x _ (found_at _ _ (sym c.in-Some-first_rival.is ∙ c.first_rival.ensures t _ _ z (receives_here z h) (ends_b z h) (closed z h e) e)))

pub returns : goal.returns
returns c t z h g = let e = parties_fit z h g in
    let y = sym (c.all_in_scope.ensures t _ z (meets z h e)) ∙ not-false _ c.if-not-all_in_scope.false-raw in
    let x = found_nothing _ (sym c.in_default.is ∙ c.first_held.ensures t z h.receive.live h.invoke.live) in
    may_meet z h e y x (found_nothing _ (sym c.in_default-first_rival.is ∙ c.first_rival.ensures t _ _ z (receives_here z h) (ends_b z h) (closed z h e) e))
