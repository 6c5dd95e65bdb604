-- Each call has fewer bytes left; what each record asks and gives is in proofs/Steps.
use mathlib.Core.Path.{refl, sym, ◌∙◌}
use Prim.Native.Nat.{◌/◌}
use native.Mathlib.Omega.{arith}
use borrow.Author.Rules.{rules}
use borrow.Author.Tests.{not-true, not-false}
use Rattle.rewriting.proofs.Asides.{aside_clauses}
use Rattle.settling.proofs.Searching.{any_listed, index_found, index_none}
use Rattle.settling.proofs.Steps.{free_asks, free_gives, scope_asks, scope_gives, first_on, second_on, two_on, one_on}
use Rattle.settling.proofs.+settle_at.Goals as goal

-- what a copy asks, as its two clauses
copying : {A B : Type 0} → A × B → record { rewritable : A; passes : B }
copying h = record { rewritable = h.0; passes = h.1 }

pub copy_term-requires : goal.copy_term-requires
copy_term-requires t c = let r = c.requires in
    copying (free_asks r.rewritable r.aligned r.scopes c.end_at-end.ensures (c.any_between.ensures ∙ sym (any_listed _ c.args.scopes.now)) (not-true _ c.if-not-any_between.true-raw))

pub returns-then-not-any_between : goal.returns-then-not-any_between
returns-then-not-any_between t c = let r = c.requires in
    free_gives r.rewritable r.aligned r.scopes c.end_at-end.ensures (c.any_between.ensures ∙ sym (any_listed _ c.args.scopes.now)) (not-true _ c.if-not-any_between.true-raw) c.copy_term.ensures

pub aside_at-requires : goal.aside_at-requires
aside_at-requires t c = let r = c.requires in
    let f = index_found (c.args.at / 16) _ c.args.scopes.now (sym c.in-Some.is ∙ c.index_of.ensures) in
    rw c.from.ensures (aside_clauses (scope_asks r.rewritable r.aligned r.scopes f.0 f.1 (search rules) (search rules)))

pub returns-in-Some : goal.returns-in-Some
returns-in-Some t c = let r = c.requires in
    let f = index_found (c.args.at / 16) _ c.args.scopes.now (sym c.in-Some.is ∙ c.index_of.ensures) in
    scope_gives r.rewritable r.aligned r.scopes f.0 f.1 (rw c.from.ensures at c.aside_at.ensures) (search rules) c.copy_record.ensures

pub settle_at-next-requires : goal.settle_at-next-requires
settle_at-next-requires t c = let r = c.requires in
    let w = first_on r.rewritable r.aligned r.scopes c.end_at-end.ensures (c.any_between.ensures ∙ sym (any_listed _ c.args.scopes.now)) (not-false _ c.if-not-any_between.false-raw) refl (index_none (c.args.at / 16) c.args.scopes.now _ c.in_default.not-Some c.index_of.ensures) (search rules) (search rules) in
    (search rules, (w.0, (w.1, w.2)))

pub settle_at-requires : goal.settle_at-requires
settle_at-requires t c = let q = c.requires in
    let r = q in
    let w = second_on r.rewritable r.aligned r.scopes c.end_at-end.ensures (c.any_between.ensures ∙ sym (any_listed _ c.args.scopes.now)) (not-false _ c.if-not-any_between.false-raw) refl (index_none (c.args.at / 16) c.args.scopes.now _ c.in_default.not-Some c.index_of.ensures)
    c.settle_at-next.ensures (search rules) (search rules) (search rules) in
    (omega (arith, c.settle_at-next.ensures.past, r.rewritable.inside), (w.0, (w.1, w.2)))

pub returns-then-children-eq2 : goal.returns-then-children-eq2
returns-then-children-eq2 t c = let r = c.requires in
    two_on r.rewritable r.aligned r.scopes c.end_at-end.ensures
    (c.any_between.ensures ∙ sym (any_listed _ c.args.scopes.now)) (not-false _ c.if-not-any_between.false-raw)
    refl (index_none (c.args.at / 16) c.args.scopes.now _ c.in_default.not-Some c.index_of.ensures) c.settle_at-next.ensures (search rules) (search rules)
    c.copy_record.ensures c.settle_at.ensures

pub returns : goal.returns
returns t c = let r = c.requires in
    one_on r.rewritable r.aligned r.scopes c.end_at-end.ensures (c.any_between.ensures ∙ sym (any_listed _ c.args.scopes.now)) (not-false _ c.if-not-any_between.false-raw) refl (index_none (c.args.at / 16) c.args.scopes.now _ c.in_default.not-Some c.index_of.ensures)
    c.settle_at-next.ensures (search rules) (search rules) c.copy_record.ensures
