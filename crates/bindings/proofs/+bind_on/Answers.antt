-- Each call has fewer records left. What is known at each return is in proofs/Acts for a record without parts, in proofs/Parts for a parallel, and in proofs/Binding for the others.
use mathlib.Core.Path.{refl, sym, ◌∙◌}
use borrow.Author.Rules.{rules}
use native.Mathlib.Omega.{arith}
use lib.ListN.{length-set}
use Rattle.orc.specs.Expressions.{symmetric}
use Rattle.bindings.proofs.Acts.{act_fault, act-passed}
use Rattle.bindings.proofs.Parts.{handed_on, parallel_at, left_asks, right_asks, left_fault, both_read}
use Rattle.bindings.proofs.Binding.{composes_binding, picked, picked_other, binds-variable, bound_twice, left-bound, both-bound}
use Rattle.bindings.proofs.+bind_on.Goals as goal
use Rattle.bindings.proofs.+bind_on.Goals.{then-kind-eq-WHERE, else-kind-eq-WHERE}

pub returns-then-uses_outside : goal.returns-then-uses_outside
returns-then-uses_outside t c = act_fault c.if-kind-lt-SEQUENCE.true c.requires (sym c.uses_outside.ensures ∙ c.if-uses_outside.true)

pub returns-then-kind-lt-SEQUENCE : goal.returns-then-kind-lt-SEQUENCE
returns-then-kind-lt-SEQUENCE t c = act-passed c.if-kind-lt-SEQUENCE.true c.requires (sym c.uses_outside.ensures ∙ c.if-uses_outside.false)

pub bind_on-requires : goal.bind_on-requires
bind_on-requires t c = let q = c.requires in (omega arith, left_asks symmetric (parallel_at c.if-kind-eq-PARALLEL.true) q q.all)

pub returns-in_err-m : goal.returns-in_err-m
returns-in_err-m t c =
    handed_on _ c.from_residual.ensures.1 (left_fault symmetric (parallel_at c.if-kind-eq-PARALLEL.true) c.requires refl c.in_err-m.ensures)

pub bind_on-requires-then-kind-eq-PARALLEL : goal.bind_on-requires-then-kind-eq-PARALLEL
bind_on-requires-then-kind-eq-PARALLEL t c = let r = c.in_ok-m.ensures in
    (omega (arith, r.to.0), right_asks symmetric (parallel_at c.if-kind-eq-PARALLEL.true) c.requires r r.all)

pub returns-then-kind-eq-PARALLEL : goal.returns-then-kind-eq-PARALLEL
returns-then-kind-eq-PARALLEL t c = let r = c.bind_on-then-kind-eq-PARALLEL.ensures in
    both_read symmetric (parallel_at c.if-kind-eq-PARALLEL.true) c.requires refl c.in_ok-m.ensures _ r.all r

pub slot-x-requires : goal.slot-x-requires
slot-x-requires t c = binds-variable c.requires c.if-kind-lt-SEQUENCE.false c.if-kind-eq-PARALLEL.false c.word_at.ensures

pub returns-then-ne : goal.returns-then-ne
returns-then-ne t c = bound_twice c.requires c.if-kind-lt-SEQUENCE.false c.if-kind-eq-PARALLEL.false c.word_at.ensures c.slot-x.ensures.0 (search rules)

pub bind_on-requires-2 : goal.bind_on-requires-2
bind_on-requires-2 t c = let q = c.requires in
    (omega arith, left_asks _ (composes_binding c.if-kind-lt-SEQUENCE.false c.if-kind-eq-PARALLEL.false) q (simp length-set q.all))

pub returns-in_err-m-2 : goal.returns-in_err-m-2
returns-in_err-m-2 t c =
    handed_on _ c.from_residual-in_err-m-2.ensures.1 (left-bound c.requires c.if-kind-lt-SEQUENCE.false c.if-kind-eq-PARALLEL.false c.word_at.ensures c.slot-x.ensures.0
    (search rules) (elim c.if-kind-eq-WHERE.branch [
      | then-kind-eq-WHERE w ↦ picked _ _ w.if-kind-eq-WHERE.true w.in_left-is
      | else-kind-eq-WHERE w ↦ picked_other _ _ w.if-kind-eq-WHERE.false w.in_left-is
    ]) c.in_err-m-2.ensures)

pub bind_on-right-requires : goal.bind_on-right-requires
bind_on-right-requires t c = let r = c.in_ok-m-2.ensures in
    (omega (arith, r.to.0), right_asks _ (composes_binding c.if-kind-lt-SEQUENCE.false c.if-kind-eq-PARALLEL.false) c.requires r (simp length-set r.all))

pub returns : goal.returns
returns t c = both-bound c.requires c.if-kind-lt-SEQUENCE.false c.if-kind-eq-PARALLEL.false c.word_at.ensures c.slot-x.ensures.0
    (search rules) (elim c.if-kind-eq-WHERE.branch [
      | then-kind-eq-WHERE w ↦ picked _ _ w.if-kind-eq-WHERE.true w.in_left-is
      | else-kind-eq-WHERE w ↦ picked_other _ _ w.if-kind-eq-WHERE.false w.in_left-is
    ]) c.in_ok-m-2.ensures c.bind_on-right.ensures
