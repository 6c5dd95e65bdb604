-- 30 first; the equations and the claims are of what the judgement answers.
use native.Mathlib.Omega.{arith}
use Rattle.records.proofs.Laws.{found_at, found_nothing}
use Rattle.tables.proofs.Judging.{slice_bytes}
use Rattle.stepper.proofs.Stepping.{refused_answers, answers_as}
use Rattle.orc.specs.Scripts.{wrong_script, wrong_endpoint}
use Rattle.translator.proofs.Judging.{wrong_start, wrong_record, right_records, right_script}
use Rattle.translator.proofs.Claims.{translated, claims}
use Rattle.translator.proofs.translate.Goals as goal

pub returns-then-wrong_length-in_values : goal.returns-then-wrong_length-in_values
unfolding wrong_script wrong_endpoint
returns-then-wrong_length-in_values c = let a = c.args in
    let e = rw (c.in_values.ensures, c.in_values-2.ensures) at c.if-wrong_length-in_values.true in
    let h = refused_answers 30 0 (wrong_start a.script.now a.partner a.operation _ e) c.refusal.ensures in
    (translated h, claims _ _ _ _ _ _ (slice_bytes a.script.now (λ i. omega (arith, c.type_inv.script i))) h)

pub returns-in-Some : goal.returns-in-Some
unfolding wrong_script wrong_endpoint
returns-in-Some c = let a = c.args in
    let e = rw (c.in_values.ensures, c.in_values-2.ensures) at c.if-wrong_length-in_values.false in
    let h = refused_answers 30 _ (wrong_record a.script.now a.partner a.operation _ _ e (found_at _ _ c.in-Some.ensures)) c.refusal-in-Some.ensures in
    (translated h, claims _ _ _ _ _ _ (slice_bytes a.script.now (λ i. omega (arith, c.type_inv.script i))) h)

pub translate_right-requires : goal.translate_right-requires
unfolding wrong_script wrong_endpoint
translate_right-requires c = let a = c.args in
    let e = rw (c.in_values.ensures, c.in_values-2.ensures) at c.if-wrong_length-in_values.false in
    right_script a.script.now a.partner a.operation e (found_nothing _ c.in_default.ensures)

pub returns : goal.returns
unfolding wrong_script wrong_endpoint
returns c = let a = c.args in
    let e = rw (c.in_values.ensures, c.in_values-2.ensures) at c.if-wrong_length-in_values.false in
    let h = answers_as (right_records a.script.now a.partner a.operation _ e (found_nothing _ c.in_default.ensures)) c.translate_right.ensures in
    (translated h, claims _ _ _ _ _ _ (slice_bytes a.script.now (λ i. omega (arith, c.type_inv.script i))) h)
