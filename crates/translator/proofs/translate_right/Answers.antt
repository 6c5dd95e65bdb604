-- 31 and 32, by the searches for a wrong shape or depth and for a variable at fault.
use native.Mathlib.Omega.{arith}
use Rattle.records.proofs.Laws.{found_at, found_nothing}
use Rattle.tables.proofs.Judging.{slice_bytes}
use Rattle.stepper.proofs.Stepping.{refused_answers, answers_as}
use Rattle.translator.proofs.Judging.{wrong_nesting, right_nesting, known_script, known_expression, wrong_binding, right_bindings}
use Rattle.translator.proofs.translate_right.Goals as goal

pub returns-in-Some : goal.returns-in-Some
returns-in-Some c = refused_answers 31 _ (wrong_nesting _ _ _ _ _ (found_at _ _ c.in-Some.ensures)) c.refusal.ensures

pub find_misbound-requires : goal.find_misbound-requires
find_misbound-requires c = let b = slice_bytes c.args.script.now (λ i. omega (arith, c.type_inv.script i)) in
    let k = known_script _ _ _ b c.requires (found_nothing _ c.in_default.ensures) in
    (k.expression, k.stands)

pub returns-in-Some-find_misbound : goal.returns-in-Some-find_misbound
returns-in-Some-find_misbound c = let b = slice_bytes c.args.script.now (λ i. omega (arith, c.type_inv.script i)) in
    let e = found_nothing _ c.in_default.ensures in
    let x = found_at _ _ (c.in-Some-find_misbound.ensures _ (known_expression _ _ _ b c.requires e)) in
    answers_as (right_nesting _ _ _ b c.requires e _) (refused_answers 32 _ (wrong_binding _ _ _ _ _ x) c.refusal-in-Some-find_misbound.ensures)

pub translate_fitting-requires : goal.translate_fitting-requires
translate_fitting-requires c = known_script _ _ _ (slice_bytes c.args.script.now (λ i. omega (arith, c.type_inv.script i))) c.requires (found_nothing _ c.in_default.ensures)

pub returns : goal.returns
returns c = let b = slice_bytes c.args.script.now (λ i. omega (arith, c.type_inv.script i)) in
    let e = found_nothing _ c.in_default.ensures in
    let h = known_expression _ _ _ b c.requires e in
    let x = found_nothing _ (c.in_default-find_misbound.ensures _ h) in
    answers_as (right_nesting _ _ _ b c.requires e _) (answers_as (right_bindings _ _ _ _ x) (c.translate_fitting.ensures _ h))
