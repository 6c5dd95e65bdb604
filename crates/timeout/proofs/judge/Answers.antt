use mathlib.Core.Path.{sym, ◌∙◌}
use native.Mathlib.Omega.{arith}
use Rattle.ways.proofs.KnownTables.{known_of, none-live, found-live, found_inside, found-start}
use Rattle.plans.specs.declared.Refusal.TheVariants.{Absent, Unripe}
use Rattle.plans.proofs.Planning.{planned_refused}
use Rattle.timeout.proofs.Judged.{no-wait, unripe, ripe_span, ripe_planned}
use Rattle.timeout.proofs.judge.Goals as goal

pub returns-in_default : goal.returns-in_default
returns-in_default c t h = planned_refused (Absent _) (no-wait t _ (none-live c.place_at.ensures h c.in_default.is))

pub overflow_mul-a : goal.overflow_mul-a
overflow_mul-a c = let q = (known_of c.args.table.known) in let i = found_inside c.place_at.ensures c.in-Some.is q in omega (arith, q.few)

pub overflow_add-a : goal.overflow_add-a
overflow_add-a c = let q = (known_of c.args.table.known) in let i = found_inside c.place_at.ensures c.in-Some.is q in omega (arith, q.few)

pub word_at-requires : goal.word_at-requires
word_at-requires c = let q = (known_of c.args.table.known) in let i = found_inside c.place_at.ensures c.in-Some.is q in omega (arith, q.few)

pub returns-then-word_at-ne0 : goal.returns-then-word_at-ne0
returns-then-word_at-ne0 c t h = planned_refused (Unripe _)
    (unripe _ t _ (found-live c.place_at.ensures c.in-Some.is h) (λ e. c.if-word_at-ne0.true (c.word_at.ensures ∙ e)))

pub left-requires : goal.left-requires
left-requires c = let q = (known_of c.args.table.known) in
    let f = c.place_at.ensures in
    ripe_span _ q.term _ (found-live f c.in-Some.is q.table) _ q.table _ (found-start f c.in-Some.is q.table)

pub returns : goal.returns
returns c t h = let f = c.place_at.ensures in
    ripe_planned _ t _ (found-live f c.in-Some.is h) _ h _ (found-start f c.in-Some.is h) _ (sym c.word_at.ensures ∙ c.if-word_at-ne0.false) c.left.ensures
