-- 20 and 21 by the extent; else the translation is written.
use native.Mathlib.Omega.{arith}
use Rattle.stepper.proofs.Stepping.{refused_answers}
use Rattle.scripts.proofs.Standing.{whole_at}
use Rattle.extents.proofs.Sizes.{size-bound}
use Rattle.extents.proofs.Measures.{measurable}
use Rattle.translator.proofs.Judging.{too_large, no_room, written_answers}
use Rattle.translator.proofs.Writing.{known_few}
use Rattle.translator.proofs.translate_fitting.Goals as goal

pub measure-extent-requires : goal.measure-extent-requires
measure-extent-requires c = let k = c.requires in measurable k.expression (whole_at k.expression k.stands.is) k.few

pub returns-then-extent : goal.returns-then-extent
returns-then-extent c e h = let (x, y, z) = c.measure-extent.ensures.is e (whole_at e h.is) in
    refused_answers 20 0 (too_large e _ _ (known_few c.requires e h) _ (rw (y, z) at c.if-extent.true)) c.refusal.ensures

pub overflow_mul-extent : goal.overflow_mul-extent
overflow_mul-extent c = let k = c.requires in omega (arith, k.few, size-bound k.expression, (c.measure-extent.ensures.is k.expression (whole_at k.expression k.stands.is)).1)

pub returns-then-out-extent : goal.returns-then-out-extent
returns-then-out-extent c e h = let (x, y, z) = c.measure-extent.ensures.is e (whole_at e h.is) in
    refused_answers 21 0 (no_room e _ _ (known_few c.requires e h) _ (rw (y, z) at c.if-extent.false) (rw y at c.if-out-extent.true)) c.refusal-then-out-extent.ensures

pub write_translation-requires : goal.write_translation-requires
write_translation-requires c = let k = c.requires in (k, λ e h. omega (arith, c.if-out-extent.false, (c.measure-extent.ensures.is e (whole_at e h.is)).1))

pub returns : goal.returns
returns c e h = let (x, y, z) = c.measure-extent.ensures.is e (whole_at e h.is) in
    rw c.accepted.ensures (written_answers e _ _ (known_few c.requires e h) _ _ (rw (y, z) at c.if-extent.false) (rw y at c.if-out-extent.false) (c.write_translation.ensures e h) _ y)
