-- The readers call each other with fewer records left; each branch is a law of proofs/Reading. The service reader's loop keeps what it has passed, the guard reader's
-- what the guard that it stands at says of the first.
use mathlib.Core.Path.{refl, sym, ◌∙◌}
use native.Mathlib.Omega.{arith}
use Rattle.std.proofs.lemmas.Result.{err_from_is_err_and}
use Rattle.readers.proofs.Reading.{choice_in, reads_left, reads_right, reads_below, guard-first, guard_second, guard-nil, guard-prefix, guard_fault}
use Rattle.readers.proofs.Reading.{going_first, going_all, inside_in, reads_choice, going_next, going_found, going_over}
use Rattle.readers.proofs.services.+guard_read_guard_service.Goals as goal

pub guard-overflow_mul-k : goal.guard-overflow_mul-k
guard-overflow_mul-k t c = omega (arith, c.requires.inside)

pub guard-bounds-s-at : goal.guard-bounds-s-at
guard-bounds-s-at t c = omega (arith, c.requires.inside)

pub guard-loop-k-init : goal.guard-loop-k-init
guard-loop-k-init t c = (omega arith, refl, c.requires, λ v x. x)

pub guard-overflow_add-g : goal.guard-overflow_add-g
guard-overflow_add-g t c = omega (arith, c.loop-k.invariant.2.inside)

pub guard-read_guard-requires : goal.guard-read_guard-requires
guard-read_guard-requires t c = let v = c.loop-k.invariant in (omega (arith, v.0, v.2.inside), reads_left v.2 (sym v.1 ∙ c.loop-k-test.true))

pub guard-returns-in_err-read_guard : goal.guard-returns-in_err-read_guard
guard-returns-in_err-read_guard t c = let v = c.loop-k.invariant in
    let p = err_from_is_err_and c.from_residual.result c.from_residual.ensures.1 in
    rw (p.1, p.2) (v.3 _ (guard-first v.2 _ _ (sym v.1 ∙ c.loop-k-test.true) c.read_guard.ensures c.in_err-read_guard.was))

pub guard-overflow_add-g-in-loop-k : goal.guard-overflow_add-g-in-loop-k
guard-overflow_add-g-in-loop-k t c = omega (arith, c.loop-k.invariant.2.inside)

pub guard-offset_bounds-ends-g : goal.guard-offset_bounds-ends-g
guard-offset_bounds-ends-g t c = omega (arith, c.loop-k.invariant.2.inside)

pub guard-bounds-ends-g : goal.guard-bounds-ends-g
guard-bounds-ends-g t c = let r = c.loop-k.invariant.2 in omega (arith, r.inside, r.end.room)

pub guard-overflow_mul-k-in-loop-k : goal.guard-overflow_mul-k-in-loop-k
guard-overflow_mul-k-in-loop-k t c = let v = c.loop-k.invariant in omega (arith, (reads_right v.2 _ c.from-g.ensures (sym v.1 ∙ c.loop-k-test.true)).inside)

pub guard-bounds-s-g : goal.guard-bounds-s-g
guard-bounds-s-g t c = let v = c.loop-k.invariant in
    omega (arith, (reads_right v.2 _ c.from-g.ensures (sym v.1 ∙ c.loop-k-test.true)).inside)

pub guard-loop-k-smaller : goal.guard-loop-k-smaller
guard-loop-k-smaller t c = let v = c.loop-k.invariant in
    omega (arith, v.2.inside, (choice_in v.2 (sym v.1 ∙ c.loop-k-test.true)).between, c.from-g.ensures)

pub guard-loop-k-preserved : goal.guard-loop-k-preserved
guard-loop-k-preserved t c = let v = c.loop-k.invariant in let e = sym v.1 ∙ c.loop-k-test.true in (
  omega (arith, v.0, (choice_in v.2 e).between, c.from-g.ensures),
  refl,
  reads_right v.2 _ c.from-g.ensures e,
  λ u x. v.3 u (guard_second v.2 _ _ u c.from-g.ensures e c.read_guard.ensures c.in_ok-read_guard.was x),
)

pub guard-returns-then-k-eq-NIL : goal.guard-returns-then-k-eq-NIL
guard-returns-then-k-eq-NIL t c = let v = c.loop-k.invariant in v.3 _ (guard-nil v.2 (sym v.1 ∙ c.if-k-eq-NIL.true))

pub guard-overflow_add-g-then-k : goal.guard-overflow_add-g-then-k
guard-overflow_add-g-then-k t c = omega (arith, c.loop-k.invariant.2.inside)

pub guard-offset_bounds-ends-g-then-k : goal.guard-offset_bounds-ends-g-then-k
guard-offset_bounds-ends-g-then-k t c = omega (arith, c.loop-k.invariant.2.inside)

pub guard-bounds-ends-g-then-k : goal.guard-bounds-ends-g-then-k
guard-bounds-ends-g-then-k t c = let r = c.loop-k.invariant.2 in omega (arith, r.inside, r.end.room)

pub guard-service-requires : goal.guard-service-requires
guard-service-requires t c = let v = c.loop-k.invariant in
    (omega (arith, v.0, v.2.inside), reads_below v.2 _ c.from.ensures (rw v.1 at c.if-k.true))

pub guard-returns-then-k : goal.guard-returns-then-k
guard-returns-then-k t c = let v = c.loop-k.invariant in
    v.3 _ (guard-prefix v.2 _ _ c.from.ensures (rw v.1 at c.if-k.true) c.service.ensures)

pub guard-returns : goal.guard-returns
guard-returns t c = let v = c.loop-k.invariant in
    v.3 _ (guard_fault v.2 (λ e. c.loop-k-test.false (v.1 ∙ e)) (λ e. c.if-k-eq-NIL.false (v.1 ∙ e)) (rw v.1 at c.if-k.false))

pub read_guard-guard-requires : goal.read_guard-guard-requires
read_guard-guard-requires t c = (omega arith, c.requires)

pub read_guard-returns : goal.read_guard-returns
read_guard-returns t c = c.guard.ensures

pub service-loop-i-init : goal.service-loop-i-init
service-loop-i-init t c = let r = c.requires in going_first r.0 r.1

pub service-overflow_mul-i : goal.service-overflow_mul-i
service-overflow_mul-i t c = omega (arith, (inside_in c.loop-i.invariant c.loop-i-test.true).placed)

pub service-bounds-s-i : goal.service-bounds-s-i
service-bounds-s-i t c = omega (arith, (inside_in c.loop-i.invariant c.loop-i-test.true).placed)

pub service-read_guard-requires : goal.service-read_guard-requires
service-read_guard-requires t c = let r = reads_choice c.loop-i.invariant c.loop-i-test.true in (omega (arith, r.inside), r)

pub service-returns-in_err-read_guard : goal.service-returns-in_err-read_guard
service-returns-in_err-read_guard t c = let p = err_from_is_err_and c.from_residual.result c.from_residual.ensures.1 in
    rw (p.1, p.2) (going_found c.loop-i.invariant c.loop-i-test.true _ c.if-s-i-eq-CHOICE.true c.read_guard.ensures _ c.in_err-read_guard.was)

pub service-offset_bounds-ends-i : goal.service-offset_bounds-ends-i
service-offset_bounds-ends-i t c = omega (arith, (inside_in c.loop-i.invariant c.loop-i-test.true).placed)

pub service-bounds-ends-i : goal.service-bounds-ends-i
service-bounds-ends-i t c = omega (arith, (inside_in c.loop-i.invariant c.loop-i-test.true).placed, c.loop-i.invariant.from.end.room)

pub service-loop-i-smaller-then-s-i-eq-CHOICE : goal.service-loop-i-smaller-then-s-i-eq-CHOICE
service-loop-i-smaller-then-s-i-eq-CHOICE t c = omega (arith, (inside_in c.loop-i.invariant c.loop-i-test.true).onward, c.from-i.ensures)

pub service-loop-i-preserved-then-s-i-eq-CHOICE : goal.service-loop-i-preserved-then-s-i-eq-CHOICE
service-loop-i-preserved-then-s-i-eq-CHOICE t c = going_over c.loop-i.invariant c.loop-i-test.true _ c.if-s-i-eq-CHOICE.true c.read_guard.ensures _ c.from-i.ensures c.in_ok-read_guard.was

pub service-overflow_add-i : goal.service-overflow_add-i
service-overflow_add-i t c = omega (arith, (inside_in c.loop-i.invariant c.loop-i-test.true).placed)

pub service-loop-i-preserved : goal.service-loop-i-preserved
service-loop-i-preserved t c = going_next c.loop-i.invariant c.loop-i-test.true c.if-s-i-eq-CHOICE.false

pub service-returns : goal.service-returns
service-returns t c = going_all c.loop-i.invariant c.loop-i-test.false
