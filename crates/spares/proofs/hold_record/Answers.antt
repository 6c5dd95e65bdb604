use native.Mathlib.Omega.{arith}
use Rattle.spares.proofs.Gathered.{held-call, held_plain}
use Rattle.spares.proofs.hold_record.Goals as goal

pub returns-then-s-i-eq-CALL : goal.returns-then-s-i-eq-CALL
returns-then-s-i-eq-CALL c = held-call _ _ c.if-s-i-eq-CALL.true c.word_at.ensures c.word_at-then-s-i-eq-CALL.ensures c.word_at-then-s-i-eq-CALL-2.ensures
    c.hold.ensures c.hold-then-s-i-eq-CALL.ensures c.hold-then-s-i-eq-CALL-2.ensures

pub returns-else-s-i-eq-CALL : goal.returns-else-s-i-eq-CALL
returns-else-s-i-eq-CALL c = held_plain c.args.s.now c.args.i (omega (arith, c.well_formed)) c.if-s-i-eq-CALL.false
