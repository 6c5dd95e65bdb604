-- By the step, or with no move: both promises hold of what is answered.
use Rattle.std.proofs.Common.{sym, ◌∙◌, arith}
use Rattle.ticks.proofs.Unmoved.{time_fits, moved_promised, unmoved_promised}
use Rattle.ticks.proofs.tick.Goals as goal

pub overflow_cast-d : goal.overflow_cast-d
overflow_cast-d c = omega (arith, time_fits c.ticks_between-d.result (sym c.is_time.ensures ∙ c.if-is_time.true))

pub returns-then-is_time : goal.returns-then-is_time
returns-then-is_time c = moved_promised _ _ _ _ _ _ _ c.ranges.earlier.fits (record { less = c.ticks_between-d.type_inv; shows = c.ticks_between-d.ensures }) _ c.time_move-m.ensures (sym c.is_time.ensures ∙ c.if-is_time.true) c.step.ensures.0

pub returns : goal.returns
returns c = unmoved_promised _ _ _ _ _ _ _ c.ranges.earlier.fits (record { less = c.ticks_between-d.type_inv; shows = c.ticks_between-d.ensures }) _ c.refused_with.ensures (sym c.is_time.ensures ∙ c.if-is_time.false) c.make_no_move.ensures
