use native.Mathlib.Omega.{arith}
use Rattle.player.proofs.Lowering.{cut_around, cut_fits, cut-within, cut-behind, cut_done}
use Rattle.player.proofs.cutting.cut_ends.Goals as goal

pub overflow_sub-outer : goal.overflow_sub-outer
overflow_sub-outer c = omega (arith, c.requires.span)

pub overflow_add-outer : goal.overflow_add-outer
overflow_add-outer c = omega (arith, c.requires.span)

pub overflow_sub-middle : goal.overflow_sub-middle
overflow_sub-middle c = omega (arith, c.requires.span)

pub lower_around-requires : goal.lower_around-requires
lower_around-requires c = cut_around _ _ _ _ c.requires c.from-body.ensures c.from.ensures

pub lower_ends-requires : goal.lower_ends-requires
lower_ends-requires c = cut-within _ _ _ _ c.requires c.from-body.ensures c.from.ensures c.lower_around.ensures c.ends-1.given

pub overflow_sub-n : goal.overflow_sub-n
overflow_sub-n c = cut_fits _ c.args.n _ _ c.requires c.from-body.ensures c.from.ensures

pub lower_ends-requires-2 : goal.lower_ends-requires-2
lower_ends-requires-2 c = cut-behind _ _ _ _ c.requires c.from-body.ensures c.from.ensures c.lower_around.ensures c.ends-1.given c.lower_ends.ensures c.ends-2-1.given

pub returns : goal.returns
returns c = cut_done _ _ _ _ c.requires c.from-body.ensures c.from.ensures c.lower_around.ensures c.ends-1.given c.lower_ends.ensures c.ends-2-1.given c.lower_ends-2.ensures
