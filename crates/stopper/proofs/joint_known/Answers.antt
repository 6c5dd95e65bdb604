use mathlib.Core.Path.{refl, sym}
use native.Mathlib.Omega.{arith}
use lib.Seq.{length-take-le}
use borrow.Author.Rules.{rules}
use Rattle.stopper.proofs.Joins.{dead_told, can_fire, live-told}
use Rattle.stopper.proofs.joint_known.Goals as goal

pub slice_bounds-gather-end : goal.slice_bounds-gather-end
slice_bounds-gather-end c = refl

pub gather-requires : goal.gather-requires
gather-requires c = let q = c.requires in (omega (arith, q.number), omega (arith, q.number))

pub slice_bounds-fire-end : goal.slice_bounds-fire-end
slice_bounds-fire-end c = sym (length-take-le _ _ (search rules))

pub fire-requires : goal.fire-requires
fire-requires c = can_fire c.requires c.in-Ok.ensures

pub returns-in-Err : goal.returns-in-Err
returns-in-Err c = dead_told c.requires _ c.in-Err.ensures c.refused.ensures

pub returns-in-Ok : goal.returns-in-Ok
returns-in-Ok c = live-told c.requires c.in-Ok.ensures c.fire.ensures
