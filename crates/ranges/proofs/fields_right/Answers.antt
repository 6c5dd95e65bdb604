use Rattle.std.proofs.Common.{◌+◌, ◌*◌, refl, arith, below_more}
use Rattle.ranges.specs.Ranges.{field_rows}
use Rattle.ranges.proofs.Gathering.{row_below, split, gathered-ranged}
use Rattle.ranges.proofs.fields_right.Goals as goal

pub bounds-from : goal.bounds-from
bounds-from c = row_below c.from-kind.result c.from-count.result _ _ c.from.ensures c.from-in-loop-i.ensures

pub loop-i-preserved : goal.loop-i-preserved
unfolding split field_rows
loop-i-preserved c z = let v = c.loop-i in
    below_more _ v.i (v.invariant (λ j m. (c.gather.ensures j m (z j m)).0))
    (gathered-ranged _ c.args.s.now (16 * v.i) (c.from.result + c.from-in-loop-i.result) (row_below c.from-kind.result c.from-count.result _ _ c.from.ensures c.from-in-loop-i.ensures) (omega arith)
    (λ j m. (c.gather.ensures j m (z j m)).1) refl)
