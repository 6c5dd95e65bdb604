use mathlib.Core.Path.{sym, ◌∙◌}
use native.Mathlib.Omega.{arith}
use lib.Bits.{bit_and}
use lib.Dec.{eqb}
use borrow.Author.Count.{below_more}
use borrow.Author.Tests.{eqb-true}
use Rattle.cows.proofs.Basics.{and_true}
use Rattle.index.proofs.Bounds.{and_clear, short_right, long_right}
use Rattle.index.proofs.Index.uses_right.Goals as goal
use Rattle.index.proofs.Index.uses_right.Goals.{then-x-ne0, else-x-ne0}

pub loop-j-preserved : goal.loop-j-preserved
loop-j-preserved c f t = let o = c.loop-j in
    let a = c.args in
    let x = a.self.now in
    elim c.if-x-ne0.branch [
      | then-x-ne0 w ↦
          let (p, u, r) = long_right a.s.now x.slots.now x.shift x.mask _ _ _ _ _ c.from-k.ensures c.from-at.ensures c.word_at-x.ensures c.faults-fault.ensures
          _ _ _ _ _ w.word_at.ensures w.word_at-then-x-ne0.ensures w.word_at-then-x-ne0-2.ensures w.distinct4-d.ensures w.faults-fault-then-x-ne0.ensures _ o.fault _ o.apart w.fault-is w.apart-is f t in
          below_more _ _ (o.invariant p u) r
      | else-x-ne0 w ↦
          let (p, r) = short_right a.s.now x.slots.now x.shift x.mask _ _ _ _ _ c.from-k.ensures c.from-at.ensures c.word_at-x.ensures c.faults-fault.ensures
          w.if-x-ne0.false _ o.fault w.fault-is f in
          below_more _ _ (o.invariant p (sym w.apart-is ∙ t)) r
    ]

pub returns : goal.returns
returns c e q l = let o = c.loop-j in
    let (x, y) = and_true o.apart (eqb (bit_and o.fault 2147516416) 0) e in
    o.invariant (and_clear o.fault (eqb-true _ 0 y)) x q (omega arith)
