use mathlib.Core.Path.{◌≡◌, ap, ◌∙◌}
use native.Mathlib.Omega.{arith}
use lib.ListN.{length, get_or, length-set}
use Rattle.index.proofs.Bounds.{ends_small}
use Rattle.index.proofs.Entries.{enter-turn}
use Rattle.index.proofs.enter.Goals as goal

pub entry-requires : goal.entry-requires
entry-requires c = let p = c.requires in omega (arith, ends_small _ _ _ p.end (p.inside c.loop-d.d-index (omega arith)), ap (λ n. get_or c.args.ends.now n 0) c.from-in-loop-d.ensures)

pub loop-d-preserved : goal.loop-d-preserved
loop-d-preserved c = let o = c.loop-d in (
  length-set o.slots _ _ ∙ o.invariant.0,
  enter-turn _ _ _ _ _ c.requires.end c.requires.inside c.requires.kinds o.slots _ _ _ _ _ _ (omega arith) (omega (arith, c.slot-p.ensures.inside, o.invariant.0, c.requires.slots.room)) (omega (arith, c.if-slots-p-gt65535.false))
      c.from.ensures c.from-in-loop-d.ensures c.word_at-a.ensures c.slot-p.ensures.is c.entry.ensures o.invariant.1,
)

pub returns : goal.returns
returns c e = let z : c.loop-d.d-index ≡ length c.args.marks.now = omega arith in rw z at c.loop-d.invariant.1
