use native.Mathlib.Omega.{arith}
use lib.ListN.{length-set}
use Rattle.index.proofs.Entries.{ready, listed-bound, patterns_apart}
use Rattle.index.proofs.indexed_right.Goals as goal

pub enter-requires : goal.enter-requires
enter-requires c = let p = c.requires in ready _ _ _ _ _ _ _ p.0 p.1

pub invariant_of-index : goal.invariant_of-index
invariant_of-index c = let b = c.requires.1.slots in
    record { spread = record { small = b.small; room = omega (arith, c.enter.auto.slots, length-set c.args.slots.now 0 32767, b.room) } }

pub returns : goal.returns
returns c = let p = c.requires.0 in
    let right = c.uses_right.ensures in (
      λ r. listed-bound _ _ _ _ _ _ p.uses (right r) _ _ _ p.end p.delimitations (c.enter.ensures c.if-not-enter.false),
      λ r. patterns_apart _ _ _ _ _ _ p.uses (right r),
    )
