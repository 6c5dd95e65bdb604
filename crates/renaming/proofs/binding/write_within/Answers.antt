use native.Mathlib.Omega.{arith}
use Rattle.records.proofs.Put.{and_then}
use Rattle.renaming.proofs.Bound.{bound-between, bound_lengths}
use Rattle.renaming.proofs.binding.write_within.Goals as goal

pub copy_records-front-requires : goal.copy_records-front-requires
copy_records-front-requires c = let q = c.requires in
    let l = bound_lengths _ _ _ q.from_le_to.2 q.from_le_to.1 c.nearest-first.ensures c.nearest-last.ensures in
    omega arith

pub write_bound-back-requires : goal.write_bound-back-requires
write_bound-back-requires c = let q = c.requires in
    let l = bound_lengths _ _ _ q.from_le_to.2 q.from_le_to.1 c.nearest-first.ensures c.nearest-last.ensures in
    omega (arith, c.copy_records-front.ensures.1)

pub copy_records-requires : goal.copy_records-requires
copy_records-requires c = let q = c.requires in
    let l = bound_lengths _ _ _ q.from_le_to.2 q.from_le_to.1 c.nearest-first.ensures c.nearest-last.ensures in
    omega (arith, c.copy_records-front.ensures.1, c.write_bound-back.ensures.1)

pub returns : goal.returns
returns c = let q = c.requires in
    let x = c.nearest-first.ensures in
    let y = c.nearest-last.ensures in
    let l = bound_lengths _ _ _ q.from_le_to.2 q.from_le_to.1 x y in
    let z = c.copy_records.ensures in (
      rw (bound-between _ _ _ q.from_le_to.2 q.from_le_to.1 x y)
          (and_then _ _ _ _ _ (omega (arith, l, c.copy_records-front.ensures.1)) c.copy_records-front.ensures.0 (and_then _ _ _ _ _ c.write_bound-back.ensures.1 c.write_bound-back.ensures.0 z.0)),
      omega (arith, l, c.copy_records-front.ensures.1, c.write_bound-back.ensures.1, z.1),
    )
