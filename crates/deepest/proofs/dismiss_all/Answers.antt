-- Below place i only what is left of the roles stands there, and the ways to the children are told.
use mathlib.Core.Path.{refl}
use native.Mathlib.Omega.{arith}
use lib.ListN.{replicate}
use Rattle.cows.specs.Limits.{max_records}
use Rattle.cows.proofs.Basics.{get_d_zeros}
use Rattle.ways.proofs.KnownTables.{known_of, table_size}
use Rattle.deepest.specs.Deepest.{Telling}
use Rattle.deepest.proofs.Telling.{telling, told-start}
use Rattle.deepest.proofs.Casting.{casting_start, casting_turn, casting_end}
use Rattle.deepest.proofs.dismiss_all.Goals as goal

pub loop-i-init : goal.loop-i-init
loop-i-init c = let x = c.args in
    let z = replicate max_records 0 in
    (refl, refl, told-start x.table.bytes.now x.table.ends.now z z (get_d_zeros max_records 0) (get_d_zeros max_records 0), λ t h. casting_start t x.cast.now)

pub bounds-levels-i : goal.bounds-levels-i
bounds-levels-i c = omega (arith, (known_of c.args.table.known).few)

pub bounds-sides-i : goal.bounds-sides-i
bounds-sides-i c = omega (arith, (known_of c.args.table.known).few)

pub tell-requires : goal.tell-requires
tell-requires c = let l = c.loop-i in let h = c.requires in telling (known_of c.args.table.known) h.0 h.1 l.invariant.2 (omega arith) l.invariant.0 l.invariant.1

pub loop-i-preserved : goal.loop-i-preserved
loop-i-preserved c = let l = c.loop-i in let h = c.requires in
    let q : Telling c.args.table.bytes.now c.args.table.ends.now c.args.heights.now l.levels l.sides l.i =
    telling (known_of c.args.table.known) h.0 h.1 l.invariant.2 (omega arith) l.invariant.0 l.invariant.1 in (
      omega arith,
      omega arith,
      c.tell.ensures,
      λ t h k. casting_turn q t h l.cast (l.invariant.3 t h k) (omega arith) _ _ _ _ c.from.ensures c.from-in-loop-i.ensures c.from-in-loop-i-2.ensures c.open_role.ensures,
    )

pub returns : goal.returns
returns c t h k = let l = c.loop-i in casting_end t l.cast l.i (l.invariant.3 t h k) (omega (arith, table_size _ _ t h))
