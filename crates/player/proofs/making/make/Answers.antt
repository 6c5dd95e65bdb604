use mathlib.Core.Path.{◌≡◌, sym, ◌∙◌}
use mathlib.Core.Bool.{cond}
use Prim.Native.Nat.{◌+◌}
use lib.Dec.{eqb}
use borrow.Author.Rules.{rules}
use Rattle.std.specs.Prelude.{None}
use native.Mathlib.Omega.{arith}
use lib.Seq.{length-take-le}
use Rattle.player.proofs.Turning.{held_few}
use Rattle.player.proofs.Successors.{make_inside, makes_there, time-asked, makes_time, float-inside, float_ends, makes_float, cut-asked, makes_cut, meeting-asked, makes_met}
use Rattle.ways.proofs.KnownTables.{well_formed}
use Rattle.player.proofs.making.make.Goals as goal

pub count_waits-w-requires : goal.count_waits-w-requires
count_waits-w-requires c = let x = c.requires in record { known = x.asks.known; lists = x.lists; inside = x.inside; room = x.room }

pub lower_listed-requires : goal.lower_listed-requires
lower_listed-requires c = time-asked _ _ _ _ _ _ _ c.requires _ _ c.count_waits-w.ensures

pub returns-in-Elapse : goal.returns-in-Elapse
returns-in-Elapse c = makes_time _ _ _ _ _ _ _ c.requires _ c.in-Elapse.is _ _ _ c.count_waits-w.ensures c.lower_listed.ensures

pub lift_in-requires : goal.lift_in-requires
lift_in-requires c = let (b, _, i) = float-inside _ _ _ _ _ _ _ c.requires _ c.in-Extrude.is in (b, i)

pub lift_ends-requires : goal.lift_ends-requires
lift_ends-requires c = float_ends _ _ _ _ _ _ _ c.requires _ c.in-Extrude.is

pub overflow_add-right_above : goal.overflow_add-right_above
overflow_add-right_above c = record { fits = omega (arith, float_ends _ _ _ _ _ _ _ c.requires _ c.in-Extrude.is) }

pub returns-in-Extrude : goal.returns-in-Extrude
returns-in-Extrude c =
    let e : c.filter.result ≡ cond (eqb c.in-Extrude.a (c.args.from + 1)) c.args.kept.waits None = search rules in
    rw e (makes_float _ _ _ _ _ _ _ c.requires _ c.in-Extrude.is _ _ c.lift_in.ensures c.lift_ends.ensures (omega (arith, c.ends-1)))

pub overflow_mul-size : goal.overflow_mul-size
overflow_mul-size c = omega (arith, make_inside _ _ _ _ _ _ _ c.requires)

pub overflow_mul-after : goal.overflow_mul-after
overflow_mul-after c = omega (arith, make_inside _ _ _ _ _ _ _ c.requires)

pub slice_bounds-table-end : goal.slice_bounds-table-end
slice_bounds-table-end c = omega (arith, c.requires.inside)

pub slice_bounds-table-end-2 : goal.slice_bounds-table-end-2
slice_bounds-table-end-2 c = sym (length-take-le _ _ c.requires.inside)

pub invariant_of-table : goal.invariant_of-table
invariant_of-table c = record { known = well_formed c.requires.asks.known }

pub write-requires : goal.write-requires
write-requires c = c.requires.asks

pub cut_ends-requires : goal.cut_ends-requires
cut_ends-requires c = cut-asked _ _ _ _ _ _ _ c.requires _ c.in-Timeout.is

pub returns-in-Timeout : goal.returns-in-Timeout
returns-in-Timeout c = makes_cut _ _ _ _ _ _ _ c.requires _ c.in-Timeout.is _ _ _ c.write.ensures c.cut_ends.ensures (omega (arith, c.ends-in-Timeout-1))

pub left-requires : goal.left-requires
left-requires c = (meeting-asked _ _ _ _ _ _ _ c.requires _ _ c.in-Communicate.is).span

pub cut_ends-requires-then-left-records : goal.cut_ends-requires-then-left-records
cut_ends-requires-then-left-records c = meeting-asked _ _ _ _ _ _ _ c.requires _ _ c.in-Communicate.is

pub returns-then-left-records : goal.returns-then-left-records
returns-then-left-records c = makes_met _ _ _ _ _ _ _ c.requires _ _ c.in-Communicate.is _ _ _ c.write.ensures (sym c.if-left-records.true ∙ c.left.ensures) c.cut_ends-then-left-records.ensures (omega (arith, c.ends-then-left-records-1))

pub slice_bounds-ends-end : goal.slice_bounds-ends-end
slice_bounds-ends-end c = omega (arith, make_inside _ _ _ _ _ _ _ c.requires, c.to-2-1)

pub slice_bounds-ends-end-2 : goal.slice_bounds-ends-end-2
slice_bounds-ends-end-2 c = sym (length-take-le _ _ (omega (arith, make_inside _ _ _ _ _ _ _ c.requires, c.to-2-1)))

pub ends-requires : goal.ends-requires
ends-requires c = held_few _ _ c.args.ends.now (make_inside _ _ _ _ _ _ _ c.requires).1 (omega (arith, c.requires.room, c.to-2-1)) c.requires.ends_room

pub returns : goal.returns
returns c = makes_there _ _ _ _ _ _ _ c.requires _ _ _ c.write.ensures c.ends.ensures
