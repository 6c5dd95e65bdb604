use mathlib.Core.Path.{sym, ap, ◌∙◌}
use native.Mathlib.Omega.{arith}
use lib.Seq.{length-take-le}
use Rattle.proposals.specs.Proposals.{read_as}
use Rattle.player.proofs.Turning.{turn_known, turn_inside, turned_refused, can_make, turned_made}
use Rattle.player.proofs.Playing.{moved}
use Rattle.ways.proofs.KnownTables.{well_formed}
use Rattle.player.proofs.turns.turn.Goals as goal

pub overflow_mul-size : goal.overflow_mul-size
overflow_mul-size c = omega (arith, turn_inside _ _ _ _ c.requires)

pub slice_bounds-table-end : goal.slice_bounds-table-end
slice_bounds-table-end c = (turn_inside _ _ _ _ c.requires).1

pub slice_bounds-table-end-2 : goal.slice_bounds-table-end-2
slice_bounds-table-end-2 c = sym (length-take-le _ _ (turn_inside _ _ _ _ c.requires).1)

pub invariant_of-table : goal.invariant_of-table
invariant_of-table c = record { known = well_formed (turn_known _ _ _ _ c.requires) }

pub returns-in-Err : goal.returns-in-Err
returns-in-Err c = moved c.read_move-m.ensures (rw c.accepted.ensures (turned_refused c.args.kept _ _ _ c.requires c.read_move-m.result c.in-Err.reply c.in-Err.ensures c.default.ensures))

pub make-next-requires : goal.make-next-requires
make-next-requires c = can_make c.args.kept _ _ _ c.requires c.read_move-m.result _ c.in-Ok.ensures

pub returns-in-Ok : goal.returns-in-Ok
returns-in-Ok c = moved (sym (ap read_as c.in-Ok.ensures.read) ∙ c.read_move-m.ensures)
    (rw c.accepted.ensures (turned_made c.args.kept _ _ _ c.requires c.read_move-m.result _ c.in-Ok.ensures _ _ _ _ (omega (arith, c.t-1)) (omega (arith, c.ends-1)) (omega (arith, c.to-1)) c.make-next.ensures))
