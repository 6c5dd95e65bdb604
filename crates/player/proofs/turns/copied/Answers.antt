use mathlib.Core.Path.{ap, ◌∙◌}
use native.Mathlib.Omega.{arith}
use Rattle.player.specs.Loads.{load_between}
use Rattle.player.proofs.Loading.{body_places}
use Rattle.player.proofs.Turning.{copied_none, unfold_inside, copied_body}
use Rattle.player.proofs.turns.copied.Goals as goal

pub returns-in_default : goal.returns-in_default
returns-in_default c = copied_none _ _ _ c.in_default.not-Unfold

pub overflow_add-a : goal.overflow_add-a
overflow_add-a c = let i = unfold_inside _ _ c.requires c.in-Unfold.is in record { fits = omega (arith, i, c.requires.known.few) }

pub offset_bounds-table-a : goal.offset_bounds-table-a
offset_bounds-table-a c = let i = unfold_inside _ _ c.requires c.in-Unfold.is in record { fits = omega (arith, i, c.requires.known.few) }

pub bounds-table-a : goal.bounds-table-a
bounds-table-a c = omega (arith, unfold_inside _ _ c.requires c.in-Unfold.is, c.requires.known.room)

pub load_between-requires : goal.load_between-requires
load_between-requires c = let (h, k) = body_places _ _ c.requires.known _ (unfold_inside _ _ c.requires c.in-Unfold.is) in
    (omega (arith, h, c.from), omega (arith, k, c.from))

pub returns : goal.returns
returns c = let u = c.in-Unfold.is in
    copied_body _ _ c.requires u _ (c.load_between.ensures.0 ∙ ap (load_between c.args.table.bytes.now _) c.from.ensures) c.load_between.ensures.1
