use mathlib.Core.Bool.{true, false}
use Rattle.player.proofs.Turning.{going_in, goes_on_in}
use Rattle.player.proofs.turns.move_on.Goals as goal

pub turn-requires : goal.turn-requires
turn-requires c = going_in true _ _ _ _ c.if-kept.true c.requires

pub returns-then-kept : goal.returns-then-kept
returns-then-kept c = goes_on_in true _ _ _ _ _ _ _ _ _ c.if-kept.true c.turn.ensures

pub turn-requires-2 : goal.turn-requires-2
turn-requires-2 c = going_in false _ _ _ _ c.if-kept.false c.requires

pub returns : goal.returns
returns c = goes_on_in false _ _ _ _ _ _ _ _ _ c.if-kept.false c.turn-2.ensures
