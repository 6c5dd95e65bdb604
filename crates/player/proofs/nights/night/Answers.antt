use Rattle.std.proofs.Common.{arith}
use Rattle.player.proofs.Playing.{opening, playing_ready, playing_next, playing_ends}
use Rattle.player.proofs.nights.night.Goals as goal

pub loop-i-init : goal.loop-i-init
loop-i-init c = opening _ _ _ _ _ _ _ c.requires _ c.default-t.ensures

pub record_move-kept-requires : goal.record_move-kept-requires
record_move-kept-requires c = (playing_ready _ _ _ _ _ _ _ c.requires _ _ _ _ _ _ _ c.loop-i.invariant c.loop-i-test.true, c.loop-i.invariant.small)

pub loop-i-preserved : goal.loop-i-preserved
loop-i-preserved c =
    let m = c.record_move-kept in
    playing_next _ _ _ _ _ _ _ c.requires _ _ _ _ _ _ _ c.loop-i.invariant c.loop-i-test.true _ _ _ _ _ _ m.ensures m.auto.x m.auto.y m.auto.ends m.auto.replies

pub returns : goal.returns
returns c t h = playing_ends _ _ _ _ _ _ _ c.requires _ _ _ _ _ _ _ c.loop-i.invariant (omega arith) t h
