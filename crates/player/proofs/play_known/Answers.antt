use mathlib.Core.Path.{sym}
use native.Mathlib.Omega.{arith}
use Rattle.player.proofs.Whole.{room_whole, part_whole, keeps-first, opens, last_fits, plays_term}
use Rattle.player.proofs.play_known.Goals as goal

pub copy-requires : goal.copy-requires
copy-requires c = let o = c.requires in omega (arith, o.known.few, o.known.whole, o.out_room)

pub slice_bounds-night-end : goal.slice_bounds-night-end
slice_bounds-night-end c = room_whole _ _ _ _ _ _ c.requires c.copy.ensures

pub slice_bounds-night-end-2 : goal.slice_bounds-night-end-2
slice_bounds-night-end-2 c = sym (part_whole _ _ _ _ _ _ c.requires c.copy.ensures)

pub night-night-requires : goal.night-night-requires
night-night-requires c = opens _ _ _ _ _ _ c.requires c.copy.ensures

pub put_last-requires : goal.put_last-requires
put_last-requires c = let o = c.requires in
    let e = c.copy.ensures in
    let k = o.known in
    last_fits _ _ _ _ _ _ o e k.term k.table _ _ _ _ _ (c.night-night.ensures k.term (keeps-first _ _ _ _ _ _ o e k.term k.table))

pub returns : goal.returns
returns c t h = let o = c.requires in
    let e = c.copy.ensures in
    rw c.accepted.ensures (plays_term _ _ _ _ _ _ o e t h _ _ _ _ _ (c.night-night.ensures t (keeps-first _ _ _ _ _ _ o e t h)) c.put_last.ensures)
