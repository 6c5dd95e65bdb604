-- Each part is written behind the ones before it.
use Rattle.lister.proofs.Writing.{room_kills, space_meetings, room_timeouts, room_unfolds, room_extrudes, parts-put, uncut}
use Rattle.lister.proofs.put_all.Goals as goal

pub put_kind-kills-requires : goal.put_kind-kills-requires
put_kind-kills-requires c = room_kills c.requires.0 _ c.requires.1

pub put_meetings-met-requires : goal.put_meetings-met-requires
put_meetings-met-requires c = let p = c.requires.0 in
    (p, space_meetings p _ c.requires.1 (uncut c.requires.0 c.put_kind-kills.ensures))

pub put_kind-timeouts-requires : goal.put_kind-timeouts-requires
put_kind-timeouts-requires c = room_timeouts c.requires.0 _ c.requires.1 (uncut c.requires.0 c.put_kind-kills.ensures) c.put_meetings-met.ensures

pub put_kind-unfolds-requires : goal.put_kind-unfolds-requires
put_kind-unfolds-requires c = room_unfolds c.requires.0 _ c.requires.1 (uncut c.requires.0 c.put_kind-kills.ensures) c.put_meetings-met.ensures (uncut c.requires.0 c.put_kind-timeouts.ensures)

pub put_kind-requires : goal.put_kind-requires
put_kind-requires c = room_extrudes c.requires.0 _ c.requires.1 (uncut c.requires.0 c.put_kind-kills.ensures) c.put_meetings-met.ensures (uncut c.requires.0 c.put_kind-timeouts.ensures) (uncut c.requires.0 c.put_kind-unfolds.ensures)

pub returns : goal.returns
returns c = parts-put c.requires.0 _ c.requires.1 (uncut c.requires.0 c.put_kind-kills.ensures) c.put_meetings-met.ensures (uncut c.requires.0 c.put_kind-timeouts.ensures) (uncut c.requires.0 c.put_kind-unfolds.ensures) (uncut c.requires.0 c.put_kind.ensures)
