use Rattle.player.proofs.Successors.{list_room, listed_before}
use Rattle.player.proofs.making.count_waits.Goals as goal

pub returns-in-Some : goal.returns-in-Some
returns-in-Some c = listed_before _ _ _ _ c.requires _ c.in-Some.is

pub list_waits-requires : goal.list_waits-requires
list_waits-requires c = let k = c.requires in let (i, l) = list_room _ _ _ _ k in (i, l, k.known)
