use Rattle.meetings.proofs.SlotScopes.{low_few}
use Rattle.meetings.proofs.reach_of.Goals as goal

pub end_of-requires : goal.end_of-requires
end_of-requires c = low_few _ _ c.requires.0.played.known _ _ c.low_of-p0.ensures

pub end_of-requires-2 : goal.end_of-requires-2
end_of-requires-2 c = low_few _ _ c.requires.0.played.known _ _ c.low_of-p1.ensures

pub end_of-requires-3 : goal.end_of-requires-3
end_of-requires-3 c = low_few _ _ c.requires.0.played.known _ _ c.low_of-p2.ensures

pub end_of-requires-4 : goal.end_of-requires-4
end_of-requires-4 c = low_few _ _ c.requires.0.played.known _ _ c.low_of-p3.ensures
