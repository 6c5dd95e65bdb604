use Rattle.player.specs.Nights.{Playing}
use Rattle.player.proofs.nights.night.Given as goal

-- the moves made so far are the run's, and what is kept, the replies and the tally are theirs
abbrev pub invariant-loop-i : goal.invariant-loop-i
invariant-loop-i l = Playing l.moves l.fn.first l.fn.x l.fn.y l.fn.ends l.fn.replies l.i l.kept l.x l.y l.ends l.replies l.t
