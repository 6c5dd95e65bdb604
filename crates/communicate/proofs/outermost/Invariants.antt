use lib.ListN.{take}
use Rattle.cows.specs.Terms.{Term}
use Rattle.ways.specs.TermOf.{TermOf}
use Rattle.communicate.specs.Outermost.{Outermost}
use Rattle.communicate.proofs.outermost.Given as goal

-- the outermost of the slots so far
abbrev pub invariant-loop-binding : goal.invariant-loop-binding
invariant-loop-binding l = (t : Term) → TermOf l.table t → Outermost t l.b (take l.binding-index l.taken) l.p
