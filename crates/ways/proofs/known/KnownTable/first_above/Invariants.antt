use Rattle.std.proofs.Common.{ℕ, ◌-◌, ◌<◌, false}
use Rattle.cows.specs.Terms.{Term}
use Rattle.ways.specs.TermOf.{TermOf}
use Rattle.ways.specs.Ways.{Over}
use Rattle.ways.proofs.known.KnownTable.first_above.Given as goal

abbrev pub invariant-loop-p : goal.invariant-loop-p
invariant-loop-p g l = (t : Term) → TermOf l.self t → Over t l.p l.a × ((q : ℕ) → Over t q l.a → q < l.p → g.F.Fn.post l.test (q, tt) false)

abbrev pub decreases-loop-p : goal.decreases-loop-p
decreases-loop-p g l = l.a - l.p
