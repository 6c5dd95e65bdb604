use mathlib.Core.Path.{◌≡◌}
use mathlib.Core.Bool.{true}
use Prim.Native.Nat.{◌-◌}
use lib.ListN.{length}
use Rattle.cows.specs.Terms.{Term}
use Rattle.cows.specs.Places.{way_to}
use Rattle.cows.specs.Active.{live}
use Rattle.ways.specs.TermOf.{TermOf}
use Rattle.ways.specs.Ways.{Over, start_of, parent_of}
use Rattle.ways.proofs.known.KnownTable.place_at.Given as goal

abbrev pub invariant-loop-p : goal.invariant-loop-p
invariant-loop-p l = (t : Term) → TermOf l.self t
    → Over t l.p l.a × (live (way_to t l.p) ≡ true) × (l.above ≡ length (way_to t l.p)) × (l.parent ≡ parent_of (way_to t l.p)) × (l.start ≡ start_of l.p (way_to t l.p))

abbrev pub decreases-loop-p : goal.decreases-loop-p
decreases-loop-p l = l.a - l.p
