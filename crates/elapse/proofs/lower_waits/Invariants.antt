use mathlib.Core.Path.{◌≡◌}
use Prim.Native.Nat.{◌*◌, ◌-◌, ◌≤◌, ◌<◌}
use lib.ListN.{length, take, drop}
use Rattle.cows.specs.Terms.{Term}
use Rattle.ways.specs.Known.{Table}
use Rattle.elapse.proofs.Lapsing.{Lapsing}
use Rattle.elapse.proofs.lower_waits.Given as goal

abbrev pub invariant-loop-p : goal.invariant-loop-p
invariant-loop-p l = (l.p ≤ l.n) × (l.n ≤ 2048) × (l.n < length l.ends) × (length l.t ≡ length l.initial.t) × (length (take (16 * l.n) l.initial.t) ≡ 16 * l.n)
    × ((u : Term) → Table (take (16 * l.n) l.initial.t) l.ends u → Lapsing (take (16 * l.n) l.initial.t) l.d u (drop (16 * l.n) l.initial.t) l.t l.p)

abbrev pub decreases-loop-p : goal.decreases-loop-p
decreases-loop-p l = l.n - l.p
