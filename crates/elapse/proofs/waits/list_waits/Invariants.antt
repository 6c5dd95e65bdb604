use mathlib.Core.Path.{◌≡◌}
use Prim.Native.Nat.{◌*◌, ◌-◌, ◌≤◌, ◌<◌}
use lib.ListN.{length, take}
use Rattle.cows.specs.Terms.{Term}
use Rattle.ways.specs.Known.{Table}
use Rattle.elapse.proofs.Listing.{Listing}
use Rattle.elapse.proofs.waits.list_waits.Given as goal

abbrev pub invariant-loop-p : goal.invariant-loop-p
invariant-loop-p l = (l.w ≤ l.p) × (l.p ≤ l.n) × (l.n ≤ 2048) × (l.n < length l.ends) × (length l.list ≡ length l.initial.list) × (length (take (16 * l.n) l.t) ≡ 16 * l.n)
    × ((u : Term) → Table (take (16 * l.n) l.t) l.ends u → Listing (take (16 * l.n) l.t) l.initial.list u l.list l.p l.w)

abbrev pub decreases-loop-p : goal.decreases-loop-p
decreases-loop-p l = l.n - l.p
