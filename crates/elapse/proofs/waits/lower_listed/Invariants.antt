use mathlib.Core.Path.{◌≡◌}
use mathlib.Core.List.{List, ◌++◌}
use Prim.Native.Nat.{ℕ, ◌*◌, ◌≤◌}
use lib.ListN.{length, drop}
use Rattle.cows.specs.Terms.{Term}
use Rattle.cows.specs.Format.{encode}
use Rattle.cows.specs.Moves.{elapse}
use Rattle.elapse.specs.Waits.{wait_places, Lists}
use Rattle.elapse.proofs.Listing.{lowered}
use Rattle.elapse.proofs.waits.lower_listed.Given as goal

abbrev pub invariant-loop-i : goal.invariant-loop-i
invariant-loop-i l = (2 * l.w ≤ length l.list) × (length l.t ≡ length l.initial.t)
    × ((u : Term) (rest : List ℕ) → l.initial.t ≡ encode u ++ rest → Lists l.list l.w (wait_places u) → lowered l.d l.t (drop l.i (wait_places u)) ≡ encode (elapse l.d u) ++ rest)
