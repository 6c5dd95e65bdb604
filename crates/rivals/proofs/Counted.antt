-- The fewest variables that a ready receive among the first places binds (roles, specs/Roles, fewest_below), place by place.
use mathlib.Core.Path.{◌≡◌, ap, ◌∙◌}
use mathlib.Core.Bool.{true}
use mathlib.Core.List.{List}
use mathlib.Core.Option.{some}
use Prim.Native.Nat.{ℕ, ◌+◌, ◌≤◌, ◌<◌, min}
use native.Mathlib.Omega.{arith}
use native.Mathlib.Numerals.{add-one}
use lib.ListN.{get_or}
use Rattle.cows.specs.Terms.{Term, Action, size, invokes}
use Rattle.cows.specs.Places.{spot_at, sub}
use Rattle.roles.specs.Roles.{unfit, ready_bound, fewest_below, fewest_bound, sending}
use Rattle.roles.specs.Played.{Fewest}
use Rattle.rivals.specs.Rivals.{LoweredAll}

-- The first r places are counted. (The bound is there for the next one.)
pub record Counted (t : Term) (fewest : List ℕ) (r : ℕ) : Type 0 where
  pub so : (b : ℕ) (m : Action) → b < size t → sending t b ≡ true → invokes (sub t b) ≡ some m
      → (get_or fewest b 0 ≤ unfit) × (get_or fewest b 0 ≡ fewest_below (λ n. ready_bound m (spot_at t n)) r)

module _ (t : Term) (fewest : List ℕ) where
  pub counted_start : ((b : ℕ) → b < size t → get_or fewest b 0 ≡ unfit) → Counted t fewest 0
  unfolding fewest_below
  counted_start h = record { so = λ b m l e i. (omega (arith, h b l), h b l) }

  pub counted_on : (to : List ℕ) (r : ℕ) → Counted t fewest r → LoweredAll t r fewest to → Counted t to (r + 1)
  unfolding fewest_below
  counted_on to r h k = record {
    so = λ b m l e i.
        let (u, v) = h.so b m l e i in
        let w = k b m l e i u in
        (omega arith, rw (add-one r) (w ∙ ap (λ x. min x (ready_bound m (spot_at t r))) v));
  }

  pub counted-end : Counted t fewest (size t) → Fewest t fewest
  unfolding fewest_bound
  counted-end h b m l e i = (h.so b m l e i).1
