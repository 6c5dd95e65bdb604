-- The tightest receive (refusal 15) by one number: no ready receive that fits an invoke binds fewer than l variables exactly if l is at most the fewest.
use mathlib.Core.Path.{◌≡◌, refl, sym, ◌∙◌}
use mathlib.Core.Bool.{Bool, true, false, ◌&&◌}
use mathlib.Core.Option.{Option, none, some}
use Prim.Native.Nat.{ℕ, zero, suc, ◌≤◌, ◌<◌, min}
use native.Mathlib.Omega.{arith}
use lib.Dec.{ltb}
use lib.ListN.{length}
use borrow.Author.Tests.{ltb-true, ltb-false, le-ltb}
use Rattle.cows.specs.Basics.{found_with, only}
use Rattle.cows.specs.Terms.{Term, Action, size, prefixed, receives}
use Rattle.cows.specs.Places.{Spot, spot_at, way_to, sub, first}
use Rattle.cows.specs.Active.{ready}
use Rattle.cows.specs.Moves.{Substitution, Matching, binds, differs, fit, fewer, tighter}
use Rattle.cows.proofs.Basics.{lt_case}
use Rattle.cows.proofs.Stands.{first_fails, fails_first}
use Rattle.roles.specs.Roles.{unfit, bound_by, bound_at, ready_bound, fewest_below, fewest_bound}

-- the fewest is at most each, and at most unfit; what is at most all is at most the fewest
module _ (f : ℕ → ℕ) where
  fewest_below_lem : (k i : ℕ) → i < k → fewest_below f k ≤ f i
  unfolding fewest_below
  fewest_below_lem zero i h = absurd (omega arith)
  fewest_below_lem (suc k) i h = lt_case (min (fewest_below f k) (f k) ≤ f i) i k (λ l. omega (arith, fewest_below_lem k i l)) (λ l. let z : i ≡ k = omega arith in rw z (omega arith))

  fewest_fit : (k : ℕ) → fewest_below f k ≤ unfit
  unfolding fewest_below
  fewest_fit zero = omega arith
  fewest_fit (suc k) = omega (arith, fewest_fit k)

  below_fewest : (k l : ℕ) → l ≤ unfit → ((i : ℕ) → i < k → l ≤ f i) → l ≤ fewest_below f k
  unfolding fewest_below
  below_fewest zero l h g = h
  below_fewest (suc k) l h g = omega (arith, below_fewest k l h (λ i m. g i (omega arith)), g k (omega arith))

-- one record: it is tighter exactly if it binds fewer
tighter-bound : (m : Action) (l n : ℕ) (z : Spot) → l ≤ unfit → tighter m l n z ≡ ltb (ready_bound m z) l
unfolding tighter found_with only ready_bound bound_at bound_by fewer
tighter-bound m l n z h = go (ready z.way) (prefixed receives z.here)
  where
    fits : (x : Matching) → fewer l x ≡ ltb (bound_by x) l
    fits (binds σ) = refl
    fits (differs d) = sym (le-ltb unfit l h)

    go : (b : Bool) (o : Option Action) → (b && found_with (λ r. fewer l (fit r m)) o) ≡ ltb (bound_at m (only b o)) l
    go true none = sym (le-ltb unfit l h)
    go true (some r) = fits (fit r m)
    go false o = sym (le-ltb unfit l h)

-- all records
module _ (t : Term) (m : Action) where
  abbrev at : ℕ → ℕ
  at n = ready_bound m (spot_at t n)

  pub none-tighter : (l : ℕ) → l ≤ unfit → first (tighter m l) t ≡ none → l ≤ fewest_bound t m
  unfolding fewest_bound way_to sub
  none-tighter l h e =
      below_fewest at (size t) l h (λ i k. ltb-false (at i) l
      (sym (tighter-bound m l i (spot_at t i) h) ∙ first_fails (tighter m l) t e i (sub t i) (record { placed = k; stands = refl })))

  pub tighter-none : (l : ℕ) → l ≤ fewest_bound t m → first (tighter m l) t ≡ none
  unfolding fewest_bound way_to sub
  tighter-none l h =
      fails_first (tighter m l) t (λ n k e.
      let f : l ≤ unfit = omega (arith, fewest_fit at (size t)) in
      omega (arith, fewest_below_lem at (size t) n k, ltb-true (at n) l (sym (tighter-bound m l n (spot_at t n) f) ∙ e)))

  -- a ready receive that fits is one of those
  pub fewest_fits : (r : Action) (σ : Substitution) (a : ℕ) → a < size t → ready (way_to t a) ≡ true → prefixed receives (sub t a) ≡ some r → fit r m ≡ binds σ → fewest_bound t m ≤ length σ
  unfolding fewest_bound ready_bound bound_at bound_by only way_to sub
  fewest_fits r σ a l e p q =
      let z : at a ≡ length σ = rw (e, p, q) in
      omega (arith, fewest_below_lem at (size t) a l)
