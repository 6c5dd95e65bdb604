-- A term with a silenced invoke, continued at another place (crate cows, specs/Moves: silence, continue): its records, size and depth, by the places of the term as it was.
use mathlib.Core.Path.{◌≡◌, sym, ap, ◌∙◌}
use mathlib.Core.List.{◌++◌}
use Prim.Native.Nat.{ℕ, suc, ◌+◌, ◌-◌, ◌≤◌, ◌<◌}
use native.Mathlib.Omega.{arith}
use lib.ListN.{length, take, drop}
use Rattle.cows.specs.Terms.{Basic, nil, Prefix, Term, leaf, under, size, depth, below}
use Rattle.cows.specs.Places.{way_to, sub, enclosed}
use Rattle.cows.specs.Format.{nodes}
use Rattle.cows.specs.Moves.{silence, around_choice, continue}
use Rattle.cows.proofs.Places.{fill_spot}
use Rattle.cows.specs.Records.{ahead}
use Rattle.cows.proofs.Ways.{length-ahead, depth-fill, depth_pos}
use Rattle.cows.proofs.Silence.{alike_at, alike_enclosed, silence-size}
use Rattle.cows.proofs.Remains.{met_nodes, silence_part, silence-under, silence_from}
use Rattle.ways.specs.Ways.{start_of}
use Rattle.plans.proofs.Continuing.{continue-size, continue-depth, start}

-- where a choice begins, by its way
start_is : (t : Term) (a : ℕ) (u : Prefix) (l : a < size t) (e : sub t a ≡ under u (below (sub t a))) → start_of a (way_to t a) ≡ length (ahead (around_choice (way_to t a)))
start_is t a u l e =
    let s = (start t a u l e).at in
    sym (length-ahead t (start_of a (way_to t a)) s.0) ∙ ap (λ w. length (ahead w)) s.2

-- The record at place b silenced, the prefix at place a continued.
module _ (t : Term) (a b : ℕ) {x : Basic} {v : Prefix} (l : a < size t) (ea : sub t a ≡ under v (below (sub t a))) (eb : sub t b ≡ leaf x) where
  abbrev from : ℕ
  from = start_of a (way_to t a)

  abbrev u : Term
  u = silence t b

  pub silence-inside : a < size u
  silence-inside = omega (arith, silence-size t b x eb)

  pub under_silent : sub u a ≡ under v (below (sub u a))
  under_silent = silence-under t a b l ea eb

  -- the choice begins where it did
  from_is : from ≡ length (ahead (around_choice (way_to t a)))
  from_is = start_is t a v l ea

  pub silence-start : start_of a (way_to u a) ≡ from
  silence-start = start_is u a v silence-inside under_silent ∙ (silence_from t a b l ea eb ∙ sym from_is)

  pub silence-enclosed : (d : ℕ) → enclosed d (way_to u a) ≡ enclosed d (way_to t a)
  silence-enclosed d = sym (alike_enclosed (alike_at t b x eb a).0 d)

  pub left-nodes : nodes (continue u a) ≡ take from (nodes u) ++ (take (size (sub t a) - 1) (drop (suc a) (nodes u)) ++ drop (from + size (sub t from)) (nodes u))
  left-nodes = rw from_is (met_nodes t a b l ea eb)

  pub left-size : size (continue u a) + size (sub t from) ≡ size t + (size (sub t a) - 1)
  left-size = rw (silence-start, silence_part t a b l ea eb a, silence_part t a b l ea eb from, silence-size t b x eb) at (continue-size u a v silence-inside under_silent)

  pub left-depth : depth (continue u a) ≤ depth t
  unfolding silence depth
  left-depth = omega (arith, continue-depth u a v silence-inside under_silent, depth-fill (way_to t b) (leaf nil) (sub t b) (depth_pos (sub t b)), ap depth (fill_spot t b))
