-- Kills, timeouts, unfoldings and extrusions: open by what the record says and by the limits (specs/Criteria).
use mathlib.Core.Path.{◌≡◌, refl, sym, ap, subst, ◌∙◌}
use mathlib.Core.Bool.{Bool, true, false, cond, not, ◌&&◌, ◌||◌}
use mathlib.Core.Option.{Option, none, some}
use mathlib.Core.List.{[], ◌∷◌}
use Prim.Native.Nat.{ℕ, suc, ◌+◌, ◌≤◌}
use native.Mathlib.Omega.{arith}
use lib.Dec.{ltb, leb, eqb}
use lib.ListN.{length}
use borrow.Author.Tests.{leb-true, le-leb}
use Rattle.cows.specs.Limits.{max_records, max_depth}
use Rattle.cows.specs.Basics.{every, found_with, found, only, place_if, accept, ◌>>=◌, ◌>>◌, forbid, need}
use Rattle.cows.specs.Terms.{kill, receive, wait, protection, delimitation, replication, choice, parallel, Term, leaf, under, both, size, depth, kills, prefixed, waits, delimits, replicates, below, label}
use Rattle.cows.specs.Kinds.{live_kind, open_kinds}
use Rattle.cows.specs.Places.{Frame, inside, left_of, right_of, passed, plug, Way, fill, way_to, sub}
use Rattle.cows.specs.Records.{ahead}
use Rattle.cows.specs.Within.{Within, Guarded}
use Rattle.cows.specs.Active.{on_kind, live, wanted}
use Rattle.cows.specs.Moves.{after_kill, continue, after_unfold, fitting, exchange, after_extrude, kill_at, timeout_at, unfold_at, extrude_at, Kill, Timeout, Unfold, Extrude, successor}
use Rattle.cows.specs.Step.{over_limits}
use Rattle.cows.proofs.Basics.{never, and_true, true_and, same_test, lt_case}
use Rattle.cows.proofs.Stands.{kills_is, looks, wanted-live}
use Rattle.cows.proofs.Places.{fill_spot}
use Rattle.cows.proofs.Ways.{above_at, size_frame, size-swap, depth_part, depth_most}
use Rattle.rewriting.proofs.Firing.{guarded_at}
use Rattle.plans.proofs.Continuing.{continue_limits}
use Rattle.kill.specs.Losses.{left}
use Rattle.kill.proofs.Left.{has_scope, kill-size, kill_limits}
use Rattle.unfold.proofs.Judged.{unfold_size, unfold_shallow, unfold_deep}
use Rattle.opening.specs.Opening.{fine, is_open}
use Rattle.opening.proofs.Opening.{fine_accepts, accepts_fine}
use Rattle.roles.specs.Roles.{seen}
use Rattle.criteria.specs.Criteria.{unfolds, lifts}
use Rattle.criteria.proofs.Seen.{seen-wanted, seen-prefix}

-- a kill leaves no more records than there were
left_few : (a i : ℕ) (t : Term) → left a i t ≤ size t
unfolding left size
left_few a i (leaf x) = omega arith
left_few a i (under (receive p o ws) t) = omega arith
left_few a i (under (wait n) t) = omega arith
left_few a i (under protection t) = go (ltb a i || leb (i + suc (size t)) a) (left_few a (suc i) t)
  where
    go : (b : Bool) → left a (suc i) t ≤ size t → cond b (suc (size t)) (suc (left a (suc i) t)) ≤ suc (size t)
    go true h = omega arith
    go false h = omega arith
left_few a i (under (delimitation d) t) = omega (arith, left_few a (suc i) t)
left_few a i (under replication t) = omega (arith, left_few a (suc i) t)
left_few a i (both choice s t) = omega arith
left_few a i (both parallel s t) = omega (arith, left_few a (suc i) s, left_few a (suc i + size s) t)

module _ (t : Term) (w : Within t) (a : ℕ) where
  -- kills
  fires : (k : ℕ) → seen kills t a ≡ some k → over_limits (after_kill k t a) ≡ false
  fires k e =
      let l = wanted-live kills t a k (leaf (kill k)) (kills_is (sub t a) k) (seen-wanted kills t a k e) in
      let (p, q) = has_scope t w a k l in
      kill_limits t w a k l p q (omega (arith, kill-size t w a k l p q, left_few a (p + 1) (sub t (p + 1))))

  pub kill_open : is_open t (Kill a) ≡ found (seen kills t a)
  unfolding is_open successor kill_at wanted seen found need ◌>>=◌ fine
  kill_open = go (only (ltb a (size t) && live (way_to t a)) (kills (sub t a))) refl
    where
      go : (o : Option ℕ) → seen kills t a ≡ o → fine (need 11 a o >>= (λ k. accept (after_kill k t a))) ≡ found o
      go none e = refl
      go (some k) e = ap not (fires k e)

  -- timeouts
  expires : (i : ℕ) → seen (prefixed waits) t a ≡ some i → over_limits (continue t a) ≡ false
  expires i e =
      let l = seen-prefix waits wait (λ u. (looks u).waiting) t a i e in
      continue_limits t a (wait i) l.at.placed l.at.stands w

  pub timeout_open : is_open t (Timeout a) ≡ found_with (λ i. eqb i 0) (seen (prefixed waits) t a)
  unfolding is_open successor timeout_at wanted seen found_with need ◌>>=◌ fine forbid place_if ◌>>◌
  timeout_open = go (only (ltb a (size t) && live (way_to t a)) (prefixed waits (sub t a))) refl
    where
      ripe : (b : Bool) → over_limits (continue t a) ≡ false → fine (forbid 16 (place_if (not b) a) >> accept (continue t a)) ≡ b
      ripe true h = ap not h
      ripe false h = refl

      go : (o : Option ℕ) → seen (prefixed waits) t a ≡ o → fine (need 11 a o >>= (λ i. forbid 16 (place_if (not (eqb i 0)) a) >> accept (continue t a))) ≡ found_with (λ i. eqb i 0) o
      go none e = refl
      go (some i) e = ripe (eqb i 0) (expires i e)

  -- unfoldings
  abbrev deeper : ℕ
  deeper = length (way_to t a) + 1 + depth (sub t a)

  limits : (o : Unit {0}) → seen (prefixed replicates) t a ≡ some o → fine (accept (after_unfold t a)) ≡ unfolds t a
  unfolding unfolds
  limits o e =
      let x = (seen-prefix replicates (λ j. replication) (λ u. (looks u).replicating) t a o e).at in
      let z = unfold_size t a x.placed x.stands in
      same_test
      (λ f. let (s, es, h, k) = fine_accepts (accept (after_unfold t a)) f in
      let q : after_unfold t a ≡ s = cc in
      true_and (le-leb (size t + size (sub t a)) max_records (omega (arith, ap size q)))
      (le-leb deeper max_depth (lt_case (deeper ≤ max_depth) max_depth deeper (λ l. absurd (omega (arith, unfold_deep t a x.placed x.stands l, ap depth q))) (λ l. l))))
      (λ f. let (h, k) = and_true (leb (size t + size (sub t a)) max_records) _ f in
      accepts_fine (accept (after_unfold t a)) (after_unfold t a) refl (omega (arith, leb-true (size t + size (sub t a)) max_records h))
      (unfold_shallow t a x.placed x.stands w (leb-true deeper max_depth k)))

  pub unfold_open : is_open t (Unfold a) ≡ (found (seen (prefixed replicates) t a) && unfolds t a)
  unfolding is_open successor unfold_at wanted seen found need ◌>>=◌ fine
  unfold_open = go (only (ltb a (size t) && live (way_to t a)) (prefixed replicates (sub t a))) refl
    where
      go : (o : Option (Unit {0})) → seen (prefixed replicates) t a ≡ o → fine (need 11 a o >>= (λ r. accept (after_unfold t a))) ≡ (found o && unfolds t a)
      go none e = refl
      go (some r) e = limits r e

-- Extrusions: in a well-formed table the record above a live delimitation always fits, since a choice has guards below it.
fits_above : (f : Frame) (w : Way) (s : Term) (d : ℕ) (c : Term) → on_kind live_kind f ≡ true → Guarded (plug f s) → s ≡ under (delimitation d) c → fitting (f ∷ w) ≡ true
unfolding on_kind passed plug fitting open_kinds
fits_above (inside (receive p o ws)) w s d c v g e = never v
fits_above (inside (wait n)) w s d c v g e = never v
fits_above (inside protection) w s d c v g e = refl
fits_above (inside (delimitation x)) w s d c v g e = refl
fits_above (inside replication) w s d c v g e = never v
fits_above (left_of parallel r) w s d c v g e = refl
fits_above (left_of choice r) w s d c v g e = never (rw e at g.0.0)
fits_above (right_of parallel r) w s d c v g e = refl
fits_above (right_of choice r) w s d c v g e = never (rw e at g.0.1)

module _ (t : Term) (w : Within t) (a : ℕ) where
  lift_fine : (f : Frame) (v : Way) (d : ℕ) → way_to t a ≡ f ∷ v → sub t a ≡ under (delimitation d) (below (sub t a))
      → fine (accept (after_extrude d t a)) ≡ leb (length v + suc (depth (plug f (below (sub t a))))) max_depth
  unfolding after_extrude exchange fill depth size
  lift_fine f v d e q =
      let body = below (sub t a) in
      let new = under (delimitation d) (plug f body) in
      let old : fill v (plug f (sub t a)) ≡ t = ap (λ x. fill x (sub t a)) (sym e) ∙ fill_spot t a in
      let is : exchange d body (way_to t a) ≡ fill v new = ap (exchange d body) e in
      let few : size (fill v new) ≤ max_records = omega (arith, size-swap v (plug f (sub t a)) new, size_frame f body (sub t a), ap size q, ap size old, w.small) in
      rw is
      (same_test
      (λ y. let (s, es, h, k) = fine_accepts (accept (fill v new)) y in
      let z : fill v new ≡ s = cc in
      le-leb (length v + suc (depth (plug f body))) max_depth (omega (arith, ap depth z, depth_part v new)))
      (λ y. accepts_fine (accept (fill v new)) (fill v new) refl few
      (depth_most v (plug f (sub t a)) new max_depth (omega (arith, ap depth old, w.shallow)) (leb-true (length v + suc (depth (plug f body))) max_depth y))))

  lift_open : (d : ℕ) → seen (prefixed delimits) t a ≡ some d → (v : Way) → way_to t a ≡ v
      → fine (forbid 18 (place_if (label d || not (fitting v)) a) >> accept (after_extrude d t a)) ≡ (not (label d) && lifts v (below (sub t a)))
  unfolding fitting lifts forbid place_if ◌>>◌ fine live every
  lift_open d e [] q = go (label d)
    where
      go : (b : Bool) → fine (forbid 18 (place_if (b || true) a) >> accept (after_extrude d t a)) ≡ (not b && false)
      go true = refl
      go false = refl
  lift_open d e (f ∷ v) q =
      let x = seen-prefix delimits delimitation (λ u. (looks u).delimiting) t a d e in
      let (_, _, at) = above_at t a f v (sub t a) (x.at.placed, refl, q) in
      let g : Guarded (plug f (sub t a)) = subst Guarded at.1 (guarded_at t (length (ahead v)) w.formed.guarded) in
      let live-f = (and_true (on_kind live_kind f) _ (ap live (sym q) ∙ x.live)).0 in
      rw (fits_above f v (sub t a) d (below (sub t a)) live-f g x.at.stands) (go (label d) (lift_fine f v d q x.at.stands))
    where
      go : (b : Bool) → fine (accept (after_extrude d t a)) ≡ leb (length v + suc (depth (plug f (below (sub t a))))) max_depth
          → fine (forbid 18 (place_if (b || false) a) >> accept (after_extrude d t a)) ≡ (not b && leb (length v + suc (depth (plug f (below (sub t a))))) max_depth)
      go true h = refl
      go false h = h

  pub extrude_open : is_open t (Extrude a) ≡ found_with (λ d. not (label d) && lifts (way_to t a) (below (sub t a))) (seen (prefixed delimits) t a)
  unfolding is_open successor extrude_at wanted seen found_with need ◌>>=◌ fine
  extrude_open = go (only (ltb a (size t) && live (way_to t a)) (prefixed delimits (sub t a))) refl
    where
      go : (o : Option ℕ) → seen (prefixed delimits) t a ≡ o
          → fine (need 11 a o >>= (λ d. forbid 18 (place_if (label d || not (fitting (way_to t a))) a) >> accept (after_extrude d t a)))
          ≡ found_with (λ d. not (label d) && lifts (way_to t a) (below (sub t a))) o
      go none e = refl
      go (some d) e = lift_open d e (way_to t a) refl
