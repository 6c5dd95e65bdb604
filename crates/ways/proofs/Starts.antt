-- The whole choice around a place, and the scopes around it: where they begin, and what stands there.
use mathlib.Core.Path.{◌≡◌, refl, sym, ap, ◌∙◌}
use mathlib.Core.Bool.{Bool, true, false, cond, ◌||◌}
use mathlib.Core.Option.{some}
use mathlib.Core.List.{[], ◌∷◌}
use Prim.Native.Nat.{ℕ, ◌+◌, ◌≤◌, ◌<◌}
use native.Mathlib.Omega.{arith}
use lib.ListN.{length}
use Rattle.cows.specs.Basics.{any, found}
use Rattle.cows.specs.Terms.{Term, under, size, delimitation, delimits_at, below}
use Rattle.cows.specs.Places.{plug, Way, fill, sub, frame_delimits, enclosed, frame_chooses}
use Rattle.cows.specs.Moves.{around_choice}
use Rattle.cows.proofs.Basics.{same_some}
use Rattle.cows.specs.Records.{At, ahead}
use Rattle.cows.proofs.Reach.{delimits_at_is}
use Rattle.cows.proofs.Ways.{above_at}
use Rattle.ways.specs.Ways.{start_of, scope_of}
use Rattle.ways.proofs.Frames.{frame_delimits_lem}

-- The choice around the term s at place n begins at place c, and is s in the frames of `choices`.
pub record Start (t : Term) (n : ℕ) (w : Way) (s : Term) (c : ℕ) : Type 0 where
  pub choices : Way
  pub low : c ≤ n
  pub ends : n + size s ≤ c + size (fill choices s)
  pub at : At t c (around_choice w) (fill choices s)

pub start_at : (t : Term) (n : ℕ) (w : Way) (s : Term) → At t n w s → Start t n w s (start_of n w)
unfolding start_of around_choice fill
start_at t n [] s h = record { choices = []; low = omega arith; ends = omega arith; at = h }
start_at t n (f ∷ w) s h =
    let (l, k, g) = above_at t n f w s h in
    go (frame_chooses f) refl l k (start_at t (length (ahead w)) w (plug f s) g)
  where
    go : (b : Bool) → frame_chooses f ≡ b → length (ahead w) < n → n + size s ≤ length (ahead w) + size (plug f s) → Start t (length (ahead w)) w (plug f s) (start_of (length (ahead w)) w)
        → Start t n (f ∷ w) s (start_of n (f ∷ w))
    go true e l k r = rw e (record { choices = f ∷ r.choices; low = omega (arith, r.low); ends = omega (arith, r.ends); at = rw e r.at })
    go false e l k r = rw e (record { choices = []; low = omega arith; ends = omega arith; at = rw e h })

-- The delimitation of d at place p encloses the term s at place n.
pub record Scope (t : Term) (n : ℕ) (s : Term) (d p : ℕ) : Type 0 where
  pub before : p < n
  pub ends : n + size s ≤ p + size (sub t p)
  pub inside : p < size t
  pub stands : sub t p ≡ under (delimitation d) (below (sub t p))

pub scope_at : (t : Term) (n : ℕ) (w : Way) (s : Term) (d p : ℕ) → At t n w s → scope_of d w ≡ some p → Scope t n s d p
unfolding scope_of
scope_at t n [] s d p h e = absurd (let z : ◌≡◌ {A = ℕ} 0 1 = cc in omega arith)
scope_at t n (f ∷ w) s d p h e =
    let (l, k, g) = above_at t n f w s h in
    go (frame_delimits d f) refl l k g e (scope_at t (length (ahead w)) w (plug f s) d p g)
  where
    go : (b : Bool) → frame_delimits d f ≡ b → length (ahead w) < n → n + size s ≤ length (ahead w) + size (plug f s) → At t (length (ahead w)) w (plug f s)
        → cond b (some (length (ahead w))) (scope_of d w) ≡ some p → (scope_of d w ≡ some p → Scope t (length (ahead w)) (plug f s) d p) → Scope t n s d p
    go true b l k g q r =
        let z : length (ahead w) ≡ p = same_some q in
        let y : sub t p ≡ plug f s = ap (sub t) (sym z) ∙ g.1 in
        record {
          before = omega arith;
          ends = omega (arith, ap size y);
          inside = omega (arith, g.0);
          stands = delimits_at_is d (sub t p) (ap (delimits_at d) y ∙ (sym (frame_delimits_lem d f s) ∙ b));
        }
    go false b l k g q r = let x = r q in record { before = omega (arith, x.before); ends = omega (arith, x.ends); inside = x.inside; stands = x.stands }

-- there is one exactly if the atom is enclosed
pub scope_found : (d : ℕ) (w : Way) → enclosed d w ≡ found (scope_of d w)
unfolding scope_of enclosed any found
scope_found d [] = refl
scope_found d (f ∷ w) = go (frame_delimits d f) (scope_found d w)
  where
    go : (b : Bool) → any (frame_delimits d) w ≡ found (scope_of d w) → (b || any (frame_delimits d) w) ≡ found (cond b (some (length (ahead w))) (scope_of d w))
    go true e = refl
    go false e = e
