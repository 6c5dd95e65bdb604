-- The live waits of a term: their places, and a buffer that lists them, two bytes each.
use Rattle.std.specs.Prelude.{◌≡◌, cond, ℕ, suc, ◌+◌, length}
use mathlib.Core.List.{List, [], ◌∷◌, ◌++◌, flat_map}
use Rattle.cows.specs.Basics.{found}
use Rattle.cows.specs.Terms.{Prefix, Term, leaf, under, both, size, waits}
use Rattle.cows.specs.Kinds.{prefix, kind, live_kind}
use Rattle.cows.specs.Format.{bytes2}
use Rattle.records.specs.Rewrites.{Has, StandsIn}

-- a wait at place p, if the record there is one
unfoldable pub wait_at : ℕ → Prefix → List ℕ
wait_at p u = cond (found (waits u)) (p ∷ []) []

-- the places of the live waits of a term whose first record is at place p, in order: those that time lowers (cows, elapse)
unfoldable pub waits_from : ℕ → Term → List ℕ
waits_from p (leaf x) = []
waits_from p (under u t) = wait_at p u ++ cond (live_kind (kind (prefix u))) (waits_from (suc p) t) []
waits_from p (both j s t) = waits_from (suc p) s ++ waits_from (suc p + size s) t

unfoldable pub wait_places : Term → List ℕ
wait_places t = waits_from 0 t

-- The first w numbers in a buffer are the places.
pub record Lists (list : List ℕ) (w : ℕ) (places : List ℕ) : Type 0 where
  pub count : w ≡ length places
  pub stand : Has list 0 (flat_map bytes2 places)

-- The table of some term stands at the start of t, and the first w numbers of the list are the places of its live waits.
pub record Listed (t list : List ℕ) (w : ℕ) : Type 0 where
  pub term : Term
  pub stands : StandsIn t 0 term
  pub lists : Lists list w (wait_places term)
