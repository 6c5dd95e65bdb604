-- The way from the root down to a place, a record at a time, and what it says of the place.
use Rattle.std.specs.Prelude.{◌≡◌, Bool, true, false, cond, ◌&&◌, List, [], ◌∷◌, ℕ, ◌+◌, ◌≤◌, ◌<◌, ltb, eqb, length}
use mathlib.Core.Option.{Option, none, some}
use Rattle.cows.specs.Terms.{Term, size}
use Rattle.cows.specs.Kinds.{kind_of}
use Rattle.cows.specs.Places.{Frame, plug, Way, way_to, sub, frame_delimits, frame_chooses}
use Rattle.cows.specs.Active.{live}
use Rattle.cows.specs.Records.{ahead}
use Rattle.records.specs.Holds.{Holds}
use Rattle.ways.specs.declared.Place.{Place}
use Rattle.std.specs.Prelude as rust
use Rattle.std.specs.Prelude.{Some, None}

-- The term at place p holds place a: p is a itself or a record on the way to it.
pub record Over (t : Term) (p a : ℕ) : Type 0 where
  pub inside : p < size t
  pub low : p ≤ a
  pub over : a < p + size (sub t p)

-- Of a test of the records above place a on the way down to it: the first that passes, or that none does.
pub record FirstAbove (test : ℕ → Bool → Type 0) (t : Term) (a : ℕ) (r : rust.Option ℕ) : Type 0 where
  pub none : r ≡ None → (p : ℕ) → Over t p a → p < a → test p false
  pub some : (p : ℕ) → r ≡ Some p → Over t p a × (p < a) × test p true × ((q : ℕ) → Over t q a → q < p → test q false)

-- From place p the way to place a goes on to place q, in a frame of the record at p.
pub record Step (t : Term) (p a q : ℕ) : Type 0 where
  pub frame : Frame
  pub way : way_to t q ≡ frame ∷ way_to t p
  pub stands : sub t p ≡ plug frame (sub t q)
  pub further : p < q
  pub over : Over t q a

-- where the whole choice around a place begins, and where the nearest delimitation of an atom on a way stands
unfoldable pub start_of : ℕ → Way → ℕ
start_of a [] = a
start_of a (f ∷ w) = cond (frame_chooses f) (start_of (length (ahead w)) w) a

unfoldable pub scope_of : ℕ → Way → Option ℕ
scope_of d [] = none
scope_of d (f ∷ w) = cond (frame_delimits d f) (some (length (ahead w))) (scope_of d w)

-- where the record above stands, by the way to a place (0 at the root)
unfoldable pub parent_of : Way → ℕ
parent_of [] = 0
parent_of (f ∷ w) = length (ahead w)

-- a live record of the kind stands at place a
abbrev pub live_there : Term → ℕ → ℕ → Bool
live_there t a kind = ltb a (size t) && live (way_to t a) && eqb (kind_of (sub t a)) kind

-- What is said of place a: such a record stands there, or none does.
pub record LivePlace (t : Term) (a kind : ℕ) (p : Place) : Type 0 where
  pub told : live_there t a kind ≡ true
  pub above_is : p.above ≡ length (way_to t a)
  pub parent_is : p.parent ≡ parent_of (way_to t a)
  pub start_is : p.start ≡ start_of a (way_to t a)

pub record Placed (t : Term) (a kind : ℕ) (r : rust.Option Place) : Type 0 where
  pub none : r ≡ None → live_there t a kind ≡ false
  pub some : (p : Place) → r ≡ Some p → LivePlace t a kind p

-- The table s holds t, and such a record stands there.
pub record LiveAt (s : List ℕ) (t : Term) (a kind : ℕ) : Type 0 where
  pub holds : Holds s t
  pub inside : a < size t
  pub live : live (way_to t a) ≡ true
  pub kind_is : kind_of (sub t a) ≡ kind
