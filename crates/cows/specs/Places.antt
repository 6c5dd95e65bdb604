-- Places: a table's records counted from 0 in prefix order, the way from the root to each, and the search for the first of them.
use Rattle.std.specs.Prelude.{Bool, true, false, cond, ◌&&◌, List, [], ◌∷◌, ℕ, zero, suc, ◌+◌, ◌-◌, ltb}
use mathlib.Core.Option.{Option}
use Rattle.cows.specs.Basics.{any, first_from}
use Rattle.cows.specs.Terms.{Prefix, Join, choice, parallel, Term, leaf, under, both, size, delimits_atom}
use Rattle.cows.specs.Kinds.{Node, prefix, join}

-- A frame is a record passed on the way down, with the child that is not taken.
pub data Frame : Type 0 where
  inside : Prefix → Frame
  left_of : Join → Term → Frame
  right_of : Join → Term → Frame

-- the record passed
unfoldable pub passed : Frame → Node
passed (inside u) = prefix u
passed (left_of j t) = join j
passed (right_of j s) = join j

-- the term that a frame makes of the child on the way
unfoldable pub plug : Frame → Term → Term
plug (inside u) s = under u s
plug (left_of j t) s = both j s t
plug (right_of j s) t = both j s t

-- A way is the frames from the root to a record, the nearest first; filled, it is a term again.
abbrev pub Way : Type 0
Way = List Frame

unfoldable pub fill : Way → Term → Term
fill [] s = s
fill (f ∷ w) s = fill w (plug f s)

-- A place of a term: the way to it, and the record there with what is below it.
pub record Spot : Type 0 where
  pub way : Way
  pub here : Term

-- down from a term whose own way is w, by n records in prefix order
unfoldable pub descend : Way → Term → ℕ → Spot
descend w (leaf x) n = record { way = w; here = leaf x }
descend w (under u t) zero = record { way = w; here = under u t }
descend w (under u t) (suc n) = descend (inside u ∷ w) t n
descend w (both j s t) zero = record { way = w; here = both j s t }
descend w (both j s t) (suc n) =
    cond (ltb n (size s)) (descend (left_of j t ∷ w) s n) (descend (right_of j s ∷ w) t (n - size s))

unfoldable pub spot_at : Term → ℕ → Spot
spot_at t n = descend [] t n

unfoldable pub way_to : Term → ℕ → Way
way_to t n = (spot_at t n).way

unfoldable pub sub : Term → ℕ → Term
sub t n = (spot_at t n).here

-- The first place of a table at which a test holds, of the place and of what is found there.
unfoldable pub first : (ℕ → Spot → Bool) → Term → Option ℕ
first f t = first_from (λ n. f n (spot_at t n)) 0 (size t)

-- The record s at place n encloses place a: a stands below it.
unfoldable pub encloses : ℕ → Term → ℕ → Bool
encloses n s a = ltb n a && ltb a (n + size s)

-- a frame that is a delimitation of an atom; an atom whose delimitation is on the way
unfoldable pub frame_delimits : ℕ → Frame → Bool
frame_delimits d (inside u) = delimits_atom d u
frame_delimits d (left_of j t) = false
frame_delimits d (right_of j s) = false

unfoldable pub enclosed : ℕ → Way → Bool
enclosed d w = any (frame_delimits d) w

-- a frame that is a choice
unfoldable pub frame_chooses : Frame → Bool
frame_chooses (inside u) = false
frame_chooses (left_of choice t) = true
frame_chooses (left_of parallel t) = false
frame_chooses (right_of choice s) = true
frame_chooses (right_of parallel s) = false

-- (for computed checks) to unfold this is to unfold every definition of this file
unfoldable pub open_places : Unit {0}
unfolding passed plug fill descend spot_at way_to sub first encloses frame_delimits enclosed frame_chooses
open_places = tt
