-- Kinds: document 01's table of kinds, a row for each, with what its other sections ask of a kind (01, Records, Live and ready, Moves; load, demand 3).
-- All that is asked of a kind by its number is read off its row.
use Rattle.std.specs.Prelude.{Bool, true, false, not, ◌&&◌, List, [], ◌∷◌, ℕ, leb, ltb, eqb, get_or, take, drop}
use Rattle.cows.specs.Limits.{no_interval, max_slots}
use Rattle.cows.specs.Basics.{every, member}
use Rattle.cows.specs.Terms.{Basic, nil, kill, invoke, Prefix, receive, wait, protection, delimitation, replication, Join, choice, parallel, Term, leaf, under, both, value, variable, label, datum, atom}

-- One record without its children; the first record of a term.
pub data Node : Type 0 where
  basic : Basic → Node
  prefix : Prefix → Node
  join : Join → Node

unfoldable pub root : Term → Node
root (leaf x) = basic x
root (under u t) = prefix u
root (both j s t) = join j

-- The number of a record's kind.
abbrev pub kind : Node → ℕ
kind (basic nil) = 0
kind (basic (kill k)) = 1
kind (basic (invoke p o ws)) = 2
kind (prefix (receive p o ws)) = 3
kind (prefix (wait n)) = 4
kind (join choice) = 5
kind (join parallel) = 6
kind (prefix protection) = 7
kind (prefix (delimitation d)) = 8
kind (prefix replication) = 9

unfoldable pub kind_of : Term → ℕ
kind_of t = kind (root t)

-- What a field may hold: nothing; an interval; no variable twice.
unfoldable pub unused : ℕ → Bool
unused n = eqb n 0

unfoldable pub interval : ℕ → Bool
interval n = ltb n no_interval

unfoldable pub distinct : List ℕ → Bool
distinct [] = true
distinct (w ∷ ws) = not (variable w && member w ws) && distinct ws

-- A tuple of n of the four slots: at most 4 data in use, and zeros from the count on.
unfoldable pub data4 : ℕ → List ℕ → Bool
data4 n ws = leb n max_slots && every datum (take n ws) && every unused (drop n ws)

unfoldable pub pattern4 : ℕ → List ℕ → Bool
pattern4 n ws = data4 n ws && distinct (take n ws)

unfoldable pub empty4 : ℕ → List ℕ → Bool
empty4 n ws = unused n && every unused ws

-- What a record may hold: its two atoms, its tuple by the count and the four slots, its interval.
pub record Contents : Type 0 where
  pub first : ℕ → Bool
  pub second : ℕ → Bool
  pub tuple : ℕ → List ℕ → Bool
  pub interval : ℕ → Bool

abbrev pub may : (first second : ℕ → Bool) → (ℕ → List ℕ → Bool) → (ℕ → Bool) → Contents
may a b c d = record { first = a; second = b; tuple = c; interval = d }

-- A row: the number of children; whether the way to a live record may pass such a record, and that to a ready one; whether it is a guard; whether a delimitation
-- may float over it; what it counts in the load; what it may hold.
pub record Row : Type 0 where
  pub children : ℕ
  pub live : Bool
  pub ready : Bool
  pub guard : Bool
  pub floats : Bool
  pub weight : ℕ
  pub holds : Contents

abbrev row : ℕ → (live ready guard floats : Bool) → ℕ → Contents → Row
row c l r g f w h = record { children = c; live = l; ready = r; guard = g; floats = f; weight = w; holds = h }

abbrev no : Bool
no = false

abbrev yes : Bool
yes = true

unfoldable pub kinds : List Row
kinds =
    -- children, live, ready, guard, floats, weight, and the contents: first, second, tuple, interval
    row 0 no no yes no 0 (may unused unused empty4 unused)  -- 0 nil
    ∷ row 0 no no no no 1 (may label unused empty4 unused)  -- 1 kill
    ∷ row 0 no no no no 1 (may datum datum data4 unused)  -- 2 invoke
    ∷ row 1 no no yes no 1 (may value value pattern4 unused)  -- 3 receive
    ∷ row 1 no no yes no 1 (may unused unused empty4 interval)  -- 4 wait
    ∷ row 2 yes yes yes no 0 (may unused unused empty4 unused)  -- 5 choice
    ∷ row 2 yes yes no yes 0 (may unused unused empty4 unused)  -- 6 parallel
    ∷ row 1 yes yes no yes 0 (may unused unused empty4 unused)  -- 7 protection
    ∷ row 1 yes yes no yes 0 (may atom unused empty4 unused)  -- 8 delimitation
    ∷ row 1 no yes no no 0 (may unused unused empty4 unused)  -- 9 replication
    ∷ []

-- The row of a kind. A kind from 10 on is unknown: no record of it is right, and nothing else holds of it; that it has a child is fixed here, for the one function
-- that counts children.
unfoldable pub row_of : ℕ → Row
row_of k = get_or kinds k (row 1 no no no no 0 (may unused unused empty4 unused))

unfoldable pub children_of : ℕ → ℕ
children_of k = (row_of k).children

unfoldable pub live_kind : ℕ → Bool
live_kind k = (row_of k).live

unfoldable pub ready_kind : ℕ → Bool
ready_kind k = (row_of k).ready

unfoldable pub guard_kind : ℕ → Bool
guard_kind k = (row_of k).guard

unfoldable pub floats_over : ℕ → Bool
floats_over k = (row_of k).floats

unfoldable pub weight_of : ℕ → ℕ
weight_of k = (row_of k).weight

-- A guard is a nil, a receive, a wait, or a choice (01, Records).
unfoldable pub guard : Term → Bool
guard t = guard_kind (kind_of t)

-- (for computed checks) to unfold this is to unfold every definition of this file
unfoldable pub open_kinds : Unit {0}
unfolding root kind_of unused interval distinct data4 pattern4 empty4 kinds row_of children_of live_kind ready_kind guard_kind floats_over weight_of guard
open_kinds = tt
