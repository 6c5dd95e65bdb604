-- One dome-close for several blocks (request 2026-06): the kills at the places of a list, fired as one step on any table. A kill is the request's stop, and its scope
-- is the delimitation of its label around it.
use Rattle.std.specs.Prelude.{Bool, cond, ◌||◌, List, [], ◌∷◌, ◌++◌, map, ℕ, ◌*◌, ltb, eqb, length}
use mathlib.Core.Option.{Option, none}
use Rattle.cows.specs.Basics.{any, place_if, or_else, Result, refuse, accept, ◌>>=◌, ◌>>◌, forbid}
use Rattle.cows.specs.Terms.{nil, kill, invoke, Prefix, Term, leaf, under, both, size, kills, delimits_atom}
use Rattle.cows.specs.Places.{Way, fill, way_to, sub, frame_delimits, enclosed}
use Rattle.cows.specs.Active.{wanted}
use Rattle.cows.specs.Tables.{judge}
use Rattle.cows.specs.Moves.{halt_beside}
use Rattle.cows.specs.Step.{Reply, reply_to, written}
use Rattle.cows.specs.Run.{Tally, counted, no_tally}

-- A joint step has 1 to 8 kills. 25: none, or more.
abbrev pub max_kills : ℕ
max_kills = 8

unfoldable pub wrong_number : List ℕ → Bool
wrong_number ps = eqb (length ps) 0 || ltb max_kills (length ps)

-- 11: the first listed that is no live kill, as in the single move.
unfoldable pub all_live : Term → List ℕ → Result (Unit {0})
all_live t [] = accept tt
all_live t (a ∷ ps) = do
  k ← wanted kills t a
  all_live t ps

-- the label of the kill at place a (0, which is no atom, of any other record)
unfoldable pub label_of : Term → ℕ
label_of (leaf nil) = 0
label_of (leaf (kill k)) = k
label_of (leaf (invoke p o ws)) = 0
label_of (under u t) = 0
label_of (both j s t) = 0

unfoldable pub label_at : Term → ℕ → ℕ
label_at t a = label_of (sub t a)

-- Two kills clash if the scope of one lies inside the other's, or is the same: the [k] of one of them encloses the other. (A kill stands inside its own [k], so
-- that a place listed twice clashes with itself.)
unfoldable pub clash : Term → ℕ → ℕ → Bool
clash t a b = enclosed (label_at t a) (way_to t b) || enclosed (label_at t b) (way_to t a)

-- 26: the first listed that clashes with another, listed before it or behind it.
unfoldable pub first_clash : Term → (before behind : List ℕ) → Option ℕ
first_clash t before [] = none
first_clash t before (a ∷ ps) = or_else (place_if (any (clash t a) (before ++ ps)) a) (first_clash t (before ++ (a ∷ [])) ps)

-- What a kill leaves: its label k, and what becomes of the term inside [k], where all that is parallel to the kill on the way down to it is halted. Outside of [k]
-- nothing changes.
abbrev pub Outcome : Type 0
Outcome = ℕ × Term

unfoldable pub halt_scope : ℕ → Way → Way
halt_scope k [] = []
halt_scope k (f ∷ w) = cond (frame_delimits k f) [] (halt_beside f ∷ halt_scope k w)

unfoldable pub outcome : Term → ℕ → Outcome
outcome t a = (label_at t a, fill (halt_scope (label_at t a) (way_to t a)) (leaf nil))

-- The joint successor, in one walk: inside each [k] of a listed kill what that kill leaves, and all else as it is.
unfoldable pub becomes : Prefix → List Outcome → Term → Term
becomes u [] t = t
becomes u (o ∷ os) t = cond (delimits_atom o.0 u) o.1 (becomes u os t)

unfoldable pub settle : List Outcome → Term → Term
settle os (leaf x) = leaf x
settle os (under u t) = under u (becomes u os (settle os t))
settle os (both j s t) = both j (settle os s) (settle os t)

unfoldable pub after_joint : Term → List ℕ → Term
after_joint t ps = settle (map (outcome t) ps) t

-- 25, 11 and 26 in this order, or the successor.
unfoldable pub joint_at : Term → List ℕ → Result Term
joint_at t ps = do
  forbid 25 (place_if (wrong_number ps) 0)
  all_live t ps
  forbid 26 (first_clash t [] ps)
  accept (after_joint t ps)

-- Then 21: an output of so many bytes, shorter than the successor. (20 cannot be: no table grows by a kill.)
unfoldable pub joint_term : Term → List ℕ → ℕ → Result Term
joint_term t ps room = do
  s ← joint_at t ps
  forbid 21 (place_if (ltb room (16 * size s)) 0)
  accept s

-- On any bytes: the table's refusals first.
unfoldable pub judge_joint : (table ps : List ℕ) → (room : ℕ) → Result Term
judge_joint table ps room = do
  t ← judge table
  joint_term t ps room

-- the reply; the output as it then is; the tally, which counts the kills that fired
unfoldable pub joint_reply : (table ps out : List ℕ) → Reply
joint_reply table ps out = reply_to (judge_joint table ps (length out))

unfoldable pub joint_output : (table ps out : List ℕ) → List ℕ
joint_output table ps out = written (judge_joint table ps (length out)) out

unfoldable pub tally_for : List ℕ → Result Term → Tally
tally_for ps (refuse n p) = no_tally
tally_for ps (accept s) = counted 0 (length ps) 0 0

unfoldable pub joint_tally : (table ps out : List ℕ) → Tally
joint_tally table ps out = tally_for ps (judge_joint table ps (length out))

-- (for computed checks) to unfold this is to unfold every definition of this file
unfoldable pub open_joint : Unit {0}
unfolding wrong_number all_live label_of label_at clash first_clash halt_scope outcome becomes settle after_joint joint_at joint_term judge_joint joint_reply joint_output tally_for joint_tally
open_joint = tt
