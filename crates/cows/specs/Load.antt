-- Load (demand 3): the kills, invokes, receives and waits written anywhere in a table or body; and what each move takes out of it.
use Rattle.std.specs.Prelude.{cond, [], ◌∷◌, ℕ, ◌+◌, ◌-◌}
use mathlib.Core.Option.{Option, none, some}
use Rattle.cows.specs.Terms.{Prefix, receive, wait, protection, delimitation, replication, Join, choice, parallel, Term, leaf, under, both, kills, below}
use Rattle.cows.specs.Kinds.{basic, prefix, join, kind, weight_of}
use Rattle.cows.specs.Places.{Frame, inside, left_of, right_of, Way, way_to, sub, frame_delimits, frame_chooses}
use Rattle.cows.specs.Moves.{Move, Kill, Communicate, Timeout, Elapse, Unfold, Extrude, silence}

unfoldable pub load : Term → ℕ
load (leaf x) = weight_of (kind (basic x))
load (under u t) = weight_of (kind (prefix u)) + load t
load (both j s t) = weight_of (kind (join j)) + (load s + load t)

-- What of a term is protected: the load of the protections reached from its root through parallels, delimitations and replications only.
unfoldable pub shielded_under : Prefix → ℕ → ℕ → ℕ
shielded_under (receive p o ws) l r = 0
shielded_under (wait n) l r = 0
shielded_under protection l r = l
shielded_under (delimitation d) l r = r
shielded_under replication l r = r

unfoldable pub shielded_both : Join → ℕ → ℕ
shielded_both choice n = 0
shielded_both parallel n = n

unfoldable pub shielded : Term → ℕ
shielded (leaf x) = 0
shielded (under u t) = shielded_under u (load t) (shielded t)
shielded (both j s t) = shielded_both j (shielded s + shielded t)

-- What a kill of k ends besides itself: at each parallel of its way inside [k], what of the other side is not protected.
unfoldable pub ended_beside : Frame → ℕ
ended_beside (inside u) = 0
ended_beside (left_of choice t) = 0
ended_beside (left_of parallel t) = load t - shielded t
ended_beside (right_of choice s) = 0
ended_beside (right_of parallel s) = load s - shielded s

unfoldable pub ended_inside : ℕ → Way → ℕ
ended_inside k [] = 0
ended_inside k (f ∷ w) = cond (frame_delimits k f) 0 (ended_beside f + ended_inside k w)

unfoldable pub ended_by : Option ℕ → Way → ℕ
ended_by none w = 0
ended_by (some k) w = ended_inside k w

-- What a choice drops: the load of the arms not taken, of the whole choice around a guard.
unfoldable pub arm : Frame → ℕ
arm (inside u) = 0
arm (left_of j t) = load t
arm (right_of j s) = load s

unfoldable pub dropped : Way → ℕ
dropped [] = 0
dropped (f ∷ w) = cond (frame_chooses f) (arm f + dropped w) 0

-- The load that a move on the table t takes out besides the records that move.
unfoldable pub lost : Term → Move → ℕ
lost t (Kill a) = ended_by (kills (sub t a)) (way_to t a)
lost t (Communicate a b) = dropped (way_to (silence t b) a)
lost t (Timeout a) = dropped (way_to t a)
lost t (Elapse d) = 0
lost t (Unfold a) = 0
lost t (Extrude a) = 0

-- What the records that move weigh, and the load that a move copies: the body's, of an unfolding.
unfoldable pub spent : Move → ℕ
spent (Kill a) = 1
spent (Communicate a b) = 2
spent (Timeout a) = 1
spent (Elapse d) = 0
spent (Unfold a) = 0
spent (Extrude a) = 0

unfoldable pub copies : Term → Move → ℕ
copies t (Kill a) = 0
copies t (Communicate a b) = 0
copies t (Timeout a) = 0
copies t (Elapse d) = 0
copies t (Unfold a) = load (below (sub t a))
copies t (Extrude a) = 0

-- (for computed checks) to unfold this is to unfold every definition of this file
unfoldable pub open_load : Unit {0}
unfolding load shielded_under shielded_both shielded ended_beside ended_inside ended_by arm dropped lost spent copies
open_load = tt
