-- The six moves (01, Moves): what each asks, with refusals 11 to 18 in their order, and the successor.
-- Names of the calculus stand for the paper's: kill (stop fires), communicate (meeting), timeout (expiry), elapse (time), unfold (unfolding), extrude (floating).
use Rattle.std.specs.Prelude.{Bool, false, cond, not, ◌&&◌, ◌||◌, List, [], ◌∷◌, map, ℕ, zero, suc, ◌+◌, ◌-◌, ltb, eqb, length}
use Rattle.cows.specs.Limits.{first_variable, first_label}
use Rattle.cows.specs.Basics.{any, every, member, found_with, found, place_if, Result, refuse, accept, ◌>>=◌, ◌>>◌, forbid}
use Rattle.cows.specs.Terms.{Basic, nil, kill, invoke, Prefix, receive, wait, protection, delimitation, replication, Join, choice, parallel, Term, leaf, under, both, Action, value, variable, label, atoms, binders, kills, invokes, prefixed, receives, waits, delimits, replicates, delimits_atom, delimits_at, below}
use Rattle.cows.specs.Places.{Frame, inside, left_of, right_of, plug, Way, fill, Spot, way_to, sub, first, encloses, frame_delimits, enclosed, frame_chooses}
use Rattle.cows.specs.Kinds.{Node, basic, prefix, join, kind, live_kind, floats_over}
use Rattle.cows.specs.Active.{on_kind, ready, wanted}
pub use Rattle.cows.specs.Proposed.{Substitution, Move, Kill, Communicate, Timeout, Elapse, Unfold, Extrude}

-- Kill. Halting (001) makes nil of kills, invokes and whole choices, receives and waits; it goes down both sides of a parallel,
-- through each delimitation and each replication, and keeps a protection whole.
unfoldable pub halt_under : Prefix → Term → Term → Term
halt_under (receive p o ws) t h = leaf nil
halt_under (wait n) t h = leaf nil
halt_under protection t h = under protection t
halt_under (delimitation d) t h = under (delimitation d) h
halt_under replication t h = under replication h

unfoldable pub halt_both : Join → Term → Term → Term
halt_both choice s t = leaf nil
halt_both parallel s t = both parallel s t

unfoldable pub halt : Term → Term
halt (leaf x) = leaf nil
halt (under u t) = halt_under u t (halt t)
halt (both j s t) = halt_both j (halt s) (halt t)

-- at a parallel on the way, the other side is halted
unfoldable pub halt_beside : Frame → Frame
halt_beside (inside u) = inside u
halt_beside (left_of choice t) = left_of choice t
halt_beside (left_of parallel t) = left_of parallel (halt t)
halt_beside (right_of choice s) = right_of choice s
halt_beside (right_of parallel s) = right_of parallel (halt s)

-- the same at each record of the way that stands inside [k]
unfoldable pub halt_inside : ℕ → Way → Way
halt_inside k [] = []
halt_inside k (f ∷ w) = cond (frame_delimits k f) (f ∷ w) (halt_beside f ∷ halt_inside k w)

-- The kill at place a becomes nil, and inside [k] what is parallel to it is halted.
unfoldable pub after_kill : ℕ → Term → ℕ → Term
after_kill k t a = fill (halt_inside k (way_to t a)) (leaf nil)

unfoldable pub kill_at : Term → ℕ → Result Term
kill_at t a = do
  k ← wanted kills t a
  accept (after_kill k t a)

-- Communicate. What differs, in the order in which it is looked for: a variable in the message, the endpoint, the tuples' counts, the value in a slot (from 0).
pub data Mismatch : Type 0 where
  unset_variable : Mismatch
  other_endpoint : Mismatch
  other_count : Mismatch
  other_value : ℕ → Mismatch

-- What matching says: the tuples match and bind these variables, or this differs.
pub data Matching : Type 0 where
  binds : Substitution → Matching
  differs : Mismatch → Matching

-- a test before the rest of a matching, and what differs if it fails; a variable that takes a value besides
unfoldable pub provided : Bool → Mismatch → Matching → Matching
provided test d rest = cond test rest (differs d)

unfoldable pub besides : ℕ → ℕ → Matching → Matching
besides w v (binds σ) = binds ((w, v) ∷ σ)
besides w v (differs d) = differs d

-- The slots of two tuples of one count, from the n-th on: a pattern variable takes the value at its place; a value equals the value sent.
unfoldable pub match : ℕ → List ℕ → List ℕ → Matching
match n [] vs = binds []
match n (w ∷ ws) [] = binds []
match n (w ∷ ws) (v ∷ vs) = let rest = match (suc n) ws vs in cond (variable w) (besides w v rest) (provided (eqb w v) (other_value n) rest)

-- The receive r fits the invoke m: m holds no variable; endpoints and tuple counts are equal; so is each value in the pattern to the value sent.
unfoldable pub closed_action : Action → Bool
closed_action m = not (any variable (m.partner ∷ m.operation ∷ m.tuple))

unfoldable pub fit : Action → Action → Matching
fit r m =
    provided (closed_action m) unset_variable
    (provided (eqb r.partner m.partner && eqb r.operation m.operation) other_endpoint
    (provided (eqb (length r.tuple) (length m.tuple)) other_count (match 0 r.tuple m.tuple)))

-- 12: its place says what differs (2026-02): 0 an unset variable, 1 the endpoint, 2 the count, 3 to 6 the first of the slots one to four whose value differs.
unfoldable pub mismatch_number : Mismatch → ℕ
mismatch_number unset_variable = 0
mismatch_number other_endpoint = 1
mismatch_number other_count = 2
mismatch_number (other_value n) = 3 + n

unfoldable pub matched : Matching → Result Substitution
matched (binds σ) = accept σ
matched (differs d) = refuse 12 (mismatch_number d)

-- 13: the delimitation of a variable encloses both parties, and that of its value, if there is one, the variable's.
-- (A delimitation of x that stands outside every one of v.)
unfoldable pub outside : ℕ → ℕ → ℕ → Spot → Bool
outside v x n z = delimits_at x z.here && not (enclosed v z.way)

unfoldable pub in_scope : Term → ℕ → ℕ → (ℕ × ℕ) → Bool
in_scope t a b p =
    enclosed p.0 (way_to t a) && enclosed p.0 (way_to t b)
    && (not (member p.1 (binders t)) || not (found (first (outside p.1 p.0) t)))

-- 14: a [k] that encloses either party and holds a ready kill of k.
unfoldable pub ready_kill : ℕ → ℕ → Spot → Bool
ready_kill k n z = ready z.way && found_with (eqb k) (kills z.here)

unfoldable pub held_back : ℕ → ℕ → ℕ → Spot → Bool
held_back a b n z =
    (encloses n z.here a || encloses n z.here b)
    && found_with (λ k. found (first (ready_kill k) z.here)) (prefixed delimits z.here)

-- 15: a ready receive that fits the same invoke and has fewer pattern variables.
unfoldable pub fewer : ℕ → Matching → Bool
fewer l (binds σ) = ltb (length σ) l
fewer l (differs d) = false

unfoldable pub tighter : Action → ℕ → ℕ → Spot → Bool
tighter m l n z = ready z.way && found_with (λ r. fewer l (fit r m)) (prefixed receives z.here)

-- the record at place b becomes nil; the one at place a, with the whole choice around it, becomes its continuation
unfoldable pub silence : Term → ℕ → Term
silence t b = fill (way_to t b) (leaf nil)

unfoldable pub around_choice : Way → Way
around_choice [] = []
around_choice (f ∷ w) = cond (frame_chooses f) (around_choice w) (f ∷ w)

unfoldable pub continue : Term → ℕ → Term
continue t a = fill (around_choice (way_to t a)) (below (sub t a))

-- f of every atom, of a record and of a term
unfoldable pub map_basic : (ℕ → ℕ) → Basic → Basic
map_basic f nil = nil
map_basic f (kill k) = kill (f k)
map_basic f (invoke p o ws) = invoke (f p) (f o) (map f ws)

unfoldable pub map_prefix : (ℕ → ℕ) → Prefix → Prefix
map_prefix f (receive p o ws) = receive (f p) (f o) (map f ws)
map_prefix f (wait n) = wait n
map_prefix f protection = protection
map_prefix f (delimitation d) = delimitation (f d)
map_prefix f replication = replication

unfoldable pub map_node : (ℕ → ℕ) → Node → Node
map_node f (basic x) = basic (map_basic f x)
map_node f (prefix u) = prefix (map_prefix f u)
map_node f (join j) = join j

unfoldable pub map_atoms : (ℕ → ℕ) → Term → Term
map_atoms f (leaf x) = leaf (map_basic f x)
map_atoms f (under u t) = under (map_prefix f u) (map_atoms f t)
map_atoms f (both j s t) = both j (map_atoms f s) (map_atoms f t)

unfoldable pub image : Substitution → ℕ → ℕ
image [] a = a
image (p ∷ ps) a = cond (eqb a p.0) p.1 (image ps a)

-- The delimitation of x goes, and throughout it, protected, replicated and dormant parts included, x becomes v.
unfoldable pub instantiate : ℕ → ℕ → Term → Term
instantiate x v (leaf b) = leaf b
instantiate x v (under u t) = cond (delimits_atom x u) (map_atoms (image ((x, v) ∷ [])) t) (under u (instantiate x v t))
instantiate x v (both j s t) = both j (instantiate x v s) (instantiate x v t)

unfoldable pub bind : Substitution → Term → Term
bind [] t = t
bind (p ∷ ps) t = bind ps (instantiate p.0 p.1 t)

unfoldable pub communicate_at : Term → ℕ → ℕ → Result Term
communicate_at t a b = do
  r ← wanted (prefixed receives) t a
  m ← wanted invokes t b
  σ ← matched (fit r m)
  forbid 13 (place_if (not (every (in_scope t a b) σ)) a)
  forbid 14 (first (held_back a b) t)
  forbid 15 (first (tighter m (length σ)) t)
  accept (bind σ (continue (silence t b) a))

-- Timeout. 16: interval not 0.
unfoldable pub timeout_at : Term → ℕ → Result Term
timeout_at t a = do
  i ← wanted (prefixed waits) t a
  forbid 16 (place_if (not (eqb i 0)) a)
  accept (continue t a)

-- Elapse. Each live wait falls by d, and to 0 where it holds less (2026-04): the difference of numbers stops at 0. Waits under replication keep theirs.
unfoldable pub lower : ℕ → Prefix → Prefix
lower d (receive p o ws) = receive p o ws
lower d (wait n) = wait (n - d)
lower d protection = protection
lower d (delimitation a) = delimitation a
lower d replication = replication

unfoldable pub elapse : ℕ → Term → Term
elapse d (leaf x) = leaf x
elapse d (under u t) = under (lower d u) (cond (live_kind (kind (prefix u))) (elapse d t) t)
elapse d (both j s t) = both j (elapse d s) (elapse d t)

-- 17: a time of 0.
unfoldable pub elapse_by : Term → ℕ → Result Term
elapse_by t d = do
  forbid 17 (place_if (eqb d 0) 0)
  accept (elapse d t)

-- Unfold. The smallest atom from n on that is not taken, within so many tries; the first atom of an atom's set.
unfoldable pub first_free : ℕ → ℕ → List ℕ → ℕ
first_free zero n taken = n
first_free (suc tries) n taken = let r = first_free tries (suc n) taken in cond (member n taken) r n

unfoldable pub least : ℕ → ℕ
least a = cond (value a) 1 (cond (variable a) first_variable first_label)

-- a new atom of d's set; new atoms for a list of atoms in its order, none of them taken and no two the same
unfoldable pub fresh : List ℕ → ℕ → ℕ
fresh taken d = first_free (suc (length taken)) (least d) taken

unfoldable pub renaming : List ℕ → List ℕ → Substitution
renaming taken [] = []
renaming taken (d ∷ ds) = (d, fresh taken d) ∷ renaming (fresh taken d ∷ taken) ds

-- A copy of a body: the atoms delimited in it are renamed in record order, to atoms that are not taken; in the table t, to atoms that do not occur in t.
unfoldable pub fresh_copy : List ℕ → Term → Term
fresh_copy taken body = map_atoms (image (renaming taken (binders body))) body

abbrev pub copy : Term → Term → Term
copy t body = fresh_copy (atoms t) body

-- the replication becomes a parallel of a copy of its body (left) and itself
unfoldable pub after_unfold : Term → ℕ → Term
after_unfold t a = fill (way_to t a) (both parallel (copy t (below (sub t a))) (sub t a))

unfoldable pub unfold_at : Term → ℕ → Result Term
unfold_at t a = do
  r ← wanted (prefixed replicates) t a
  accept (after_unfold t a)

-- Extrude. The parent fits: it is a parallel, a protection or a delimitation.
unfoldable pub fitting : Way → Bool
fitting [] = false
fitting (f ∷ w) = on_kind floats_over f

-- the delimitation of d around s changes places with its parent
unfoldable pub exchange : ℕ → Term → Way → Term
exchange d s [] = under (delimitation d) s
exchange d s (f ∷ w) = fill w (under (delimitation d) (plug f s))

unfoldable pub after_extrude : ℕ → Term → ℕ → Term
after_extrude d t a = exchange d (below (sub t a)) (way_to t a)

-- 18: a label, or no fitting parent, or the root.
unfoldable pub extrude_at : Term → ℕ → Result Term
extrude_at t a = do
  d ← wanted (prefixed delimits) t a
  forbid 18 (place_if (label d || not (fitting (way_to t a))) a)
  accept (after_extrude d t a)

-- The successor that a move gives, or its refusal.
unfoldable pub successor : Term → Move → Result Term
successor t (Kill a) = kill_at t a
successor t (Communicate a b) = communicate_at t a b
successor t (Timeout a) = timeout_at t a
successor t (Elapse d) = elapse_by t d
successor t (Unfold a) = unfold_at t a
successor t (Extrude a) = extrude_at t a

-- (for computed checks) to unfold this is to unfold every definition of this file
unfoldable pub open_six_moves : Unit {0}
unfolding halt_under halt_both halt halt_beside halt_inside after_kill kill_at provided besides match closed_action fit mismatch_number matched outside in_scope ready_kill held_back fewer tighter silence around_choice continue map_basic map_prefix map_node map_atoms image instantiate bind communicate_at timeout_at lower elapse elapse_by first_free least fresh renaming fresh_copy after_unfold unfold_at fitting exchange after_extrude extrude_at successor
open_six_moves = tt
