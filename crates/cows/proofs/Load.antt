-- The load law of each move: the load before is the load after, what the moving records weigh, and what was lost. And what halting leaves.
use mathlib.Core.Path.{◌≡◌, refl, sym, ap, ◌∙◌}
use mathlib.Core.Bool.{true}
use mathlib.Core.Option.{Option, some}
use mathlib.Core.List.{[], ◌∷◌}
use Prim.Native.Nat.{ℕ, suc, ◌+◌, ◌≤◌}
use native.Mathlib.Omega.{arith}
use Rattle.cows.specs.Basics.{found_with}
use Rattle.cows.specs.Terms.{nil, Prefix, receive, wait, protection, delimitation, replication, choice, parallel, Term, leaf, under, both, Action, kills, invokes, prefixed, receives, waits, delimits, delimits_atom, below, invoke_of}
use Rattle.cows.specs.Kinds.{basic, prefix, join, kind, live_kind, weight_of, open_kinds}
use Rattle.cows.specs.Places.{Frame, inside, left_of, right_of, plug, Way, fill, way_to, sub, frame_delimits, frame_chooses}
use Rattle.cows.specs.Moves.{halt, halt_under, halt_both, halt_beside, halt_inside, after_kill, Substitution, silence, around_choice, continue, map_node, map_atoms, image, instantiate, bind, elapse, copy, after_unfold, exchange, after_extrude, fresh_copy}
use Rattle.cows.specs.Load.{load, shielded_under, shielded_both, shielded, ended_beside, ended_inside, arm, dropped}
use Rattle.cows.proofs.Basics.{cond_case, cond_case₂}
use Rattle.cows.proofs.Rows.{mapped-kind, lowered_kind}
use Rattle.cows.proofs.Places.{fill_spot}
use Rattle.cows.proofs.Stands.{kills_is, invokes_is, looks, prefixed_is}
use Rattle.cows.proofs.Silence.{silence-prefix}

-- Halting: what it keeps is the load of the protections reached; halting twice is halting once.
pub load-halt : (t : Term) → load (halt t) ≡ shielded t
unfolding load halt halt_under halt_both open_kinds shielded shielded_under shielded_both
load-halt (leaf x) = refl
load-halt (under (receive p o ws) t) = refl
load-halt (under (wait n) t) = refl
load-halt (under protection t) = omega arith
load-halt (under (delimitation d) t) = omega (arith, load-halt t)
load-halt (under replication t) = omega (arith, load-halt t)
load-halt (both choice s t) = refl
load-halt (both parallel s t) = omega (arith, load-halt s, load-halt t)

pub halt-halt : (t : Term) → halt (halt t) ≡ halt t
unfolding halt halt_under halt_both
halt-halt (leaf x) = refl
halt-halt (under (receive p o ws) t) = refl
halt-halt (under (wait n) t) = refl
halt-halt (under protection t) = refl
halt-halt (under (delimitation d) t) = ap (under (delimitation d)) (halt-halt t)
halt-halt (under replication t) = ap (under replication) (halt-halt t)
halt-halt (both choice s t) = refl
halt-halt (both parallel s t) = rw (halt-halt s, halt-halt t)

pub shielded_le : (t : Term) → shielded t ≤ load t
unfolding load open_kinds shielded shielded_under shielded_both
shielded_le (leaf x) = omega arith
shielded_le (under (receive p o ws) t) = omega arith
shielded_le (under (wait n) t) = omega arith
shielded_le (under protection t) = omega arith
shielded_le (under (delimitation d) t) = omega (arith, shielded_le t)
shielded_le (under replication t) = omega (arith, shielded_le t)
shielded_le (both choice s t) = omega arith
shielded_le (both parallel s t) = omega (arith, shielded_le s, shielded_le t)

-- The load of a term is that of the way to a place and that of what stands there.
unfoldable pub load_frame : Frame → ℕ
load_frame (inside u) = weight_of (kind (prefix u))
load_frame (left_of j t) = weight_of (kind (join j)) + load t
load_frame (right_of j s) = weight_of (kind (join j)) + load s

unfoldable pub load_way : Way → ℕ
load_way [] = 0
load_way (f ∷ w) = load_frame f + load_way w

load-plug : (f : Frame) (s : Term) → load (plug f s) ≡ load_frame f + load s
unfolding load plug load_frame
load-plug (inside u) s = refl
load-plug (left_of j t) s = omega arith
load-plug (right_of j s) t = omega arith

pub load-fill : (w : Way) (s : Term) → load (fill w s) ≡ load_way w + load s
unfolding fill load_way
load-fill [] s = omega arith
load-fill (f ∷ w) s = load-fill w (plug f s) ∙ omega (arith, load-plug f s)

pub load_spot : (t : Term) (n : ℕ) → load t ≡ load_way (way_to t n) + load (sub t n)
load_spot t n = ap load (sym (fill_spot t n)) ∙ load-fill (way_to t n) (sub t n)

-- what the records that move weigh
weighs_kill : (s : Term) (k : ℕ) → kills s ≡ some k → load s ≡ 1
unfolding load open_kinds
weighs_kill s k e = ap load (kills_is s k e)

weighs_invoke : (s : Term) (m : Action) → invokes s ≡ some m → load s ≡ 1
unfolding load open_kinds
weighs_invoke s m e = ap load (invokes_is s m e)

-- a record before a continuation weighs 1
abbrev pub Weighty : {A : Type 0} → (Prefix → Option A) → Type 0
Weighty {A} f = (u : Prefix) (x : A) → f u ≡ some x → weight_of (kind (prefix u)) ≡ 1

weighty_receive : Weighty receives
unfolding receives open_kinds
weighty_receive (receive p o ws) x e = refl
weighty_receive (wait n) x e = refl
weighty_receive protection x e = cc
weighty_receive (delimitation d) x e = cc
weighty_receive replication x e = cc

weighty_wait : Weighty waits
unfolding waits open_kinds
weighty_wait (receive p o ws) x e = refl
weighty_wait (wait n) x e = refl
weighty_wait protection x e = cc
weighty_wait (delimitation d) x e = cc
weighty_wait replication x e = cc

weighs_guard : {A : Type 0} (f : Prefix → Option A) → Weighty f → (s : Term) (x : A) → prefixed f s ≡ some x → load s ≡ suc (load (below s))
unfolding prefixed load below
weighs_guard f g (leaf y) x e = cc
weighs_guard f g (under u t) x e = omega (arith, g u x e)
weighs_guard f g (both j s t) x e = cc

-- Kill: before = after + 1 + what was halted.
load-beside : (f : Frame) → load_frame f ≡ load_frame (halt_beside f) + ended_beside f
unfolding halt_beside load_frame ended_beside
load-beside (inside u) = omega arith
load-beside (left_of choice t) = omega arith
load-beside (left_of parallel t) = omega (arith, load-halt t, shielded_le t)
load-beside (right_of choice s) = omega arith
load-beside (right_of parallel s) = omega (arith, load-halt s, shielded_le s)

load_inside : (k : ℕ) (w : Way) → load_way w ≡ load_way (halt_inside k w) + ended_inside k w
unfolding load_way halt_inside ended_inside
load_inside k [] = refl
load_inside k (f ∷ w) =
    cond_case₂ (λ v n. load_frame f + load_way w ≡ load_way v + n) (frame_delimits k f)
    (λ e. unfold load_way in omega arith) (λ e. unfold load_way in omega (arith, load-beside f, load_inside k w))

pub load-kill : (t : Term) (a k : ℕ) → kills (sub t a) ≡ some k → load t ≡ load (after_kill k t a) + 1 + ended_inside k (way_to t a)
unfolding after_kill load open_kinds
load-kill t a k e =
    omega (arith, load_spot t a, weighs_kill (sub t a) k e, load_inside k (way_to t a), load-fill (halt_inside k (way_to t a)) (leaf nil))

-- A guard that continues: before = after + 1 + what the arms not taken held.
load_around : (w : Way) → load_way w ≡ load_way (around_choice w) + dropped w
unfolding load_way around_choice dropped frame_chooses load_frame arm open_kinds
load_around [] = refl
load_around (inside u ∷ w) = omega arith
load_around (left_of choice t ∷ w) = omega (arith, load_around w)
load_around (left_of parallel t ∷ w) = omega arith
load_around (right_of choice s ∷ w) = omega (arith, load_around w)
load_around (right_of parallel s ∷ w) = omega arith

pub load-continue : {A : Type 0} (f : Prefix → Option A) → Weighty f → (t : Term) (a : ℕ) (x : A) → prefixed f (sub t a) ≡ some x → load t ≡ load (continue t a) + 1 + dropped (way_to t a)
unfolding continue
load-continue f g t a x e =
    omega (arith, load_spot t a, weighs_guard f g (sub t a) x e, load_around (way_to t a), load-fill (around_choice (way_to t a)) (below (sub t a)))

-- Communicate: before = after + 2 + what the arms not taken held.
load-silence : (t : Term) (b : ℕ) (m : Action) → invokes (sub t b) ≡ some m → load t ≡ load (silence t b) + 1
unfolding silence load open_kinds
load-silence t b m e = omega (arith, load_spot t b, weighs_invoke (sub t b) m e, load-fill (way_to t b) (leaf nil))

-- a prefix stands where it stood before the invoke went
pub prefix-silence : {A : Type 0} (f : Prefix → Option A) (t : Term) (a b : ℕ) (m : Action) → invokes (sub t b) ≡ some m → prefixed f (sub (silence t b) a) ≡ prefixed f (sub t a)
prefix-silence f t a b m e = silence-prefix f t b (invoke_of m) (invokes_is (sub t b) m e) a

load-map_atoms : (f : ℕ → ℕ) (t : Term) → load (map_atoms f t) ≡ load t
unfolding load map_atoms map_node
load-map_atoms f (leaf x) = ap weight_of (mapped-kind f (basic x))
load-map_atoms f (under u t) = cc (mapped-kind f (prefix u), load-map_atoms f t)
load-map_atoms f (both j s t) = rw (load-map_atoms f s, load-map_atoms f t)

weight_delimits : (d : ℕ) (u : Prefix) → delimits_atom d u ≡ true → weight_of (kind (prefix u)) ≡ 0
unfolding delimits_atom delimits found_with open_kinds
weight_delimits d (receive p o ws) e = cc
weight_delimits d (wait n) e = cc
weight_delimits d protection e = refl
weight_delimits d (delimitation c) e = refl
weight_delimits d replication e = refl

load-instantiate : (x v : ℕ) (t : Term) → load (instantiate x v t) ≡ load t
unfolding load instantiate
load-instantiate x v (leaf b) = refl
load-instantiate x v (under u t) =
    cond_case (λ r. load r ≡ weight_of (kind (prefix u)) + load t) (delimits_atom x u)
    (λ e. omega (arith, load-map_atoms (image ((x, v) ∷ [])) t, weight_delimits x u e))
    (λ e. unfold load in omega (arith, load-instantiate x v t))
load-instantiate x v (both j s t) = rw (load-instantiate x v s, load-instantiate x v t)

load-bind : (σ : Substitution) (t : Term) → load (bind σ t) ≡ load t
unfolding bind
load-bind [] t = refl
load-bind (p ∷ ps) t = load-bind ps _ ∙ load-instantiate p.0 p.1 t

pub load_communicate : (σ : Substitution) (t : Term) (a b : ℕ) (r m : Action) → prefixed receives (sub t a) ≡ some r → invokes (sub t b) ≡ some m
    → load t ≡ load (bind σ (continue (silence t b) a)) + 2 + dropped (way_to (silence t b) a)
load_communicate σ t a b r m er em =
    rw load-bind
    (omega (arith, load-silence t b m em, load-continue receives weighty_receive (silence t b) a r (prefix-silence receives t a b m em ∙ er)))

-- Timeout: before = after + 1 + what the arms not taken held.
pub load_timeout : (t : Term) (a i : ℕ) → prefixed waits (sub t a) ≡ some i → load t ≡ load (continue t a) + 1 + dropped (way_to t a)
load_timeout t a i e = load-continue waits weighty_wait t a i e

-- Elapse: nothing changes.
pub load-elapse : (d : ℕ) (t : Term) → load (elapse d t) ≡ load t
unfolding load elapse
load-elapse d (leaf x) = refl
load-elapse d (under u t) =
    rw (lowered_kind d u)
    (cond_case (λ r. weight_of (kind (prefix u)) + load r ≡ weight_of (kind (prefix u)) + load t) (live_kind (kind (prefix u))) (λ e. rw (load-elapse d t)) (λ e. refl))
load-elapse d (both j s t) = rw (load-elapse d s, load-elapse d t)

-- Unfold: the load of the body is added.
load-copy : (t body : Term) → load (copy t body) ≡ load body
unfolding fresh_copy
load-copy t body = load-map_atoms _ body

pub load_unfold : (t : Term) (a : ℕ) → load (after_unfold t a) ≡ load t + load (below (sub t a))
unfolding after_unfold load open_kinds
load_unfold t a =
    load-fill (way_to t a) (both parallel (copy t (below (sub t a))) (sub t a))
    ∙ omega (arith, load_spot t a, load-copy t (below (sub t a)))

-- Extrude: nothing changes.
weighs_delimitation : (s : Term) (d : ℕ) → prefixed delimits s ≡ some d → load s ≡ load (below s)
unfolding load open_kinds
weighs_delimitation s d e = ap load (prefixed_is delimits delimitation (λ u. (looks u).delimiting) s d e) ∙ omega arith

load-exchange : (d : ℕ) (s : Term) (w : Way) → load (exchange d s w) ≡ load_way w + load s
unfolding exchange load open_kinds load_way
load-exchange d s [] = omega arith
load-exchange d s (f ∷ w) = load-fill w (under (delimitation d) (plug f s)) ∙ omega (arith, load-plug f s)

pub load_extrude : (d : ℕ) (t : Term) (a : ℕ) → prefixed delimits (sub t a) ≡ some d → load (after_extrude d t a) ≡ load t
unfolding after_extrude
load_extrude d t a e = load-exchange d (below (sub t a)) (way_to t a) ∙ omega (arith, load_spot t a, weighs_delimitation (sub t a) d e)
