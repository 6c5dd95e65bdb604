-- The rules of the six moves as a relation (01, Moves): Allows t m s says that the rules allow the move m on the term t, and that s is the successor.
-- One constructor for each move, with the paper's conditions as premises. What a move leaves is said by contexts (a way, filled) or record by record, and not by
-- the functions of specs/Moves that compute it. Nothing is searched for and nothing refused.
use Rattle.std.specs.Prelude.{false, ◌≡◌, ◌≢◌, true, List, [], ◌∷◌, ◌++◌, ℕ, zero, suc, ◌+◌, ◌≤◌, ◌<◌, length}
use Rattle.cows.specs.Basics.{any, member, All}
use Rattle.cows.specs.Terms.{nil, kill, invoke, Prefix, receive, wait, protection, delimitation, replication, Join, choice, parallel, Term, leaf, under, both, value, variable, label, size, atoms, binders}
use Rattle.cows.specs.Places.{Frame, inside, left_of, right_of, passed, plug, Way, fill, way_to, sub, enclosed}
use Rattle.cows.specs.Kinds.{Node, basic, prefix, join, root}
use Rattle.cows.specs.Format.{nodes}
use Rattle.cows.specs.Active.{live, ready}
use Rattle.cows.specs.Proposed.{Substitution, Move, Kill, Communicate, Timeout, Elapse, Unfold, Extrude}

-- the term s stands at place n of t; it is live there; it is ready there
pub record Stands (t : Term) (n : ℕ) (s : Term) : Type 0 where
  pub placed : n < size t
  pub stands : sub t n ≡ s

pub record StandsLive (t : Term) (n : ℕ) (s : Term) : Type 0 where
  pub at : Stands t n s
  pub live : live (way_to t n) ≡ true

pub record StandsReady (t : Term) (n : ℕ) (s : Term) : Type 0 where
  pub at : Stands t n s
  pub ready : ready (way_to t n) ≡ true

-- Each value in the pattern equals the value sent; each pattern variable takes the value at its place.
pub data Matches : List ℕ → List ℕ → Substitution → Type 0 where
  empty : Matches [] [] []
  takes : {w v : ℕ} {ws vs : List ℕ} {σ : Substitution} → variable w ≡ true → Matches ws vs σ → Matches (w ∷ ws) (v ∷ vs) ((w, v) ∷ σ)
  equals : {v : ℕ} {ws vs : List ℕ} {σ : Substitution} → variable v ≡ false → Matches ws vs σ → Matches (v ∷ ws) (v ∷ vs) σ

-- The delimitation of x encloses both parties; if v is delimited, that delimitation encloses the variable's.
pub record Reaches (t : Term) (a b : ℕ) (x v : ℕ) : Type 0 where
  pub receiver : enclosed x (way_to t a) ≡ true
  pub sender : enclosed x (way_to t b) ≡ true
  pub nested : (m n : ℕ) (r s : Term) → Stands t m (under (delimitation v) r) → Stands t n (under (delimitation x) s) → enclosed v (way_to t n) ≡ true

abbrev pub AllReach : Term → ℕ → ℕ → Substitution → Type 0
AllReach t a b σ = All (λ (p : ℕ × ℕ). Reaches t a b p.0 p.1) σ

-- No [k] enclosing place c holds a ready kill of k.
abbrev pub Unheld : Term → ℕ → Type 0
Unheld t c =
    (n k : ℕ) (s : Term) → Stands t n (under (delimitation k) s) → n < c → c < n + size (under (delimitation k) s)
    → (m : ℕ) → StandsReady (under (delimitation k) s) m (leaf (kill k)) → ⊥

-- No ready receive in the whole table, on the same endpoint and fitting the same values, has fewer than l pattern variables.
abbrev pub Tightest : Term → ℕ → ℕ → List ℕ → ℕ → Type 0
Tightest t p o vs l = (n : ℕ) (ws : List ℕ) (s : Term) (τ : Substitution) → StandsReady t n (under (receive p o ws) s) → Matches ws vs τ → l ≤ length τ

-- What a meeting of the receive at a and the invoke at b asks.
pub record Meets (t : Term) (a b : ℕ) (σ : Substitution) : Type 0 where
  pub partner : ℕ
  pub operation : ℕ
  pub pattern : List ℕ
  pub sent : List ℕ
  pub body : Term
  pub receiver : StandsLive t a (under (receive partner operation pattern) body)
  pub sender : StandsLive t b (leaf (invoke partner operation sent))
  pub closed : any variable (partner ∷ operation ∷ sent) ≡ false
  pub matches : Matches pattern sent σ
  pub scoped : AllReach t a b σ
  pub receiver_free : Unheld t a
  pub sender_free : Unheld t b
  pub tightest : Tightest t partner operation sent (length σ)

-- Each atom of a list is renamed to the smallest atom of its set that is not taken, and is then taken.
pub record SameSet (a b : ℕ) : Type 0 where
  pub values : value a ≡ value b
  pub variables : variable a ≡ variable b
  pub labels : label a ≡ label b

pub record Smallest (taken : List ℕ) (d e : ℕ) : Type 0 where
  pub set : SameSet e d
  pub free : member e taken ≡ false
  pub least : (c : ℕ) → SameSet c d → member c taken ≡ false → e ≤ c

pub data Renames : List ℕ → List ℕ → Substitution → Type 0 where
  finished : {taken : List ℕ} → Renames taken [] []
  renames : {taken ds : List ℕ} {σ : Substitution} {d e : ℕ} → Smallest taken d e → Renames (e ∷ taken) ds σ → Renames taken (d ∷ ds) ((d, e) ∷ σ)

-- A parent that a delimitation may change places with: a parallel, a protection or a delimitation.
pub data Parent : Frame → Type 0 where
  on_left : {t : Term} → Parent (left_of parallel t)
  on_right : {s : Term} → Parent (right_of parallel s)
  protected : Parent (inside protection)
  delimited : {d : ℕ} → Parent (inside (delimitation d))

-- Record by record: P n l says that l is left of the record at place n of t, no record or one; the records of s are what is left of each, in order.
unfoldable pub gathered : (ℕ → List Node) → ℕ → List Node
gathered left zero = []
gathered left (suc n) = left 0 ++ gathered (λ i. left (suc i)) n

pub record InOrder (t : Term) (P : ℕ → List Node → Type 0) (s : Term) : Type 0 where
  pub left : ℕ → List Node
  pub each : (n : ℕ) → n < size t → P n (left n)
  pub records : nodes s ≡ gathered left (size t)

-- Halting (001) goes down both sides of a parallel, through each delimitation and each replication.
pub data Through : Node → Type 0 where
  through_parallel : Through (join parallel)
  through_delimitation : {d : ℕ} → Through (prefix (delimitation d))
  through_replication : Through (prefix replication)

-- It makes nil of kills, invokes and whole choices, receives and waits; a nil is nil.
pub data Halts : Node → Type 0 where
  halts_nil : Halts (basic nil)
  halts_kill : {k : ℕ} → Halts (basic (kill k))
  halts_invoke : {p o : ℕ} {ws : List ℕ} → Halts (basic (invoke p o ws))
  halts_choice : Halts (join choice)
  halts_receive : {p o : ℕ} {ws : List ℕ} → Halts (prefix (receive p o ws))
  halts_wait : {n : ℕ} → Halts (prefix (wait n))

-- a way that halting takes, from the root of what is halted: it goes through every record
pub data Reached : Way → Type 0 where
  at_root : Reached []
  goes_through : (f : Frame) {w : Way} → Through (passed f) → Reached w → Reached (f ∷ w)

-- What it leaves of a record, by the way to it: what it goes through stays, and a protection stays whole; what halts is nil, and below it nothing is left.
pub data Spared : Way → Node → List Node → Type 0 where
  keeps : {w : Way} {x : Node} → Reached w → Through x → Spared w x (x ∷ [])
  keeps-protection : {w : Way} → Reached w → Spared w (prefix protection) (prefix protection ∷ [])
  keeps-inside : (v w : Way) {x : Node} → Reached w → Spared (v ++ (inside protection ∷ w)) x (x ∷ [])
  leaves-nil : {w : Way} {x : Node} → Reached w → Halts x → Spared w x (basic nil ∷ [])
  leaves_nothing : (v w : Way) (f : Frame) {x : Node} → Reached w → Halts (passed f) → Spared (v ++ (f ∷ w)) x []

abbrev pub Halted : Term → Term → Type 0
Halted t s = InOrder t (λ n. Spared (way_to t n) (root (sub t n))) s

-- The way from [k] down to its kill: at each parallel the other side is halted; protections and delimitations stay.
pub data Ended : Way → Way → Type 0 where
  at_kill : Ended [] []
  halts_right : {v u : Way} {t r : Term} → Halted t r → Ended v u → Ended (left_of parallel t ∷ v) (left_of parallel r ∷ u)
  halts_left : {v u : Way} {s q : Term} → Halted s q → Ended v u → Ended (right_of parallel s ∷ v) (right_of parallel q ∷ u)
  passes : {v u : Way} {x : Prefix} → Ended v u → Ended (inside x ∷ v) (inside x ∷ u)

-- a way that is choices only; a way whose first record above is no choice
pub data Choices : Way → Type 0 where
  no-choice : Choices []
  left-choice : {t : Term} {c : Way} → Choices c → Choices (left_of choice t ∷ c)
  right_choice : {s : Term} {c : Way} → Choices c → Choices (right_of choice s ∷ c)

pub record Whole (w : Way) : Type 0 where
  pub not_left : (t : Term) (z : Way) → w ≢ left_of choice t ∷ z
  pub not_right : (s : Term) (z : Way) → w ≢ right_of choice s ∷ z

-- Of a way c ++ w to a guard, c is the whole choice around it: c is choices only, and the record above them is none.
pub record Choice (c w : Way) : Type 0 where
  pub choices : Choices c
  pub whole : Whole w

-- The receive at a and the invoke at b stand on two sides of a parallel. The invoke becomes nil; the receive, with the whole choice around it, becomes r.
pub data Exchanged (t : Term) (a b : ℕ) (r : Term) : Term → Type 0 where
  receive-left : (c v u w : Way) (x y : Term) → way_to t a ≡ c ++ (v ++ (left_of parallel y ∷ w)) → Choice c (v ++ (left_of parallel y ∷ w))
      → way_to t b ≡ u ++ (right_of parallel x ∷ w) → Exchanged t a b r (fill w (both parallel (fill v r) (fill u (leaf nil))))
  receive_right : (c v u w : Way) (x y : Term) → way_to t a ≡ c ++ (v ++ (right_of parallel y ∷ w)) → Choice c (v ++ (right_of parallel y ∷ w))
      → way_to t b ≡ u ++ (left_of parallel x ∷ w) → Exchanged t a b r (fill w (both parallel (fill u (leaf nil)) (fill v r)))

-- An atom under a substitution: what it takes, or itself if it takes nothing.
pub data Becomes : Substitution → ℕ → ℕ → Type 0 where
  itself : {a : ℕ} → Becomes [] a a
  by_pair : {a b : ℕ} {σ : Substitution} → Becomes ((a, b) ∷ σ) a b
  by_others : {a b c d : ℕ} {σ : Substitution} → a ≢ c → Becomes σ a b → Becomes ((c, d) ∷ σ) a b

pub data AllBecome (σ : Substitution) : List ℕ → List ℕ → Type 0 where
  no_more : AllBecome σ [] []
  and_more : {a b : ℕ} {ws vs : List ℕ} → Becomes σ a b → AllBecome σ ws vs → AllBecome σ (a ∷ ws) (b ∷ vs)

-- A record under a substitution: of the same kind, with every atom replaced and nothing else changed.
pub data Rewritten (σ : Substitution) : Node → Node → Type 0 where
  as_nil : Rewritten σ (basic nil) (basic nil)
  as_kill : {k l : ℕ} → Becomes σ k l → Rewritten σ (basic (kill k)) (basic (kill l))
  as_invoke : {p q o m : ℕ} {ws vs : List ℕ} → Becomes σ p q → Becomes σ o m → AllBecome σ ws vs → Rewritten σ (basic (invoke p o ws)) (basic (invoke q m vs))
  as_receive : {p q o m : ℕ} {ws vs : List ℕ} → Becomes σ p q → Becomes σ o m → AllBecome σ ws vs → Rewritten σ (prefix (receive p o ws)) (prefix (receive q m vs))
  as_wait : {n : ℕ} → Rewritten σ (prefix (wait n)) (prefix (wait n))
  as_protection : Rewritten σ (prefix protection) (prefix protection)
  as_delimitation : {d e : ℕ} → Becomes σ d e → Rewritten σ (prefix (delimitation d)) (prefix (delimitation e))
  as_replication : Rewritten σ (prefix replication) (prefix replication)
  as_join : {j : Join} → Rewritten σ (join j) (join j)

-- A term under a substitution: as many records, and at every place, protected, replicated and dormant ones included, the record under it.
pub record Replaced (σ : Substitution) (t s : Term) : Type 0 where
  pub count : size s ≡ size t
  pub records : (n : ℕ) → n < size t → Rewritten σ (root (sub t n)) (root (sub s n))

-- Each bound variable is replaced throughout its delimitation, and that delimitation goes.
pub data Instantiated : Substitution → Term → Term → Type 0 where
  all_bound : {t : Term} → Instantiated [] t t
  goes : {x v : ℕ} {σ : Substitution} {s : Term} (w : Way) (r q : Term) → Replaced ((x, v) ∷ []) r q → Instantiated σ (fill w q) s
      → Instantiated ((x, v) ∷ σ) (fill w (under (delimitation x) r)) s

-- Time: as many records; a live wait falls by d, and to 0 if it holds less; each record that is no live wait stays.
pub record Elapsed (d : ℕ) (t s : Term) : Type 0 where
  pub count : size s ≡ size t
  pub falls : (n i : ℕ) (r : Term) → StandsLive t n (under (wait (i + d)) r) → root (sub s n) ≡ prefix (wait i)
  pub runs_out : (n i : ℕ) (r : Term) → StandsLive t n (under (wait i) r) → i < d → root (sub s n) ≡ prefix (wait 0)
  pub stays : (n : ℕ) → n < size t → ((i : ℕ) (r : Term) → StandsLive t n (under (wait i) r) → ⊥) → root (sub s n) ≡ root (sub t n)

pub data Allows (t : Term) : Move → Term → Type 0 where
  by_kill : (a k : ℕ) (v u w : Way) → StandsLive t a (leaf (kill k)) → way_to t a ≡ v ++ (inside (delimitation k) ∷ w) → Ended v u
      → Allows t (Kill a) (fill w (under (delimitation k) (fill u (leaf nil))))
  by_communicate : (a b : ℕ) (σ : Substitution) (r s : Term) (m : Meets t a b σ) → Exchanged t a b m.body r → Instantiated σ r s → Allows t (Communicate a b) s
  by_timeout : (a : ℕ) (r : Term) (c w : Way) → StandsLive t a (under (wait 0) r) → way_to t a ≡ c ++ w → Choice c w → Allows t (Timeout a) (fill w r)
  by_elapse : (d : ℕ) (s : Term) → 1 ≤ d → Elapsed d t s → Allows t (Elapse d) s
  by_unfold : (a : ℕ) (s c : Term) (σ : Substitution) → StandsLive t a (under replication s) → Renames (atoms t) (binders s) σ → Replaced σ s c
      → Allows t (Unfold a) (fill (way_to t a) (both parallel c (under replication s)))
  by_extrude : (a d : ℕ) (s : Term) (f : Frame) (w : Way) → StandsLive t a (under (delimitation d) s) → label d ≡ false → way_to t a ≡ f ∷ w → Parent f
      → Allows t (Extrude a) (fill w (under (delimitation d) (plug f s)))
