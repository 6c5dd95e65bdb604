-- What the bytes of a term's table say at a place: the record there, its kind, and what the kind says of the term; the fields of each kind.
use mathlib.Core.Path.{◌≡◌, refl, sym, ap, subst, ◌∙◌}
use mathlib.Core.List.{List, [], ◌∷◌, ◌++◌, append_assoc, append-nil, flat_map}
use Prim.Native.Nat.{ℕ, zero, suc, ◌+◌, ◌*◌, ◌<◌}
use native.Mathlib.Omega.{arith}
use native.Mathlib.Nat.{suc-add}
use native.Mathlib.Numerals.{add-one}
use lib.ListN.{length, get_or, take, drop}
use lib.Seq.{take_at, drop_at, drop-drop, get_or-take, get_or-drop}
use Rattle.cows.specs.Terms.{nil, kill, invoke, receive, wait, protection, delimitation, replication, choice, parallel, Term, leaf, under, both, size, below}
use Rattle.cows.specs.Kinds.{Node, root, kind_of}
use Rattle.cows.specs.Places.{Spot, spot_at, sub}
use Rattle.cows.specs.Format.{bytes2, byte, word, nodes, layout, record16, bytes, encode}
use Rattle.cows.proofs.Places.{inherited_spot}
use Rattle.cows.proofs.Format.{length-nodes}
use Rattle.cows.proofs.Rows.{record_kind, length_record16}
use Rattle.cows.proofs.Cut.{flat_map_append, drop_write}

-- The records of the part at a place stand in the records of the whole, from that place on.
abbrev pub NodesAt : Term → ℕ → Spot → Type 0
NodesAt t n z = (ns : List Node) × (drop n (nodes t) ≡ nodes z.here ++ ns)

pub drop_more : (t : Term) (n k : ℕ) (ms : List Node) → drop n (nodes t) ≡ ms → drop (n + k) (nodes t) ≡ drop k ms
drop_more t n k ms e = sym (drop-drop k n (nodes t)) ∙ ap (drop k) e

pub nodes_spot : (t : Term) (n : ℕ) → n < size t → NodesAt t n (spot_at t n)
unfolding nodes
nodes_spot t =
    inherited_spot (NodesAt t) (
      λ o w u s h. (h.0, rw add-one at (drop_more t o 1 _ h.1)),
      λ o w j s r h.
          let e : drop (suc o) (nodes t) ≡ nodes s ++ (nodes r ++ h.0) = (rw add-one at (drop_more t o 1 _ h.1)) ∙ append_assoc (nodes s) (nodes r) h.0 in
          ((nodes r ++ h.0, e), (h.0, (rw suc-add at (drop_more t (suc o) (size s) _ e)) ∙ drop_at (nodes s) (nodes r ++ h.0) (size s) (length-nodes s))),
    )
    t ([], sym (append-nil (nodes t)))

-- the bytes from a place on are those of the records from there on
pub drop-bytes : (ns : List Node) (j : ℕ) → drop (16 * j) (bytes ns) ≡ bytes (drop j ns)
drop-bytes = drop_write 16 record16 length_record16

pub append_bytes : (ms ns : List Node) → bytes (ms ++ ns) ≡ bytes ms ++ bytes ns
append_bytes = flat_map_append record16

-- a term's first record stands first
pub first-bytes : (s : Term) → (b : List ℕ) × (encode s ≡ record16 (root s) ++ b)
unfolding encode flat_map nodes root
first-bytes (leaf x) = ([], refl)
first-bytes (under u t) = (bytes (nodes t), refl)
first-bytes (both j s t) = (bytes (nodes s ++ nodes t), refl)

-- the table of a part stands in the table of the whole; its first record; the bytes of that
pub table_at : (t : Term) (j : ℕ) → j < size t → (b : List ℕ) × (drop (16 * j) (encode t) ≡ encode (sub t j) ++ b)
unfolding encode sub
table_at t j l =
    let (ns, e) = nodes_spot t j l in
    (bytes ns, drop-bytes (nodes t) j ∙ (ap bytes e ∙ append_bytes (nodes (spot_at t j).here) ns))

pub record_at_lem : (t : Term) (j : ℕ) → j < size t → take 16 (drop (16 * j) (encode t)) ≡ record16 (root (sub t j))
record_at_lem t j l =
    let (b, e) = table_at t j l in
    let (c, f) = first-bytes (sub t j) in
    ap (take 16) (e ∙ (ap (λ a. a ++ b) f ∙ append_assoc (record16 (root (sub t j))) c b)) ∙ take_at (record16 (root (sub t j))) (c ++ b) 16 (length_record16 (root (sub t j)))

pub byte_at : (t : Term) (j i : ℕ) → j < size t → i < 16 → byte (encode t) (16 * j + i) ≡ byte (record16 (root (sub t j))) i
unfolding byte
byte_at t j i l h =
    sym (get_or-drop (16 * j) (encode t) i 0) ∙ (sym (get_or-take 16 (drop (16 * j) (encode t)) i 0 h) ∙ ap (λ b. get_or b i 0) (record_at_lem t j l))

pub word_at : (t : Term) (j i : ℕ) → j < size t → i < 15 → word (encode t) (16 * j + i) ≡ word (record16 (root (sub t j))) i
unfolding word
word_at t j i l h = let z : suc (16 * j + i) ≡ 16 * j + suc i = omega arith in rw (z, byte_at t j i l (omega arith), byte_at t j (suc i) l (omega arith))

pub kind_at : (t : Term) (j : ℕ) → j < size t → get_or (encode t) (16 * j) 0 ≡ kind_of (sub t j)
unfolding kind_of byte
kind_at t j l = ap (λ i. get_or (encode t) i 0) (let z : 16 * j ≡ 16 * j + 0 = omega arith in z) ∙ (byte_at t j 0 l (omega arith) ∙ record_kind (root (sub t j)))

-- What a term is, by its kind: the table of kinds once more.
abbrev pub by_kind : Term → List (Type 0)
by_kind s =
    (s ≡ leaf nil)
    ∷ ((k : ℕ) × (s ≡ leaf (kill k)))
    ∷ ((p : ℕ) × (o : ℕ) × (ws : List ℕ) × (s ≡ leaf (invoke p o ws)))
    ∷ ((p : ℕ) × (o : ℕ) × (ws : List ℕ) × (s ≡ under (receive p o ws) (below s)))
    ∷ ((n : ℕ) × (s ≡ under (wait n) (below s)))
    ∷ ((l : Term) × (r : Term) × (s ≡ both choice l r))
    ∷ ((l : Term) × (r : Term) × (s ≡ both parallel l r))
    ∷ (s ≡ under protection (below s))
    ∷ ((d : ℕ) × (s ≡ under (delimitation d) (below s)))
    ∷ (s ≡ under replication (below s))
    ∷ []

abbrev pub OfKind : ℕ → Term → Type 0
OfKind k s = get_or (by_kind s) k ⊥

pub of_kind : (s : Term) → OfKind (kind_of s) s
unfolding kind_of root below
of_kind (leaf nil) = refl
of_kind (leaf (kill k)) = (k, refl)
of_kind (leaf (invoke p o ws)) = (p, o, ws, refl)
of_kind (under (receive p o ws) t) = (p, o, ws, refl)
of_kind (under (wait n) t) = (n, refl)
of_kind (under protection t) = refl
of_kind (under (delimitation d) t) = (d, refl)
of_kind (under replication t) = refl
of_kind (both choice l r) = (l, r, refl)
of_kind (both parallel l r) = (l, r, refl)

pub kind_is : (k : ℕ) (s : Term) → kind_of s ≡ k → OfKind k s
kind_is k s e = subst (λ i. OfKind i s) e (of_kind s)

pub kind-kill : (s : Term) → kind_of s ≡ 1 → (k : ℕ) × (s ≡ leaf (kill k))
kind-kill = kind_is 1

pub kind-invoke : (s : Term) → kind_of s ≡ 2 → (p : ℕ) × (o : ℕ) × (ws : List ℕ) × (s ≡ leaf (invoke p o ws))
kind-invoke = kind_is 2

pub kind-receive : (s : Term) → kind_of s ≡ 3 → (p : ℕ) × (o : ℕ) × (ws : List ℕ) × (s ≡ under (receive p o ws) (below s))
kind-receive = kind_is 3

pub kind-wait : (s : Term) → kind_of s ≡ 4 → (n : ℕ) × (s ≡ under (wait n) (below s))
kind-wait = kind_is 4

pub kind-choice : (s : Term) → kind_of s ≡ 5 → (l : Term) × (r : Term) × (s ≡ both choice l r)
kind-choice = kind_is 5

pub kind-parallel : (s : Term) → kind_of s ≡ 6 → (l : Term) × (r : Term) × (s ≡ both parallel l r)
kind-parallel = kind_is 6

pub kind-delimitation : (s : Term) → kind_of s ≡ 8 → (d : ℕ) × (s ≡ under (delimitation d) (below s))
kind-delimitation = kind_is 8

-- The fields: the count is byte 1; the 16-bit numbers stand at 2, 4, 6 + 2 * i and 14.
pub layout-first : (k a c i : ℕ) (ws : List ℕ) → word (layout k a c ws i) 2 ≡ a
unfolding word byte layout bytes2
layout-first k a c i ws = omega arith

pub layout_second : (k a c i : ℕ) (ws : List ℕ) → word (layout k a c ws i) 4 ≡ c
unfolding word byte layout bytes2
layout_second k a c i ws = omega arith

pub layout-slot : (k a c i : ℕ) (ws : List ℕ) (m : ℕ) → m < 4 → word (layout k a c ws i) (6 + 2 * m) ≡ get_or ws m 0
unfolding word byte layout bytes2
layout-slot k a c i ws zero h = omega arith
layout-slot k a c i ws (suc zero) h = omega arith
layout-slot k a c i ws (suc (suc zero)) h = omega arith
layout-slot k a c i ws (suc (suc (suc zero))) h = omega arith
layout-slot k a c i ws (suc (suc (suc (suc m)))) h = absurd (omega arith)

pub first-kill : (k : ℕ) → word (record16 (root (leaf (kill k)))) 2 ≡ k
unfolding root record16
first-kill k = layout-first 1 k 0 0 []

pub first-delimitation : (d : ℕ) (t : Term) → word (record16 (root (under (delimitation d) t))) 2 ≡ d
unfolding root record16
first-delimitation d t = layout-first 8 d 0 0 []

pub interval-wait : (n : ℕ) (t : Term) → word (record16 (root (under (wait n) t))) 14 ≡ n
unfolding root record16 word byte layout bytes2
interval-wait n t = omega arith

module _ (p o : ℕ) (ws : List ℕ) where
  pub first-invoke : word (record16 (root (leaf (invoke p o ws)))) 2 ≡ p
  unfolding root record16
  first-invoke = layout-first 2 p o 0 ws

  pub second_invoke : word (record16 (root (leaf (invoke p o ws)))) 4 ≡ o
  unfolding root record16
  second_invoke = layout_second 2 p o 0 ws

  pub count-invoke : byte (record16 (root (leaf (invoke p o ws)))) 1 ≡ length ws
  unfolding root record16 byte layout
  count-invoke = refl

  pub slot-invoke : (i : ℕ) → i < 4 → word (record16 (root (leaf (invoke p o ws)))) (6 + 2 * i) ≡ get_or ws i 0
  unfolding root record16
  slot-invoke = layout-slot 2 p o 0 ws

  pub first-receive : (t : Term) → word (record16 (root (under (receive p o ws) t))) 2 ≡ p
  unfolding root record16
  first-receive t = layout-first 3 p o 0 ws

  pub second_receive : (t : Term) → word (record16 (root (under (receive p o ws) t))) 4 ≡ o
  unfolding root record16
  second_receive t = layout_second 3 p o 0 ws

  pub count-receive : (t : Term) → byte (record16 (root (under (receive p o ws) t))) 1 ≡ length ws
  unfolding root record16 byte layout
  count-receive t = refl

  pub slot-receive : (t : Term) (i : ℕ) → i < 4 → word (record16 (root (under (receive p o ws) t))) (6 + 2 * i) ≡ get_or ws i 0
  unfolding root record16
  slot-receive t = layout-slot 3 p o 0 ws
