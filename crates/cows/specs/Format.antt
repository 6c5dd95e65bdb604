-- The format: 16 bytes a record, little-endian, in prefix order (01, Records).
use Rattle.std.specs.Prelude.{Bool, ◌&&◌, ℕ, suc, ◌+◌, ◌*◌, ◌/◌, ◌%◌, ◌<◌, ltb, length, get_or, take}
use mathlib.Core.List.{List, [], ◌∷◌, ◌++◌, flat_map}
use Rattle.cows.specs.Terms.{nil, kill, invoke, receive, wait, protection, delimitation, replication, choice, parallel, Term, leaf, under, both}
use Rattle.cows.specs.Kinds.{Node, basic, prefix, join, kind, Contents, kinds, row_of}
use Rattle.cows.specs.Basics.{All}
use Rattle.cows.specs.Cut.{cut}

-- every number of the list is a byte
abbrev pub AreBytes : List ℕ → Type 0
AreBytes b = All (λ n. n < 256) b

-- a 16-bit number as two bytes; the byte at i, and the 16-bit number there
unfoldable pub bytes2 : ℕ → List ℕ
bytes2 n = n % 256 ∷ n / 256 ∷ []

unfoldable pub byte : List ℕ → ℕ → ℕ
byte b i = get_or b i 0

unfoldable pub word : List ℕ → ℕ → ℕ
word b i = byte b i + 256 * byte b (suc i)

-- The records of a term in prefix order: a record, then its children, left first.
unfoldable pub nodes : Term → List Node
nodes (leaf x) = basic x ∷ []
nodes (under u t) = prefix u ∷ nodes t
nodes (both j s t) = join j ∷ (nodes s ++ nodes t)

-- Byte 0 kind, byte 1 tuple count, then first atom, second atom, four tuple atoms and interval, 16 bits each.
unfoldable pub layout : ℕ → ℕ → ℕ → List ℕ → ℕ → List ℕ
layout k a b ws i =
    k ∷ length ws ∷ bytes2 a ++ bytes2 b
    ++ bytes2 (get_or ws 0 0) ++ bytes2 (get_or ws 1 0) ++ bytes2 (get_or ws 2 0) ++ bytes2 (get_or ws 3 0)
    ++ bytes2 i

-- What a record holds, handed to `write`: first atom, second atom, tuple, interval; every field that its kind does not use is 0.
abbrev pub write_fields : Node → (ℕ → ℕ → List ℕ → ℕ → List ℕ) → List ℕ
write_fields (basic nil) write = write 0 0 [] 0
write_fields (basic (kill k)) write = write k 0 [] 0
write_fields (basic (invoke p o ws)) write = write p o ws 0
write_fields (prefix (receive p o ws)) write = write p o ws 0
write_fields (prefix (wait n)) write = write 0 0 [] n
write_fields (prefix protection) write = write 0 0 [] 0
write_fields (prefix (delimitation d)) write = write d 0 [] 0
write_fields (prefix replication) write = write 0 0 [] 0
write_fields (join j) write = write 0 0 [] 0

unfoldable pub record16 : Node → List ℕ
record16 n = write_fields n (layout (kind n))

-- a table: its records one behind the other
abbrev pub bytes : List Node → List ℕ
bytes ns = flat_map record16 ns

unfoldable pub encode : Term → List ℕ
encode t = bytes (nodes t)

-- A record is right if its kind is known and its fields are as the kind's row says.
unfoldable pub slots : List ℕ → List ℕ
slots b = word b 6 ∷ word b 8 ∷ word b 10 ∷ word b 12 ∷ []

unfoldable pub right_contents : Contents → List ℕ → Bool
right_contents r b =
    r.first (word b 2) && r.second (word b 4) && r.tuple (byte b 1) (slots b) && r.interval (word b 14)

unfoldable pub right_record : List ℕ → Bool
right_record b = ltb (byte b 0) (length kinds) && right_contents (row_of (byte b 0)).holds b

-- A record read (an unknown kind reads as nil, and is no right record).
unfoldable pub tuple : List ℕ → List ℕ
tuple b = take (byte b 1) (slots b)

unfoldable pub read_node : List ℕ → Node
read_node b =
    get_or
    (basic nil
    ∷ basic (kill (word b 2))
    ∷ basic (invoke (word b 2) (word b 4) (tuple b))
    ∷ prefix (receive (word b 2) (word b 4) (tuple b))
    ∷ prefix (wait (word b 14))
    ∷ join choice
    ∷ join parallel
    ∷ prefix protection
    ∷ prefix (delimitation (word b 2))
    ∷ prefix replication
    ∷ [])
    (byte b 0) (basic nil)

-- a table cut into its records
abbrev pub records : List ℕ → List (List ℕ)
records b = cut 16 b

-- Reading from the last record back, records of any kind: each is pushed on the things read so far.
unfoldable pub build : {A B : Type 0} → (A → List B → List B) → List A → List B
build push [] = []
build push (n ∷ ns) = push n (build push ns)

-- A record of a term takes its children off the front.
unfoldable pub push : Node → List Term → List Term
push (basic x) ts = leaf x ∷ ts
push (prefix u) [] = []
push (prefix u) (t ∷ ts) = under u t ∷ ts
push (join j) [] = []
push (join j) (s ∷ []) = []
push (join j) (s ∷ t ∷ ts) = both j s t ∷ ts

unfoldable pub decode : List Node → Term
decode ns = get_or (build push ns) 0 (leaf nil)

-- (for computed checks) to unfold this is to unfold every definition of this file
unfoldable pub open_format : Unit {0}
unfolding bytes2 byte word nodes layout record16 encode slots right_contents right_record tuple read_node push build decode
open_format = tt
