-- Laws of one record (specs/Format): its 16 bytes are right exactly if they are a right node's, and then each is read off the other.
use mathlib.Core.Path.{◌≡◌, refl, sym, ap, ◌∙◌}
use mathlib.Core.Bool.{true, ◌&&◌}
use mathlib.Core.List.{List, [], ◌∷◌, ◌++◌, map}
use Prim.Native.Nat.{ℕ, zero, suc, ◌+◌, ◌*◌, ◌/◌, ◌%◌, ◌≤◌, ◌<◌}
use native.Mathlib.Omega.{arith}
use lib.Dec.{leb, ltb, eqb}
use lib.ListN.{length, get_or, take, drop, drop_of_length-le}
use lib.Seq.{drop-cons}
use borrow.Author.Tests.{eqb-true, leb-true, ltb-true, le-leb, lt-ltb}
use Rattle.cows.specs.Basics.{every}
use Rattle.cows.specs.Terms.{nil, kill, invoke, receive, wait, protection, delimitation, replication, choice, parallel, label, datum, atom}
use Rattle.cows.specs.Kinds.{Node, basic, prefix, join, unused, interval, distinct, data4, pattern4, empty4, Contents, kinds, row_of}
use Rattle.cows.specs.Format.{AreBytes, bytes2, byte, word, layout, record16, slots, right_contents, right_record, tuple, read_node}
use Rattle.cows.specs.Within.{RightTuple, RightBasic, RightPrefix}
use Rattle.cows.proofs.Basics.{and_true, true_and, or_left}
use Rattle.cows.proofs.Sets.{set_case, value-range, variable-range, label-range}

-- what a right record may hold
abbrev pub RightNode : Node → Type 0
RightNode (basic x) = RightBasic x
RightNode (prefix u) = RightPrefix u
RightNode (join j) = Unit {0}

-- A tuple ws fills n of four slots, the others being 0.
abbrev four : ℕ → ℕ → ℕ → ℕ → List ℕ
four a b c d = a ∷ b ∷ c ∷ d ∷ []

abbrev pad : List ℕ → List ℕ
pad ws = four (get_or ws 0 0) (get_or ws 1 0) (get_or ws 2 0) (get_or ws 3 0)

abbrev Fills : List ℕ → ℕ → List ℕ → Type 0
Fills ws n l = (length ws ≡ n) × (pad ws ≡ l)

zeros : (l : List ℕ) → every unused l ≡ true → map (λ x. 0) l ≡ l
unfolding every unused
zeros [] h = refl
zeros (x ∷ l) h = let (h₁, h₂) = and_true (eqb x 0) (every unused l) h in cc (eqb-true x 0 h₁, zeros l h₂)

fills : (n a b c d : ℕ) → n ≤ 4 → every unused (drop n (four a b c d)) ≡ true → Fills (take n (four a b c d)) n (four a b c d)
fills zero a b c d l h = (refl, zeros (a ∷ b ∷ c ∷ d ∷ []) h)
fills (suc zero) a b c d l h = (refl, ap (λ r. a ∷ r) (zeros (b ∷ c ∷ d ∷ []) h))
fills (suc (suc zero)) a b c d l h = (refl, ap (λ r. a ∷ b ∷ r) (zeros (c ∷ d ∷ []) h))
fills (suc (suc (suc zero))) a b c d l h = (refl, ap (λ r. a ∷ b ∷ c ∷ r) (zeros (d ∷ []) h))
fills (suc (suc (suc (suc zero)))) a b c d l h = (refl, refl)
fills (suc (suc (suc (suc (suc n))))) a b c d l h = absurd (omega arith)

empty4_fills : (n a b c d : ℕ) → empty4 n (four a b c d) ≡ true → Fills [] n (four a b c d)
unfolding empty4 unused
empty4_fills n a b c d h = let (h₁, h₂) = and_true (eqb n 0) _ h in (sym (eqb-true n 0 h₁), zeros (four a b c d) h₂)

data4_fills : (n a b c d : ℕ) → data4 n (four a b c d) ≡ true → Fills (take n (four a b c d)) n (four a b c d) × RightTuple (take n (four a b c d))
unfolding data4
data4_fills n a b c d h =
    let (h₁, h₂) = and_true (leb n 4 && every datum (take n (four a b c d))) _ h in
    let (h₃, h₄) = and_true (leb n 4) _ h₁ in
    let f = fills n a b c d (leb-true n 4 h₃) h₂ in
    (f, (omega (arith, leb-true n 4 h₃, f.0), h₄))

take_pad : (ws : List ℕ) → length ws ≤ 4 → take (length ws) (pad ws) ≡ ws
take_pad [] h = refl
take_pad (a ∷ []) h = refl
take_pad (a ∷ b ∷ []) h = refl
take_pad (a ∷ b ∷ c ∷ []) h = refl
take_pad (a ∷ b ∷ c ∷ d ∷ []) h = refl
take_pad (a ∷ b ∷ c ∷ d ∷ e ∷ ws) h = absurd (omega arith)

drop_pad : (ws : List ℕ) → length ws ≤ 4 → every unused (drop (length ws) (pad ws)) ≡ true
unfolding every unused
drop_pad [] h = refl
drop_pad (a ∷ []) h = refl
drop_pad (a ∷ b ∷ []) h = refl
drop_pad (a ∷ b ∷ c ∷ []) h = refl
drop_pad (a ∷ b ∷ c ∷ d ∷ []) h = refl
drop_pad (a ∷ b ∷ c ∷ d ∷ e ∷ ws) h = absurd (omega arith)

right_data4 : (ws : List ℕ) → RightTuple ws → data4 (length ws) (pad ws) ≡ true
unfolding data4
right_data4 ws h = true_and (true_and (le-leb (length ws) 4 h.0) (rw (take_pad ws h.0) h.1)) (drop_pad ws h.0)

right_pattern4 : (ws : List ℕ) → RightTuple ws → distinct ws ≡ true → pattern4 (length ws) (pad ws) ≡ true
unfolding pattern4
right_pattern4 ws h k = true_and (right_data4 ws h) (rw (take_pad ws h.0) k)

-- Bytes and the 16-bit numbers that they say.
byte_small : (b : List ℕ) (i : ℕ) → AreBytes b → byte b i < 256
unfolding byte
byte_small [] i h = omega arith
byte_small (x ∷ b) zero h = h.0
byte_small (x ∷ b) (suc i) h = byte_small b i h.1

pub word-bytes2 : (n : ℕ) → n % 256 + 256 * (n / 256) ≡ n
word-bytes2 n = omega arith

bytes2-word : (x y : ℕ) → x < 256 → bytes2 (x + 256 * y) ≡ x ∷ y ∷ []
unfolding bytes2
bytes2-word x y h = cc (low, high)
  where
    low : (x + 256 * y) % 256 ≡ x
    low = omega arith

    high : (x + 256 * y) / 256 ≡ y
    high = omega arith

-- two bytes of b, and n 16-bit numbers, from byte i on
pub drop_two : (b : List ℕ) (i : ℕ) → suc i < length b → byte b i ∷ byte b (suc i) ∷ drop (suc (suc i)) b ≡ drop i b
unfolding byte
drop_two b i h = cc (drop-cons b i 0 (omega arith), drop-cons b (suc i) 0 h)

unfoldable pub words : ℕ → ℕ → List ℕ → List ℕ
words zero i b = []
words (suc n) i b = bytes2 (word b i) ++ words n (suc (suc i)) b

pub words_drop : (n i : ℕ) (b : List ℕ) → length b ≡ 2 * n + i → AreBytes b → words n i b ≡ drop i b
unfolding words word
words_drop zero i b h k = sym (drop_of_length-le b {i = i} (omega arith))
words_drop (suc n) i b h k =
    rw (bytes2-word (byte b i) (byte b (suc i)) (byte_small b i k), words_drop n (suc (suc i)) b (omega arith) k)
    (drop_two b i (omega arith))

-- a record's bytes by its fields
raw : ℕ → List ℕ → List ℕ
raw k b = k ∷ byte b 1 ∷ words 7 2 b

raw_bytes : (b : List ℕ) → length b ≡ 16 → AreBytes b → raw (byte b 0) b ≡ b
unfolding raw
raw_bytes b h k = rw (words_drop 7 2 b h k) (drop_two b 0 (omega arith))

raw_layout : (b : List ℕ) (k a c i : ℕ) (ws : List ℕ) → a ≡ word b 2 → c ≡ word b 4 → Fills ws (byte b 1) (slots b) → i ≡ word b 14 → layout k a c ws i ≡ raw k b
unfolding raw words layout slots bytes2
raw_layout b k a c i ws p q r s = cc (r.0, r.1)

-- What a record may hold, and what it holds.
abbrev Fits : Contents → List ℕ → Type 0
Fits r b = (r.first (word b 2) ≡ true) × (r.second (word b 4) ≡ true) × (r.tuple (byte b 1) (slots b) ≡ true) × (r.interval (word b 14) ≡ true)

fits : (r : Contents) (b : List ℕ) → right_contents r b ≡ true → Fits r b
unfolding right_contents
fits r b h =
    let (h₁, h₄) = and_true (r.first (word b 2) && r.second (word b 4) && r.tuple (byte b 1) (slots b)) _ h in
    let (h₂, h₃) = and_true (r.first (word b 2) && r.second (word b 4)) _ h₁ in
    let (h₅, h₆) = and_true (r.first (word b 2)) _ h₂ in
    (h₅, h₆, h₃, h₄)

pub unused-zero : (n : ℕ) → unused n ≡ true → 0 ≡ n
unfolding unused
unused-zero n h = sym (eqb-true n 0 h)

-- a record with a tuple, without one, with no field in use
tupled : (b : List ℕ) (k : ℕ) → data4 (byte b 1) (slots b) ≡ true → unused (word b 14) ≡ true
    → (layout k (word b 2) (word b 4) (tuple b) 0 ≡ raw k b) × RightTuple (tuple b)
unfolding slots tuple
tupled b k h z =
    let (f, r) = data4_fills (byte b 1) (word b 6) (word b 8) (word b 10) (word b 12) h in
    (raw_layout b k (word b 2) (word b 4) 0 (tuple b) refl refl f (unused-zero (word b 14) z), r)

bare : (b : List ℕ) (k a i : ℕ) → a ≡ word b 2 → unused (word b 4) ≡ true → empty4 (byte b 1) (slots b) ≡ true → i ≡ word b 14 → layout k a 0 [] i ≡ raw k b
unfolding slots
bare b k a i p h e q = raw_layout b k a 0 i [] p (unused-zero (word b 4) h) (empty4_fills (byte b 1) (word b 6) (word b 8) (word b 10) (word b 12) e) q

plain : (b : List ℕ) (k : ℕ) → unused (word b 2) ≡ true → unused (word b 4) ≡ true → empty4 (byte b 1) (slots b) ≡ true → unused (word b 14) ≡ true → layout k 0 0 [] 0 ≡ raw k b
plain b k p q e r = bare b k 0 0 (unused-zero (word b 2) p) q e (unused-zero (word b 14) r)

pattern_data : (b : List ℕ) → pattern4 (byte b 1) (slots b) ≡ true → (data4 (byte b 1) (slots b) ≡ true) × (distinct (tuple b) ≡ true)
unfolding pattern4 tuple
pattern_data b h = and_true (data4 (byte b 1) (slots b)) _ h

-- A right record is what is read off it, written again; and what is read off it is right.
right_kind : (b : List ℕ) (k : ℕ) → byte b 0 ≡ k → k < 10 → Fits (row_of k).holds b → (record16 (read_node b) ≡ raw k b) × RightNode (read_node b)
unfolding kinds row_of read_node record16 interval unused empty4
right_kind b zero e l h = rw e (plain b 0 h.0 h.1 h.2 h.3, tt)
right_kind b (suc zero) e l h = rw e (bare b 1 (word b 2) 0 refl h.1 h.2 (unused-zero (word b 14) h.3), h.0)
right_kind b (suc (suc zero)) e l h = let (r, t) = tupled b 2 h.2 h.3 in rw e (r, (h.0, h.1, t))
right_kind b (suc (suc (suc zero))) e l h = let (f, d) = pattern_data b h.2 in let (r, t) = tupled b 3 f h.3 in rw e (r, (h.0, h.1, t, d))
right_kind b (suc (suc (suc (suc zero)))) e l h = rw e (bare b 4 0 (word b 14) (unused-zero (word b 2) h.0) h.1 h.2 refl, ltb-true (word b 14) 65536 h.3)
right_kind b (suc (suc (suc (suc (suc zero))))) e l h = rw e (plain b 5 h.0 h.1 h.2 h.3, tt)
right_kind b (suc (suc (suc (suc (suc (suc zero)))))) e l h = rw e (plain b 6 h.0 h.1 h.2 h.3, tt)
right_kind b (suc (suc (suc (suc (suc (suc (suc zero))))))) e l h = rw e (plain b 7 h.0 h.1 h.2 h.3, tt)
right_kind b (suc (suc (suc (suc (suc (suc (suc (suc zero)))))))) e l h = rw e (bare b 8 (word b 2) 0 refl h.1 h.2 (unused-zero (word b 14) h.3), h.0)
right_kind b (suc (suc (suc (suc (suc (suc (suc (suc (suc zero))))))))) e l h = rw e (plain b 9 h.0 h.1 h.2 h.3, tt)
right_kind b (suc (suc (suc (suc (suc (suc (suc (suc (suc (suc k)))))))))) e l h = absurd (omega arith)

pub right_record_lem : (b : List ℕ) → length b ≡ 16 → AreBytes b → right_record b ≡ true → (record16 (read_node b) ≡ b) × RightNode (read_node b)
unfolding right_record kinds
right_record_lem b l k h =
    let (m, f) = and_true (ltb (byte b 0) (length kinds)) _ h in
    let (r, n) = right_kind b (byte b 0) refl (ltb-true (byte b 0) (length kinds) m) (fits (row_of (byte b 0)).holds b f) in
    (r ∙ raw_bytes b l k, n)

-- The other way: a right node's bytes are a right record, and the node is read off them.
layout_right : (k a c i : ℕ) (ws : List ℕ) → ltb k (length kinds) ≡ true → (row_of k).holds.first a ≡ true → (row_of k).holds.second c ≡ true → (row_of k).holds.tuple (length ws) (pad ws) ≡ true → (row_of k).holds.interval i ≡ true
    → right_record (layout k a c ws i) ≡ true
unfolding right_record right_contents layout bytes2 word byte slots
layout_right k a c i ws l p q t s = simp word-bytes2 (true_and l (true_and (true_and (true_and p q) t) s))

pub record-right : (n : Node) → RightNode n → right_record (record16 n) ≡ true
unfolding kinds row_of record16 unused empty4 every interval
record-right (basic nil) h = layout_right 0 0 0 0 [] refl refl refl refl refl
record-right (basic (kill k)) h = layout_right 1 k 0 0 [] refl h refl refl refl
record-right (basic (invoke p o ws)) h = layout_right 2 p o 0 ws refl h.0 h.1 (right_data4 ws h.2) refl
record-right (prefix (receive p o ws)) h = layout_right 3 p o 0 ws refl h.0 h.1 (right_pattern4 ws h.2 h.3) refl
record-right (prefix (wait n)) h = layout_right 4 0 0 n [] refl refl refl refl (lt-ltb n 65536 h)
record-right (prefix protection) h = layout_right 7 0 0 0 [] refl refl refl refl refl
record-right (prefix (delimitation d)) h = layout_right 8 d 0 0 [] refl h refl refl refl
record-right (prefix replication) h = layout_right 9 0 0 0 [] refl refl refl refl refl
record-right (join choice) h = layout_right 5 0 0 0 [] refl refl refl refl refl
record-right (join parallel) h = layout_right 6 0 0 0 [] refl refl refl refl refl

pub node_record16 : (n : Node) → RightNode n → read_node (record16 n) ≡ n
unfolding read_node record16 layout bytes2 byte word slots tuple
node_record16 (basic nil) h = refl
node_record16 (basic (kill k)) h = rw (word-bytes2 k)
node_record16 (basic (invoke p o ws)) h = simp (word-bytes2, take_pad ws h.2.0)
node_record16 (prefix (receive p o ws)) h = simp (word-bytes2, take_pad ws h.2.0)
node_record16 (prefix (wait n)) h = rw (word-bytes2 n)
node_record16 (prefix protection) h = refl
node_record16 (prefix (delimitation d)) h = rw (word-bytes2 d)
node_record16 (prefix replication) h = refl
node_record16 (join choice) h = refl
node_record16 (join parallel) h = refl

-- A right node's bytes are bytes.
pub small_atom : (a : ℕ) → atom a ≡ true → a < 65536
small_atom a h = set_case (a < 65536) a h (λ e. omega (arith, value-range a e)) (λ e. omega (arith, variable-range a e)) (λ e. omega (arith, label-range a e))

pub small_datum : (a : ℕ) → datum a ≡ true → a < 65536
unfolding atom
small_datum a h = small_atom a (or_left (datum a) (label a) h)

small_slot : (ws : List ℕ) → every datum ws ≡ true → (i : ℕ) → get_or ws i 0 < 65536
unfolding every
small_slot [] h i = omega arith
small_slot (w ∷ ws) h zero = small_datum w (and_true (datum w) _ h).0
small_slot (w ∷ ws) h (suc i) = small_slot ws (and_true (datum w) _ h).1 i

layout-bytes : (k a c i : ℕ) (ws : List ℕ) → (k < 256) × (a < 65536) × (c < 65536) × (i < 65536) → RightTuple ws → AreBytes (layout k a c ws i)
unfolding layout bytes2
layout-bytes k a c i ws l h = omega (arith, small_slot ws h.1 0, small_slot ws h.1 1, small_slot ws h.1 2, small_slot ws h.1 3)

bare-bytes : (k a i : ℕ) → (k < 256) × (a < 65536) × (i < 65536) → AreBytes (layout k a 0 [] i)
unfolding every
bare-bytes k a i l = layout-bytes k a 0 i [] (omega arith) (omega arith, refl)

pub record_bytes : (n : Node) → RightNode n → AreBytes (record16 n)
unfolding record16
record_bytes (basic nil) h = bare-bytes 0 0 0 (omega arith)
record_bytes (basic (kill k)) h = bare-bytes 1 k 0 (omega (arith, label-range k h))
record_bytes (basic (invoke p o ws)) h = layout-bytes 2 p o 0 ws (omega (arith, small_datum p h.0, small_datum o h.1)) h.2
record_bytes (prefix (receive p o ws)) h = layout-bytes 3 p o 0 ws (omega (arith, value-range p h.0, value-range o h.1)) h.2
record_bytes (prefix (wait n)) h = bare-bytes 4 0 n (omega arith)
record_bytes (prefix protection) h = bare-bytes 7 0 0 (omega arith)
record_bytes (prefix (delimitation d)) h = bare-bytes 8 d 0 (omega (arith, small_atom d h))
record_bytes (prefix replication) h = bare-bytes 9 0 0 (omega arith)
record_bytes (join choice) h = bare-bytes 5 0 0 (omega arith)
record_bytes (join parallel) h = bare-bytes 6 0 0 (omega arith)
