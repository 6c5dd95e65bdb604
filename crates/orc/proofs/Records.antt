-- Laws of one record of a script (specs/Scripts): its 8 bytes are right exactly if they are a right node's, and then each is read off the other.
use mathlib.Core.Path.{◌≡◌, refl, ◌∙◌}
use mathlib.Core.Bool.{true, ◌&&◌}
use mathlib.Core.List.{List, ◌∷◌}
use Prim.Native.Nat.{ℕ, zero, suc, ◌<◌}
use native.Mathlib.Omega.{arith}
use lib.Dec.{ltb}
use lib.ListN.{length, get_or}
use borrow.Author.Tests.{ltb-true}
use Rattle.cows.specs.Terms.{variable}
use Rattle.cows.specs.Kinds.{unused}
use Rattle.cows.specs.Format.{AreBytes, bytes2, byte, word}
use Rattle.cows.proofs.Basics.{and_true, true_and}
use Rattle.cows.proofs.Sets.{value-range, variable-range}
use Rattle.cows.proofs.Records.{word-bytes2, words, words_drop, drop_two, unused-zero, small_datum}
use Rattle.orc.specs.Expressions.{nothing, call, sequential, symmetric, asymmetric, RightAct, RightComposition}
use Rattle.orc.specs.Scripts.{OrcNode, single, joining, layout8, record8, OrcRow, orc_row, orc_kinds, right_row, right_record8, read_orc_node}

abbrev pub RightOrcNode : OrcNode → Type 0
RightOrcNode (single x) = RightAct x
RightOrcNode (joining c) = RightComposition c

abbrev row_at : ℕ → OrcRow
row_at k = get_or orc_kinds k (orc_row unused unused unused)

-- a record's bytes by its fields
raw : ℕ → List ℕ → List ℕ
raw k b = k ∷ byte b 1 ∷ words 3 2 b

raw_bytes : (b : List ℕ) → length b ≡ 8 → AreBytes b → raw (byte b 0) b ≡ b
unfolding raw
raw_bytes b h k = rw (words_drop 3 2 b h k) (drop_two b 0 (omega arith))

raw_layout : (b : List ℕ) (k a s q : ℕ) → 0 ≡ byte b 1 → a ≡ word b 2 → s ≡ word b 4 → q ≡ word b 6 → layout8 k a s q ≡ raw k b
unfolding raw words layout8 bytes2
raw_layout b k a s q z x y w = cc

-- what a row says of a record's fields
abbrev Fits : OrcRow → List ℕ → Type 0
Fits r b = (r.atom (word b 2) ≡ true) × (r.partner (word b 4) ≡ true) × (r.operation (word b 6) ≡ true)

fits : (r : OrcRow) (b : List ℕ) → right_row r b ≡ true → Fits r b
unfolding right_row
fits r b h =
    let (h₁, h₂) = and_true (r.atom (word b 2) && r.partner (word b 4)) _ h in
    let (h₃, h₄) = and_true (r.atom (word b 2)) _ h₁ in
    (h₃, h₄, h₂)

plain : (b : List ℕ) (k : ℕ) → 0 ≡ byte b 1 → Fits (orc_row unused unused unused) b → layout8 k 0 0 0 ≡ raw k b
plain b k z h = raw_layout b k 0 0 0 z (unused-zero (word b 2) h.0) (unused-zero (word b 4) h.1) (unused-zero (word b 6) h.2)

binding : (b : List ℕ) (k : ℕ) → 0 ≡ byte b 1 → Fits (orc_row variable unused unused) b → layout8 k (word b 2) 0 0 ≡ raw k b
binding b k z h = raw_layout b k (word b 2) 0 0 z refl (unused-zero (word b 4) h.1) (unused-zero (word b 6) h.2)

right_kind : (b : List ℕ) (k : ℕ) → byte b 0 ≡ k → k < 5 → 0 ≡ byte b 1 → Fits (row_at k) b → (record8 (read_orc_node b) ≡ raw k b) × RightOrcNode (read_orc_node b)
unfolding orc_kinds read_orc_node record8 unused
right_kind b zero e l z h = rw e (plain b 0 z h, tt)
right_kind b (suc zero) e l z h = rw e (raw_layout b 1 (word b 2) (word b 4) (word b 6) z refl refl refl, (h.1, h.2, h.0))
right_kind b (suc (suc zero)) e l z h = rw e (binding b 2 z h, h.0)
right_kind b (suc (suc (suc zero))) e l z h = rw e (plain b 3 z h, tt)
right_kind b (suc (suc (suc (suc zero)))) e l z h = rw e (binding b 4 z h, h.0)
right_kind b (suc (suc (suc (suc (suc k))))) e l z h = absurd (omega arith)

pub right_record8_lem : (b : List ℕ) → length b ≡ 8 → AreBytes b → right_record8 b ≡ true → (record8 (read_orc_node b) ≡ b) × RightOrcNode (read_orc_node b)
unfolding right_record8 orc_kinds
right_record8_lem b l k h =
    let (h₁, f) = and_true (ltb (byte b 0) (length orc_kinds) && unused (byte b 1)) _ h in
    let (m, z) = and_true (ltb (byte b 0) (length orc_kinds)) _ h₁ in
    let (r, n) = right_kind b (byte b 0) refl (ltb-true (byte b 0) (length orc_kinds) m) (unused-zero (byte b 1) z) (fits (row_at (byte b 0)) b f) in
    (r ∙ raw_bytes b l k, n)

-- The other way: a right node's bytes are a right record, and the node is read off them.
layout_right : (k a s q : ℕ) → ltb k (length orc_kinds) ≡ true → (row_at k).atom a ≡ true → (row_at k).partner s ≡ true → (row_at k).operation q ≡ true → right_record8 (layout8 k a s q) ≡ true
unfolding right_record8 right_row layout8 bytes2 word byte unused
layout_right k a s q l x y z = simp word-bytes2 (true_and (true_and l refl) (true_and (true_and x y) z))

pub record8-right : (n : OrcNode) → RightOrcNode n → right_record8 (record8 n) ≡ true
unfolding orc_kinds record8 unused
record8-right (single nothing) h = layout_right 0 0 0 0 refl refl refl refl
record8-right (single (call s q w)) h = layout_right 1 w s q refl h.2 h.0 h.1
record8-right (joining (sequential x)) h = layout_right 2 x 0 0 refl h refl refl
record8-right (joining symmetric) h = layout_right 3 0 0 0 refl refl refl refl
record8-right (joining (asymmetric x)) h = layout_right 4 x 0 0 refl h refl refl

pub node_record8 : (n : OrcNode) → read_orc_node (record8 n) ≡ n
unfolding read_orc_node record8 layout8 bytes2 byte word
node_record8 (single nothing) = refl
node_record8 (single (call s q w)) = simp word-bytes2
node_record8 (joining (sequential x)) = rw (word-bytes2 x)
node_record8 (joining symmetric) = refl
node_record8 (joining (asymmetric x)) = rw (word-bytes2 x)

pub length_record8 : (n : OrcNode) → length (record8 n) ≡ 8
unfolding record8 layout8 bytes2
length_record8 (single nothing) = refl
length_record8 (single (call s q w)) = refl
length_record8 (joining (sequential x)) = refl
length_record8 (joining symmetric) = refl
length_record8 (joining (asymmetric x)) = refl

-- A right node's bytes are bytes.
layout8-bytes : (k a s q : ℕ) → (k < 256) × (a < 65536) × (s < 65536) × (q < 65536) → AreBytes (layout8 k a s q)
unfolding layout8 bytes2
layout8-bytes k a s q l = omega arith

pub record8_bytes : (n : OrcNode) → RightOrcNode n → AreBytes (record8 n)
unfolding record8
record8_bytes (single nothing) h = layout8-bytes 0 0 0 0 (omega arith)
record8_bytes (single (call s q w)) h = layout8-bytes 1 w s q (omega (arith, value-range s h.0, value-range q h.1, small_datum w h.2))
record8_bytes (joining (sequential x)) h = layout8-bytes 2 x 0 0 (omega (arith, variable-range x h))
record8_bytes (joining symmetric) h = layout8-bytes 3 0 0 0 (omega arith)
record8_bytes (joining (asymmetric x)) h = layout8-bytes 4 x 0 0 (omega (arith, variable-range x h))
