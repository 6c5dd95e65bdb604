-- Laws of specs/Tables: the table of a term within the limits is accepted as that term, and every accepted table is such a table.
use mathlib.Core.Path.{◌≡◌, ap, ◌∙◌}
use mathlib.Core.Bool.{false, not, ◌||◌}
use mathlib.Core.Option.{none}
use mathlib.Core.List.{List, map}
use Prim.Native.Nat.{ℕ, ◌*◌, ◌%◌, ◌≤◌}
use native.Mathlib.Omega.{arith}
use lib.Dec.{ltb, eqb}
use lib.ListN.{length}
use borrow.Author.Tests.{eqb-true, ltb-false, eq-eqb, ne_eqb, le-ltb, not-false}
use Rattle.cows.specs.Basics.{accept, place_if, ◌>>◌, forbid}
use Rattle.cows.specs.Terms.{Term, size, depth}
use Rattle.cows.specs.Kinds.{Node}
use Rattle.cows.specs.Places.{first}
use Rattle.cows.specs.Format.{AreBytes, nodes, record16, bytes, encode, right_record, read_node, records, decode}
use Rattle.cows.specs.Tables.{wrong_length, first_wrong, misshapen, too_deep, no_guard, unbound, clash, judge_term, judge}
use Rattle.cows.specs.Within.{Right, Formed, Within}
use Rattle.cows.proofs.Basics.{or_false, place_if-none, forbid-accept, same_accept}
use Rattle.cows.proofs.Places.{size_pos}
use Rattle.cows.proofs.Records.{right_record_lem, record-right, RightNode}
use Rattle.cows.proofs.Format.{RightNodes, right_nodes, nodes_right, decode-nodes, nodes_shaped, nodes-decode, records_bytes, length-encode, nodes-encode}
use Rattle.cows.proofs.Refusals.{shallow_first, first_shallow, formed_first, first_formed}
use Rattle.cows.proofs.Cut.{none_failing, write_passes, cut_right}

-- 1: the length.
pub right_length : (b : List ℕ) → wrong_length b ≡ false → (length b ≤ 32768) × (length b % 16 ≡ 0)
unfolding wrong_length
right_length b e =
    let (e₁, e₂) = or_false (eqb (length b) 0 || ltb 32768 (length b)) (not (eqb (length b % 16) 0)) e in
    let (e₃, e₄) = or_false (eqb (length b) 0) (ltb 32768 (length b)) e₁ in
    (ltb-false 32768 (length b) e₄, eqb-true (length b % 16) 0 (not-false _ e₂))

encode-length : (t : Term) → size t ≤ 2048 → wrong_length (encode t) ≡ false
unfolding wrong_length
encode-length t h =
    let p = size_pos t in
    rw (length-encode t, ne_eqb (16 * size t) 0 (λ e. omega arith), le-ltb 32768 (16 * size t) (omega arith), eq-eqb (16 * size t % 16) 0 (omega arith))

-- 2: the records, each of 16 bytes.
encode_right : (t : Term) → Right t → first_wrong 0 (records (encode t)) ≡ none
unfolding encode
encode_right t h = rw (records_bytes (nodes t)) (none_failing right_record 0 _ (write_passes record16 RightNode right_record record-right (nodes t) (right_nodes t h)))

-- 4 to 7: the term.
judge_term-accept : (t s : Term) → judge_term t ≡ accept s → (t ≡ s) × Formed t × (depth t ≤ 256)
unfolding judge_term
judge_term-accept t s e =
    let (e₄, k₄) = forbid-accept 4 (first too_deep t) _ s e in
    let (e₅, k₅) = forbid-accept 5 (first no_guard t) _ s k₄ in
    let (e₆, k₆) = forbid-accept 6 (first unbound t) _ s k₅ in
    let (e₇, k₇) = forbid-accept 7 (first (clash t) t) _ s k₆ in
    (same_accept k₇, first_formed t e₅ e₆ e₇, first_shallow t e₄)

accept-judge_term : (t : Term) → Formed t → depth t ≤ 256 → judge_term t ≡ accept t
unfolding judge_term ◌>>◌ forbid
accept-judge_term t f h = let (e₅, e₆, e₇) = formed_first t f in rw (shallow_first t h, e₅, e₆, e₇)

-- An accepted table is the encoding of its term, which is within the limits.
shaped : (ns : List Node) → misshapen ns ≡ none → RightNodes ns → (encode (decode ns) ≡ bytes ns) × Right (decode ns)
unfolding encode
shaped ns e h = let n = nodes-decode ns e in (ap bytes n, nodes_right (decode ns) (rw n h))

-- right records of the right shape are the table of the term that they are read as
pub records_hold : (b : List ℕ) → AreBytes b → length b % 16 ≡ 0 → first_wrong 0 (records b) ≡ none → misshapen (map read_node (records b)) ≡ none
    → (encode (decode (map read_node (records b))) ≡ b) × Right (decode (map read_node (records b)))
records_hold b k z e₂ e₃ =
    let (w, r) = cut_right record16 RightNode 16 read_node right_record right_record_lem b z k e₂ in
    let (y, g) = shaped (map read_node (records b)) e₃ r in
    (y ∙ w, g)

judged : (b : List ℕ) (t : Term) → AreBytes b → judge b ≡ accept t → (length b ≤ 32768) × ((encode t ≡ b) × Right t) × (Formed t × (depth t ≤ 256))
unfolding judge
judged b t k e =
    let (e₁, k₁) = forbid-accept 1 (place_if (wrong_length b) 0) _ t e in
    let (e₂, k₂) = forbid-accept 2 (first_wrong 0 (records b)) _ t k₁ in
    let (e₃, k₃) = forbid-accept 3 (misshapen (map read_node (records b))) _ t k₂ in
    let (q, f, d) = judge_term-accept (decode (map read_node (records b))) t k₃ in
    let (l, z) = right_length b (place_if-none (wrong_length b) 0 e₁) in
    rw (← q) (l, records_hold b k z e₂ e₃, (f, d))

pub judge-encode : (b : List ℕ) (t : Term) → AreBytes b → judge b ≡ accept t → encode t ≡ b
judge-encode b t k e = (judged b t k e).1.0

pub judge-within : (b : List ℕ) (t : Term) → AreBytes b → judge b ≡ accept t → Within t
judge-within b t k e =
    let (l, (y, g), (f, d)) = judged b t k e in
    record { right = g; formed = f; small = omega (arith, length-encode t, ap length y); shallow = d }

-- The encoding of a term within the limits is accepted.
pub within-judge : (t : Term) → Within t → judge (encode t) ≡ accept t
unfolding judge encode place_if ◌>>◌ forbid
within-judge t h =
    rw (encode-length t h.small, nodes-encode t h.right, encode_right t h.right, nodes_shaped t, decode-nodes t) (accept-judge_term t h.formed h.shallow)
