-- Laws of specs/Format: a term is read back from its records and from its bytes, and records of the right shape are their term's; the encoding
-- of a right term is made of bytes, and no other right term has it.
use mathlib.Core.Path.{◌≡◌, refl, sym, ap, ◌∙◌}
use mathlib.Core.Option.{none, some}
use mathlib.Core.List.{List, [], ◌∷◌, ◌++◌, map, append_assoc, flat_map}
use Prim.Native.Nat.{ℕ, suc, ◌+◌, ◌*◌}
use native.Mathlib.Omega.{arith}
use lib.ListN.{length, length-append}
use Rattle.cows.specs.Terms.{nil, Term, leaf, under, both, size}
use Rattle.cows.specs.Kinds.{Node, basic, prefix, join}
use Rattle.cows.specs.Format.{AreBytes, nodes, record16, bytes, encode, read_node, records, push, build, decode}
use Rattle.cows.specs.Tables.{end_of, children, misshapen}
use Rattle.cows.specs.Within.{Right}
use Rattle.cows.specs.Basics.{All}
use Rattle.cows.proofs.Rows.{children-leaf, children-under, children-both, length_record16}
use Rattle.cows.proofs.Records.{RightNode, node_record16, record_bytes}
use Rattle.cows.proofs.Cut.{all_append, append_all, length_write, cut_write, read_written, write_bytes}
use Rattle.cows.proofs.Built.{nodes_ended, nodes_built, built_nodes}
use Rattle.cows.proofs.Ends.{end_append, end_none, end_one}

-- Terms and their records: read back, whatever follows.
pub length-nodes : (t : Term) → length (nodes t) ≡ size t
unfolding nodes size
length-nodes (leaf x) = refl
length-nodes (under u t) = ap suc (length-nodes t)
length-nodes (both j s t) = ap suc (length-append (nodes s) (nodes t) ∙ omega (arith, length-nodes s, length-nodes t))

pub build-nodes : (t : Term) (ns : List Node) → build push (nodes t ++ ns) ≡ t ∷ build push ns
unfolding build push nodes
build-nodes (leaf x) ns = refl
build-nodes (under u t) ns = ap (push (prefix u)) (build-nodes t ns)
build-nodes (both j s t) ns = rw (append_assoc (nodes s) (nodes t) ns, build-nodes s (nodes t ++ ns), build-nodes t ns) refl

pub decode-nodes : (t : Term) → decode (nodes t) ≡ t
unfolding decode
decode-nodes = built_nodes nodes push build-nodes (leaf nil)

-- a term ends behind its records
end-nodes : (t : Term) (n : ℕ) → end_of children 1 n (nodes t) ≡ some (n + length (nodes t))
unfolding nodes
end-nodes (leaf x) n = end_one children n (basic x) [] 0 (children-leaf x) ∙ (end_none children (suc n) [] ∙ ap some (omega arith))
end-nodes (under u t) n = end_one children n (prefix u) (nodes t) 1 (children-under u) ∙ (end-nodes t (suc n) ∙ ap some (omega arith))
end-nodes (both j s t) n =
    end_one children n (join j) (nodes s ++ nodes t) 2 (children-both j)
    ∙ (end_append children 1 1 (suc n) (nodes s) (nodes t) (end-nodes s (suc n))
    ∙ (end-nodes t (suc n + length (nodes s)) ∙ ap some (omega (arith, length-append (nodes s) (nodes t)))))

pub nodes_shaped : (t : Term) → misshapen (nodes t) ≡ none
unfolding misshapen
nodes_shaped = nodes_ended children nodes end-nodes

-- records of the right shape are the records of the term read off them
push_flat : (r : Node) (ts : List Term) (w : ℕ) → length ts ≡ children r + w → (length (push r ts) ≡ suc w) × (flat_map nodes (push r ts) ≡ r ∷ flat_map nodes ts)
unfolding push flat_map nodes
push_flat (basic x) ts w h = (omega (arith, children-leaf x), refl)
push_flat (prefix u) [] w h = absurd (omega (arith, children-under u))
push_flat (prefix u) (t ∷ ts) w h = (omega (arith, children-under u), refl)
push_flat (join j) [] w h = absurd (omega (arith, children-both j))
push_flat (join j) (s ∷ []) w h = absurd (omega (arith, children-both j))
push_flat (join j) (s ∷ t ∷ ts) w h = (omega (arith, children-both j), ap (λ l. join j ∷ l) (append_assoc (nodes s) (nodes t) (flat_map nodes ts)))

pub nodes-decode : (ns : List Node) → misshapen ns ≡ none → nodes (decode ns) ≡ ns
unfolding decode misshapen
nodes-decode = nodes_built children nodes push push_flat (leaf nil)

-- the records of a term are right exactly if the term is
abbrev pub RightNodes : List Node → Type 0
RightNodes ns = All RightNode ns

pub right_nodes : (t : Term) → Right t → RightNodes (nodes t)
unfolding nodes
right_nodes (leaf x) h = (h, tt)
right_nodes (under u t) h = (h.0, right_nodes t h.1)
right_nodes (both j s t) h = (tt, all_append RightNode (nodes s) (nodes t) (right_nodes s h.0) (right_nodes t h.1))

pub nodes_right : (t : Term) → RightNodes (nodes t) → Right t
unfolding nodes
nodes_right (leaf x) h = h.0
nodes_right (under u t) h = (h.0, nodes_right t h.1)
nodes_right (both j s t) h = let (k, l) = append_all RightNode (nodes s) (nodes t) h.1 in (nodes_right s k, nodes_right t l)

-- Records and their bytes: cut into 16s, the bytes are the records' again.
pub length-bytes : (ns : List Node) → length (bytes ns) ≡ 16 * length ns
length-bytes = length_write 16 record16 length_record16

pub records_bytes : (ns : List Node) → records (bytes ns) ≡ map record16 ns
records_bytes = cut_write 16 record16 length_record16 (omega arith)

pub length-encode : (t : Term) → length (encode t) ≡ 16 * size t
unfolding encode
length-encode t = length-bytes (nodes t) ∙ ap (λ m. 16 * m) (length-nodes t)

-- the records of a right term, read off its bytes
pub nodes-encode : (t : Term) → Right t → map read_node (records (encode t)) ≡ nodes t
unfolding encode
nodes-encode t h = read_written record16 RightNode 16 length_record16 (omega arith) read_node node_record16 (nodes t) (right_nodes t h)

pub decode-encode : (t : Term) → Right t → decode (map read_node (records (encode t))) ≡ t
decode-encode t h = ap decode (nodes-encode t h) ∙ decode-nodes t

pub encode_injective : (s t : Term) → Right s → Right t → encode s ≡ encode t → s ≡ t
encode_injective s t h k e = sym (decode-encode s h) ∙ (ap (λ b. decode (map read_node (records b))) e ∙ decode-encode t k)

-- made of bytes
pub encode-bytes : (t : Term) → Right t → AreBytes (encode t)
unfolding encode
encode-bytes t h = write_bytes record16 RightNode record_bytes (nodes t) (right_nodes t h)
