-- Terms that stand at a byte of a table (specs/Rewrites): their first record, their children, their places in a table that holds a term.
use mathlib.Core.Path.{◌≡◌, refl, sym, ap, subst, ◌∙◌}
use mathlib.Core.List.{List, [], ◌++◌, append-nil, flat_map}
use Prim.Native.Nat.{ℕ, ◌+◌, ◌*◌, ◌/◌, ◌≤◌, ◌<◌}
use native.Mathlib.Omega.{arith}
use lib.ListN.{length, take, drop, get_or}
use Rattle.cows.specs.Terms.{Basic, Prefix, Join, Term, leaf, under, both, size}
use Rattle.cows.specs.Kinds.{basic, prefix, join, root, kind_of, children_of}
use Rattle.cows.specs.Places.{sub}
use Rattle.cows.specs.Format.{byte, word, nodes, record16, encode}
use Rattle.cows.proofs.Places.{size_pos}
use Rattle.cows.proofs.Rows.{record_kind, arity, children_of_lem, length_record16}
use Rattle.cows.proofs.Format.{length-encode}
use Rattle.cows.proofs.Fields.{append_bytes, first-bytes, table_at, kind_at, word_at}
use Rattle.records.specs.Holds.{Holds}
use Rattle.records.specs.Rewrites.{Has, StandsIn}
use Rattle.records.proofs.Put.{has_left, has_right, has_take, has_fits, has_byte}

-- A term's bytes: its first record, then its children's.
pub encode-leaf : (x : Basic) → encode (leaf x) ≡ record16 (basic x)
unfolding encode nodes flat_map
encode-leaf x = append-nil (record16 (basic x))

pub encode-under : (u : Prefix) (t : Term) → encode (under u t) ≡ record16 (prefix u) ++ encode t
unfolding encode nodes flat_map
encode-under u t = refl

pub encode-both : (j : Join) (s t : Term) → encode (both j s t) ≡ record16 (join j) ++ (encode s ++ encode t)
unfolding encode nodes flat_map
encode-both j s t = ap (λ l. record16 (join j) ++ l) (append_bytes (nodes s) (nodes t))

pub long : (t : Term) → 16 ≤ length (encode t)
long t = omega (arith, length-encode t, size_pos t)

-- A term whose table s is stands at its first byte.
pub whole_stands : {s : List ℕ} (t : Term) → s ≡ encode t → StandsIn s 0 t
whole_stands t e = record { rest = []; is = e ∙ sym (append-nil (encode t)) }

-- A term at byte i of s.
module _ {s : List ℕ} {i : ℕ} where
  pub stands_first : (t : Term) → StandsIn s i t → Has s i (record16 (root t))
  stands_first t h = let (b, e) = first-bytes t in has_left (record16 (root t)) b (subst (Has s i) e h)

  pub stands_record : (t : Term) → StandsIn s i t → take 16 (drop i s) ≡ record16 (root t)
  stands_record t h = rw (length_record16 (root t)) at (has_take (record16 (root t)) (stands_first t h))

  pub stands_kind : (t : Term) → StandsIn s i t → get_or s i 0 ≡ kind_of t
  unfolding kind_of byte
  stands_kind t h =
      let z : i ≡ i + 0 = omega arith in
      ap (λ k. get_or s k 0) z ∙ (has_byte (record16 (root t)) 0 (omega (arith, length_record16 (root t))) (stands_first t h) ∙ record_kind (root t))

  pub stands_children : (t : Term) → StandsIn s i t → children_of (get_or s i 0) ≡ arity t
  stands_children t h = ap children_of (stands_kind t h) ∙ children_of_lem t

  pub stands_fits : (t : Term) → StandsIn s i t → i + length (encode t) ≤ length s
  stands_fits t h = has_fits (encode t) (omega (arith, long t)) h

  pub stands_under : (u : Prefix) (t : Term) → StandsIn s i (under u t) → StandsIn s (i + 16) t
  stands_under u t h = has_right (record16 (prefix u)) (encode t) (i + 16) (rw (length_record16 (prefix u))) (subst (Has s i) (encode-under u t) h)

  stands_below : (j : Join) (l r : Term) → StandsIn s i (both j l r) → Has s (i + 16) (encode l ++ encode r)
  stands_below j l r h = has_right (record16 (join j)) (encode l ++ encode r) (i + 16) (rw (length_record16 (join j))) (subst (Has s i) (encode-both j l r) h)

  pub stands_left : (j : Join) (l r : Term) → StandsIn s i (both j l r) → StandsIn s (i + 16) l
  stands_left j l r h = has_left (encode l) (encode r) (stands_below j l r h)

  pub stands_right : (j : Join) (l r : Term) (p : ℕ) → p ≡ i + 16 + length (encode l) → StandsIn s i (both j l r) → StandsIn s p r
  stands_right j l r p e h = has_right (encode l) (encode r) p e (stands_below j l r h)

-- the part at a place of a term stands there in its table
pub part_stands : (t : Term) (n : ℕ) → n < size t → StandsIn (encode t) (16 * n) (sub t n)
part_stands t n l = let (b, e) = table_at t n l in record { rest = b; is = e }

pub holds_stands : (s : List ℕ) (t : Term) (n : ℕ) → Holds s t → n < size t → StandsIn s (16 * n) (sub t n)
holds_stands s t n h l = rw h.is (part_stands t n l)

-- A table that holds a term: as many records as the term has, and at each place the kind and the numbers of the part there.
pub holds_size : (s : List ℕ) (t : Term) → Holds s t → length s / 16 ≡ size t
holds_size s t h = omega (arith, ap length h.is ∙ length-encode t)

pub holds_kind : (s : List ℕ) (t : Term) (j : ℕ) → Holds s t → j < size t → get_or s (16 * j) 0 ≡ kind_of (sub t j)
holds_kind s t j h l = ap (λ b. get_or b (16 * j) 0) h.is ∙ kind_at t j l

pub holds_word : (s : List ℕ) (t : Term) (j i : ℕ) → Holds s t → j < size t → i < 15 → word s (16 * j + i) ≡ word (record16 (root (sub t j))) i
holds_word s t j i h l k = ap (λ b. word b (16 * j + i)) h.is ∙ word_at t j i l k
