-- Laws of records whose atoms change (specs/Mapped), for renamings and substitutions alike: mapping every atom of a term is mapping every field of its records.
use mathlib.Core.Path.{◌≡◌, refl, sym, ap, ap₂, ◌∙◌}
use mathlib.Core.Bool.{true}
use mathlib.Core.List.{List, [], ◌∷◌, ◌++◌, map, flat_map, append_assoc}
use Prim.Native.Nat.{ℕ, zero, suc, ◌+◌, ◌*◌, ◌/◌, ◌%◌, ◌≤◌, ◌<◌}
use native.Mathlib.Omega.{arith}
use lib.Dec.{eqb}
use lib.ListN.{length, get_or, take, drop, length-append, length-drop, length-map, get_or-map, take-append-drop}
use lib.Seq.{take_all, drop-cons, take-take, take-add, drop_at, drop-drop, length-take-le}
use borrow.Author.Tests.{eq-eqb}
use Rattle.cows.specs.Basics.{any, member}
use Rattle.cows.specs.Terms.{Basic, nil, kill, invoke, Prefix, receive, wait, protection, delimitation, replication, choice, parallel, Term, leaf, under, both, size, delimits, uses_basic, uses_prefix, optional, atoms}
use Rattle.cows.specs.Kinds.{Node, basic, prefix, join}
use Rattle.cows.specs.Format.{byte, bytes2, word, nodes, layout, record16, bytes, encode}
use Rattle.cows.specs.Moves.{map_basic, map_prefix, map_atoms}
use Rattle.cows.proofs.Basics.{or_left, or_right, member_append}
use Rattle.cows.proofs.Fields.{layout-first, layout_second, layout-slot}
use Rattle.records.specs.Rewrites.{put, StandsIn}
use Rattle.records.proofs.Put.{and_then}
use Rattle.records.proofs.Pieces.{piece, byte_piece, word_piece}
use Rattle.renaming.specs.Mapped.{map_node, tuple_bytes, with_atoms, map_record, mapped, named}
use Rattle.renaming.proofs.Across.{across_term}

-- the records of a mapped term
map_append : (f : Node → Node) (xs ys : List Node) → map f (xs ++ ys) ≡ map f xs ++ map f ys
map_append f [] ys = refl
map_append f (x ∷ xs) ys = ap (λ l. f x ∷ l) (map_append f xs ys)

pub nodes-mapped : (f : ℕ → ℕ) (t : Term) → nodes (map_atoms f t) ≡ map (map_node f) (nodes t)
unfolding nodes map_atoms map_node
nodes-mapped f (leaf x) = refl
nodes-mapped f (under u t) = ap (λ l. prefix (map_prefix f u) ∷ l) (nodes-mapped f t)
nodes-mapped f (both j s t) = rw (nodes-mapped f s, nodes-mapped f t, map_append (map_node f) (nodes s) (nodes t))

-- Maps that agree on the atoms of a term map it alike.
abbrev pub Agree : (ℕ → ℕ) → (ℕ → ℕ) → List ℕ → Type 0
Agree f g l = (a : ℕ) → member a l ≡ true → f a ≡ g a

module _ (f g : ℕ → ℕ) where
  agree_left : (xs ys : List ℕ) → Agree f g (xs ++ ys) → Agree f g xs
  agree_left xs ys h a m = h a (member_append a xs ys ∙ or_left (member a xs) (member a ys) m)

  agree_right : (xs ys : List ℕ) → Agree f g (xs ++ ys) → Agree f g ys
  agree_right xs ys h a m = h a (member_append a xs ys ∙ or_right (member a xs) (member a ys) m)

  agree_list : (l : List ℕ) → Agree f g l → map f l ≡ map g l
  unfolding member any
  agree_list [] h = refl
  agree_list (x ∷ l) h = cc (h x (or_left (eqb x x) (any (eqb x) l) (eq-eqb x x refl)), agree_list l (λ a m. h a (or_right (eqb a x) (any (eqb a) l) m)))

  agree-basic : (x : Basic) → Agree f g (uses_basic x) → map_basic f x ≡ map_basic g x
  unfolding map_basic uses_basic
  agree-basic nil h = refl
  agree-basic (kill k) h = cc (agree_list (k ∷ []) h)
  agree-basic (invoke p o ws) h = cc (agree_list (p ∷ o ∷ ws) h)

  agree-prefix : (u : Prefix) → Agree f g (uses_prefix u ++ optional (delimits u)) → map_prefix f u ≡ map_prefix g u
  unfolding map_prefix uses_prefix delimits optional
  agree-prefix (receive p o ws) h = cc (agree_list (p ∷ o ∷ ws) (agree_left (p ∷ o ∷ ws) [] h))
  agree-prefix (wait n) h = refl
  agree-prefix protection h = refl
  agree-prefix (delimitation d) h = cc (agree_list (d ∷ []) h)
  agree-prefix replication h = refl

  pub map-agree : (t : Term) → Agree f g (atoms t) → map_atoms f t ≡ map_atoms g t
  unfolding map_atoms atoms
  map-agree (leaf x) h = ap leaf (agree-basic x h)
  map-agree (under u t) h =
      ap₂ under (agree-prefix u (agree_left (uses_prefix u ++ optional (delimits u)) (atoms t) h)) (map-agree t (agree_right (uses_prefix u ++ optional (delimits u)) (atoms t) h))
  map-agree (both j s t) h = ap₂ (both j) (map-agree s (agree_left (atoms s) (atoms t) h)) (map-agree t (agree_right (atoms s) (atoms t) h))

-- One record's bytes, its fields mapped.
module _ (f : ℕ → ℕ) (zero : f 0 ≡ 0) where
  slot-mapped : (ws : List ℕ) (i : ℕ) → get_or (map f ws) i 0 ≡ f (get_or ws i 0)
  slot-mapped ws i = rw zero at (get_or-map f ws i 0)

  layout-mapped : (k a b i : ℕ) (ws : List ℕ) → layout k (f a) (f b) (map f ws) i ≡ map_record f (layout k a b ws i)
  unfolding map_record
  layout-mapped k a b i ws =
      rw (layout-first k a b i ws, layout_second k a b i ws, layout-slot k a b i ws 0 (omega arith), layout-slot k a b i ws 1 (omega arith), layout-slot k a b i ws 2 (omega arith), layout-slot k a b i ws 3 (omega arith))
      (unfold layout with_atoms tuple_bytes bytes2 in rw (length-map ws f, slot-mapped ws 0, slot-mapped ws 1, slot-mapped ws 2, slot-mapped ws 3))

  bare-mapped : (k a i : ℕ) → layout k (f a) 0 [] i ≡ map_record f (layout k a 0 [] i)
  bare-mapped k a i = rw zero at (layout-mapped k a 0 i [])

  none-mapped : (k i : ℕ) → layout k 0 0 [] i ≡ map_record f (layout k 0 0 [] i)
  none-mapped k i = rw zero at (bare-mapped k 0 i)

  pub record_mapped : (n : Node) → record16 (map_node f n) ≡ map_record f (record16 n)
  unfolding record16 map_node map_basic map_prefix
  record_mapped (basic nil) = none-mapped 0 0
  record_mapped (basic (kill k)) = bare-mapped 1 k 0
  record_mapped (basic (invoke p o ws)) = layout-mapped 2 p o 0 ws
  record_mapped (prefix (receive p o ws)) = layout-mapped 3 p o 0 ws
  record_mapped (prefix (wait n)) = none-mapped 4 n
  record_mapped (prefix protection) = none-mapped 7 0
  record_mapped (prefix (delimitation d)) = bare-mapped 8 d 0
  record_mapped (prefix replication) = none-mapped 9 0
  record_mapped (join choice) = none-mapped 5 0
  record_mapped (join parallel) = none-mapped 6 0

  pub mapped_term : (s : List ℕ) (i : ℕ) (t : Term) → StandsIn s (16 * i) t → mapped f s i (size t) ≡ encode (map_atoms f t)
  unfolding encode flat_map
  mapped_term s i t h =
      across_term (map_record f) (λ n. record16 (map_node f n)) (λ n. sym (record_mapped n)) s i t h ∙ (bytes_over (nodes t) ∙ ap bytes (sym (nodes-mapped f t)))
    where
      bytes_over : (ns : List Node) → flat_map (λ n. record16 (map_node f n)) ns ≡ bytes (map (map_node f) ns)
      bytes_over [] = refl
      bytes_over (n ∷ ns) = ap (λ b. record16 (map_node f n) ++ b) (bytes_over ns)

-- the same by an array that has the name of each atom of the term
pub mapped_as : (f : ℕ → ℕ) (names s : List ℕ) (i : ℕ) (t : Term) → named names 0 ≡ 0 → Agree (named names) f (atoms t) → StandsIn s (16 * i) t → mapped (named names) s i (size t) ≡ encode (map_atoms f t)
mapped_as f names s i t z h k = mapped_term (named names) z s i t k ∙ ap encode (map-agree (named names) f t h)

-- Writing the pieces of a record one after the other writes the record.
piece_front : (s : List ℕ) (k : ℕ) → take 2 (drop k s) ≡ take 2 (take 16 (drop k s))
piece_front s k = sym (take-take 2 16 (drop k s) (omega arith))

piece_back : (s : List ℕ) (k : ℕ) → k + 15 < length s → take 2 (drop (k + 14) s) ≡ take 2 (drop 14 (take 16 (drop k s)))
piece_back s k h =
    let l = drop k s in
    rw (take-add 14 2 l, drop_at (take 14 l) (take 2 (drop 14 l)) 14 (length-take-le 14 l (omega (arith, length-drop k s))), take-take 2 2 (drop 14 l) (omega arith), drop-drop 14 k s)

pub length_piece : (s : List ℕ) (k : ℕ) → k + 15 < length s → length (piece s k) ≡ 16
length_piece s k h = length-take-le 16 (drop k s) (omega (arith, length-drop k s))

pub length-map_record : (f : ℕ → ℕ) (s : List ℕ) (k : ℕ) → k + 15 < length s → length (map_record f (take 16 (drop k s))) ≡ 16
unfolding map_record with_atoms tuple_bytes bytes2
length-map_record f s k h =
    rw (← piece_front s k, ← piece_back s k h)
    (length-append (take 2 (drop k s)) _ ∙ omega (arith, length-take-le 2 (drop k s) (omega (arith, length-drop k s)), length-take-le 2 (drop (k + 14) s) (omega (arith, length-drop (k + 14) s))))

-- A record written field by field: the first two bytes, six fields of two bytes each, and the last two.
abbrev six : (ℕ → ℕ) → (b l m : List ℕ) → List ℕ
six f b l m = l ++ (bytes2 (f (word b 2)) ++ (bytes2 (f (word b 4)) ++ (tuple_bytes (f (word b 6)) (f (word b 8)) (f (word b 10)) (f (word b 12)) ++ m)))

six-start : (f : ℕ → ℕ) (b l m : List ℕ) → length l ≡ 2 → take 2 (six f b l m) ≡ l
unfolding tuple_bytes bytes2
six-start f b [] m e = absurd (omega arith)
six-start f b (x ∷ []) m e = absurd (omega arith)
six-start f b (x ∷ y ∷ []) m e = refl
six-start f b (x ∷ y ∷ z ∷ l) m e = absurd (omega arith)

six-turn : (f : ℕ → ℕ) (b l m : List ℕ) → length l ≡ 2 → (j : ℕ) → 1 ≤ j → j < 7 → take (2 * j) (six f b l m) ++ bytes2 (f (word b (2 * j))) ≡ take (2 * (j + 1)) (six f b l m)
unfolding tuple_bytes bytes2
six-turn f b [] m e j h k = absurd (omega arith)
six-turn f b (x ∷ []) m e j h k = absurd (omega arith)
six-turn f b (x ∷ y ∷ []) m e zero h k = absurd (omega arith)
six-turn f b (x ∷ y ∷ []) m e (suc zero) h k = refl
six-turn f b (x ∷ y ∷ []) m e (suc (suc zero)) h k = refl
six-turn f b (x ∷ y ∷ []) m e (suc (suc (suc zero))) h k = refl
six-turn f b (x ∷ y ∷ []) m e (suc (suc (suc (suc zero)))) h k = refl
six-turn f b (x ∷ y ∷ []) m e (suc (suc (suc (suc (suc zero))))) h k = refl
six-turn f b (x ∷ y ∷ []) m e (suc (suc (suc (suc (suc (suc zero)))))) h k = refl
six-turn f b (x ∷ y ∷ []) m e (suc (suc (suc (suc (suc (suc (suc j))))))) h k = absurd (omega arith)
six-turn f b (x ∷ y ∷ z ∷ l) m e j h k = absurd (omega arith)

six-end : (f : ℕ → ℕ) (b l m : List ℕ) → length l ≡ 2 → take 14 (six f b l m) ++ m ≡ six f b l m
unfolding tuple_bytes bytes2
six-end f b [] m e = absurd (omega arith)
six-end f b (x ∷ []) m e = absurd (omega arith)
six-end f b (x ∷ y ∷ []) m e = refl
six-end f b (x ∷ y ∷ z ∷ l) m e = absurd (omega arith)

module _ (f : ℕ → ℕ) (s : List ℕ) (k at : ℕ) (d₀ : List ℕ) (h : k + 15 < length s) where
  abbrev r : List ℕ
  r = map_record f (piece s k)

  length-front : length (take 2 (piece s k)) ≡ 2
  length-front = length-take-le 2 (piece s k) (omega (arith, length_piece s k h))

  pub fields_start : {d : List ℕ} → d ≡ put d₀ at (take 2 (drop k s)) → d ≡ put d₀ at (take 2 r)
  unfolding map_record with_atoms
  fields_start p = p ∙ ap (put d₀ at) (piece_front s k ∙ sym (six-start f (piece s k) _ _ length-front))

  pub fields_turn : (j : ℕ) → 1 ≤ j → j < 7 → {d e : List ℕ} → d ≡ put d₀ at (take (2 * j) r) → {v : ℕ} → v ≡ f (word s (k + 2 * j)) → e ≡ put d (at + 2 * j) (bytes2 v) → e ≡ put d₀ at (take (2 * (j + 1)) r)
  unfolding map_record with_atoms
  fields_turn j a b p {v} w q =
      let n = length-map_record f s k h in
      and_then d₀ at (at + 2 * j) _ _ (omega (arith, length-take-le (2 * j) r (omega arith))) p q
      ∙ ap (put d₀ at) (rw (w, ← word_piece s k (2 * j) (omega arith)) (six-turn f (piece s k) _ _ length-front j a b))

  pub fields_end : (j : ℕ) → j ≡ 7 → {d e : List ℕ} → d ≡ put d₀ at (take (2 * j) r) → e ≡ put d (at + 14) (take 2 (drop (k + 14) s)) → e ≡ put d₀ at r
  unfolding map_record with_atoms
  fields_end j z p q =
      let n = length-map_record f s k h in
      and_then d₀ at (at + 14) _ _ (omega (arith, length-take-le 14 r (omega arith))) (rw z at p) q
      ∙ ap (put d₀ at) (rw (piece_back s k h) (six-end f (piece s k) _ _ length-front))

-- two bytes are those of the number that they are
pair-word : (b : List ℕ) (i : ℕ) → suc i < length b → get_or b i 0 < 256 → bytes2 (word b i) ++ drop (suc (suc i)) b ≡ drop i b
unfolding bytes2 word byte
pair-word b i l h =
    let low : (get_or b i 0 + 256 * get_or b (suc i) 0) % 256 ≡ get_or b i 0 = omega arith in
    let high : (get_or b i 0 + 256 * get_or b (suc i) 0) / 256 ≡ get_or b (suc i) 0 = omega arith in
    rw (low, high, drop-cons b i 0 (omega arith), drop-cons b (suc i) 0 l)

-- so the record at byte k, if its atoms stay, is the same bytes
pub record_same : (s : List ℕ) (k : ℕ) → k + 15 < length s → ((j : ℕ) → get_or s j 0 < 256) → map_record (λ n. n) (piece s k) ≡ piece s k
unfolding map_record with_atoms tuple_bytes
record_same s k l h =
    let b = piece s k in
    let n : length b ≡ 16 = length_piece s k l in
    let w : (i : ℕ) → i < 15 → bytes2 (word b i) ++ drop (suc (suc i)) b ≡ drop i b = λ i q. pair-word b i (omega arith) (unfold byte in rw (byte_piece s k i (omega arith)) (h (k + i))) in
    rw (take_all 2 (drop 14 b) (omega (arith, length-drop 14 b)))
    (simp append_assoc (rw (w 12 (omega arith), w 10 (omega arith), w 8 (omega arith), w 6 (omega arith), w 4 (omega arith), w 2 (omega arith)) (take-append-drop 2 b)))
