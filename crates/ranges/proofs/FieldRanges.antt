-- Laws of the ranges of a record's fields: a record whose fields are within the ranges of a row keeps the rules.
use Rattle.std.proofs.Common.{◌≡◌, ℕ, zero, suc, ◌+◌, ◌*◌, ◌/◌, ◌<◌, ◌≤◌, Bool, true, ltb, leb, List, [], ◌∷◌, length, get_or, sym, refl, ap, ◌∙◌, add-one, arith, below_more, ltb-true, lt-ltb, le-leb, leb-true}
use mathlib.Core.Option.{none}
use Rattle.cows.specs.Basics.{any, every, All}
use Rattle.cows.specs.Terms.{label, datum, atom}
use Rattle.cows.specs.Kinds.{unused, interval, distinct, empty4, kinds, row_of, may}
use Rattle.cows.specs.Format.{byte, word, right_contents, right_record, records}
use Rattle.cows.specs.Tables.{first_wrong}
use Rattle.cows.proofs.Basics.{never, and_true, true_and, bool_case}
use Rattle.cows.proofs.Cut.{all_passing}
use Rattle.rows.specs.Rows.{slot_right, tuple_contents}
use Rattle.rows.proofs.Checks.{datum-range, atom-range, invoke_code, receive_code}
use Rattle.records.proofs.Pieces.{piece, byte_piece, word_piece, first_piece}
use Rattle.rows.proofs.Tested.{tuple_piece, slots_piece}
use Rattle.ranges.specs.Ranges.{zero_only, range, plain_row, tuple_row, field_rows, within, fields_within, ranged, pattern_right}

infixr 10 ◌and◌
-- a fact and more
◌and◌ : {A B : Type 0} → A → B → A × B
a and b = (a, b)

-- The eight fields of the record at byte k are within the ranges of a row: by a test, and one by one.
abbrev pub Row : List ℕ → ℕ → List (ℕ × ℕ) → Type 0
Row s k r = (j : ℕ) → ltb j 8 ≡ true → within (word s (k + 2 * j)) (get_or r j zero_only) ≡ true

pub row_within : (s : List ℕ) (k : ℕ) (r : List (ℕ × ℕ)) → fields_within s k r 8 ≡ true → Row s k r
unfolding fields_within
row_within s k r e j l = go 8 e j (ltb-true j 8 l)
  where
    go : (n : ℕ) → fields_within s k r n ≡ true → (i : ℕ) → i < n → within (word s (k + 2 * i)) (get_or r i zero_only) ≡ true
    go zero f i m = absurd (omega arith)
    go (suc n) f i m = let (g, h) = and_true _ _ f in below_more _ n (go n g) h i (omega arith)

-- what a range says of a number
pub bounds : (a : ℕ) (r : ℕ × ℕ) → within a r ≡ true → (r.0 ≤ a) × (a ≤ r.0 + r.1)
bounds a r h = let (u, v) = and_true (leb r.0 a) _ h in (leb-true _ _ u, omega (arith, ltb-true a _ v))

none_in : (a : ℕ) → within a zero_only ≡ true → unused a ≡ true
unfolding unused
none_in a h = let b = bounds a zero_only h in rw (let z : a ≡ 0 = omega arith in z)

datum_in : (a : ℕ) → within a (range 1 49152) ≡ true → datum a ≡ true
datum_in a h = datum-range a ∙ h

atom_in : (a : ℕ) → within a (range 1 65536) ≡ true → atom a ≡ true
atom_in a h = atom-range a ∙ h

label_in : (a : ℕ) → within a (range 49152 65536) ≡ true → label a ≡ true
unfolding label
label_in a h = h

interval_in : (a : ℕ) → within a (range 0 65536) ≡ true → interval a ≡ true
unfolding interval
interval_in a h = lt-ltb a 65536 (omega (arith, bounds a (range 0 65536) h))

-- the first field: kind and count
pub first_word : (s : List ℕ) (k : ℕ) → word s (k + 0) ≡ get_or s k 0 + 256 * get_or s (k + 1) 0
unfolding word byte
first_word s k = let z : k + 0 ≡ k = omega arith in rw (z, add-one k)

module _ (s : List ℕ) (k : ℕ) (known : get_or s k 0 < 10) where
  -- the kind and the count, by the first field
  first_in : (x n m : ℕ) → x < 10 → m ≡ x + 256 * n → within (word s (k + 0)) (m, 0) ≡ true → (get_or s k 0 ≡ x) × (get_or s (k + 1) 0 ≡ n)
  first_in x n m l e h = let b = bounds (word s (k + 0)) (m, 0) h in omega (arith, first_word s k)

  -- a kind x without a tuple, whose row has p for the first atom, in range a, and q for the interval, in range i
  plain_in : (x : ℕ) (p q : ℕ → Bool) (a i : ℕ × ℕ) → x < 10 → (row_of x).holds ≡ may p unused empty4 q
      → ((n : ℕ) → within n a ≡ true → p n ≡ true) → ((n : ℕ) → within n i ≡ true → q n ≡ true)
      → fields_within s k (plain_row x a i) 8 ≡ true → right_record (piece s k) ≡ true
  unfolding right_record kinds right_contents empty4 every byte unused
  plain_in x p q a i l h hp hq f =
      let r = row_within s k (plain_row x a i) f in
      let (e, n) = first_in x 0 x l (omega arith) (r 0 refl) in
      rw (first_piece s k, e, lt-ltb x 10 l, h, word_piece s k 2 (omega arith), hp _ (r 1 refl), word_piece s k 4 (omega arith), none_in _ (r 2 refl))
      (rw (byte_piece s k 1 (omega arith), n, slots_piece s k, none_in _ (r 3 refl), none_in _ (r 4 refl), none_in _ (r 5 refl), none_in _ (r 6 refl))
      (rw (word_piece s k 14 (omega arith)) (hq _ (r 7 refl))))

  -- a kind x with n slots in use, whose endpoint's atoms are below top
  module _ (x top : ℕ) where
    slots_in : (n : ℕ) → n ≤ 4 → Row s k (tuple_row x top n)
        → (slot_right n 0 (word s (k + 6)) ≡ true) × (slot_right n 1 (word s (k + 8)) ≡ true) × (slot_right n 2 (word s (k + 10)) ≡ true)
        × (slot_right n 3 (word s (k + 12)) ≡ true) × (unused (word s (k + 14)) ≡ true)
    unfolding slot_right
    slots_in zero l r = (none_in _ (r 3 refl), none_in _ (r 4 refl), none_in _ (r 5 refl), none_in _ (r 6 refl), none_in _ (r 7 refl))
    slots_in (suc zero) l r = (datum_in _ (r 3 refl), none_in _ (r 4 refl), none_in _ (r 5 refl), none_in _ (r 6 refl), none_in _ (r 7 refl))
    slots_in (suc (suc zero)) l r = (datum_in _ (r 3 refl), datum_in _ (r 4 refl), none_in _ (r 5 refl), none_in _ (r 6 refl), none_in _ (r 7 refl))
    slots_in (suc (suc (suc zero))) l r = (datum_in _ (r 3 refl), datum_in _ (r 4 refl), datum_in _ (r 5 refl), none_in _ (r 6 refl), none_in _ (r 7 refl))
    slots_in (suc (suc (suc (suc zero)))) l r = (datum_in _ (r 3 refl), datum_in _ (r 4 refl), datum_in _ (r 5 refl), datum_in _ (r 6 refl), none_in _ (r 7 refl))
    slots_in (suc (suc (suc (suc (suc n))))) l r = absurd (omega arith)

    tuple_in : (n : ℕ) → x < 10 → n ≤ 4 → 2 ≤ top → fields_within s k (tuple_row x top n) 8 ≡ true → (get_or s k 0 ≡ x) × (right_contents (tuple_contents top) (piece s k) ≡ true)
    unfolding unused
    tuple_in n l m t f =
        let r = row_within s k (tuple_row x top n) f in
        let (e, c) = first_in x n _ l refl (r 0 refl) in
        let (a₀, a₁, a₂, a₃, a₄) = slots_in n m r in
        let y : suc ((range 1 top).0 + (range 1 top).1) ≡ top = omega arith in
        (e, sym (tuple_piece s k top) ∙ rw (c, rw y at (r 1 refl), rw y at (r 2 refl), le-leb _ 4 m, a₀, a₁, a₂, a₃) a₄)

  invoke_in : (n : ℕ) → n ≤ 4 → fields_within s k (tuple_row 2 49152 n) 8 ≡ true → right_record (piece s k) ≡ true
  invoke_in n m f = let (e, c) = tuple_in 2 49152 n (omega arith) m (omega arith) f in sym (invoke_code (piece s k) (first_piece s k ∙ e)) ∙ c

  receive_in : (get_or s k 0 ≡ 3 → pattern_right s k ≡ true) → (n : ℕ) → n ≤ 4 → fields_within s k (tuple_row 3 32768 n) 8 ≡ true → right_record (piece s k) ≡ true
  unfolding pattern_right
  receive_in d n m f =
      let (e, c) = tuple_in 3 32768 n (omega arith) m (omega arith) f in
      sym (receive_code (piece s k) (first_piece s k ∙ e)) ∙ true_and c (ap distinct (slots_piece s k) ∙ d e)

  rows_right : (get_or s k 0 ≡ 3 → pattern_right s k ≡ true) → All (λ r. fields_within s k r 8 ≡ true → right_record (piece s k) ≡ true) field_rows
  unfolding field_rows row_of kinds
  rows_right d =
      let bare : (x : ℕ) → x < 10 → (row_of x).holds ≡ may unused unused empty4 unused → fields_within s k (plain_row x zero_only zero_only) 8 ≡ true → right_record (piece s k) ≡ true =
      λ x l e. plain_in x unused unused zero_only zero_only l e none_in none_in in
      bare 0 (omega arith) refl
      and plain_in 1 label unused (range 49152 65536) zero_only (omega arith) refl label_in none_in
      and plain_in 4 unused interval zero_only (range 0 65536) (omega arith) refl none_in interval_in
      and bare 5 (omega arith) refl
      and bare 6 (omega arith) refl
      and bare 7 (omega arith) refl
      and plain_in 8 atom unused (range 1 65536) zero_only (omega arith) refl atom_in none_in
      and bare 9 (omega arith) refl
      and invoke_in 0 (omega arith)
      and receive_in d 0 (omega arith)
      and invoke_in 1 (omega arith)
      and receive_in d 1 (omega arith)
      and invoke_in 2 (omega arith)
      and receive_in d 2 (omega arith)
      and invoke_in 3 (omega arith)
      and receive_in d 3 (omega arith)
      and invoke_in 4 (omega arith)
      and receive_in d 4 (omega arith)
      and tt

-- a statement that follows of each element that passes holds if some element passes
pub any_all : {A : Type 0} (Q : Type 0) (f : A → Bool) (xs : List A) → All (λ x. f x ≡ true → Q) xs → any f xs ≡ true → Q
unfolding any
any_all Q f [] h e = never e
any_all Q f (x ∷ xs) h e = bool_case Q (f x) h.0 (λ z. any_all Q f xs h.1 (rw z at e))

-- A ranged record has a known kind, and is right if it holds no variable twice where it is a pattern; so the table has no wrong record.
pub ranged-kind : (s : List ℕ) (k : ℕ) → ranged s k ≡ true → get_or s k 0 < 10
unfolding ranged
ranged-kind s k h = ltb-true (get_or s k 0) 10 (and_true _ _ h).0

pub ranged_right : (s : List ℕ) (k : ℕ) → ranged s k ≡ true → (get_or s k 0 ≡ 3 → pattern_right s k ≡ true) → right_record (piece s k) ≡ true
unfolding ranged
ranged_right s k h d = any_all _ (λ r. fields_within s k r 8) field_rows (rows_right s k (ranged-kind s k h) d) (and_true (ltb (get_or s k 0) 10) _ h).1

pub none_wrong : (s : List ℕ) → ((i : ℕ) → i < length s / 16 → ranged s (16 * i) ≡ true)
    → ((i : ℕ) → i < length s / 16 → get_or s (16 * i) 0 ≡ 3 → pattern_right s (16 * i) ≡ true) → first_wrong 0 (records s) ≡ none
none_wrong s f g = all_passing 16 right_record s (λ i l. ranged_right s (16 * i) (f i l) (g i l))
