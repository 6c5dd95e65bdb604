-- Ranges of the eight 16-bit fields of a record: kind and count, first atom, second atom, four slots, interval. A range is its lowest number, and how far above
-- it a field may lie. A row has the ranges of a kind and a count.
use Rattle.std.specs.Prelude.{◌≡◌, ℕ, zero, suc, ◌+◌, ◌-◌, ◌*◌, ◌<◌, Bool, true, ◌&&◌, List, [], ◌∷◌, ◌++◌, replicate, nat_lt, slice_index, slice_index_or}
use Rattle.cows.specs.Limits.{first_variable, first_label, no_atom, no_interval, max_slots}
use Rattle.cows.specs.Basics.{any}
use Rattle.cows.specs.Kinds.{distinct}
use Rattle.cows.specs.Format.{word}
use Rattle.rows.specs.Rows.{in_range}

-- one number only; an unused field; the numbers from low on, and below high
abbrev pub exactly : ℕ → ℕ × ℕ
exactly n = (n, 0)

abbrev pub zero_only : ℕ × ℕ
zero_only = exactly 0

abbrev pub range : ℕ → ℕ → ℕ × ℕ
range low high = (low, high - suc low)

-- Kind x without a tuple, by its first atom and its interval; kind x with n slots in use, whose endpoint's atoms are below top.
abbrev pub plain_row : ℕ → ℕ × ℕ → ℕ × ℕ → List (ℕ × ℕ)
plain_row x a i = exactly x ∷ a ∷ zero_only ∷ replicate max_slots zero_only ++ (i ∷ [])

abbrev pub tuple_row : ℕ → ℕ → ℕ → List (ℕ × ℕ)
tuple_row x top n =
    exactly (x + 256 * n) ∷ range 1 top ∷ range 1 top ∷ replicate n (range 1 first_label) ++ replicate (max_slots - n) zero_only ++ (zero_only ∷ [])

-- invoke and receive with n slots in use
abbrev pub tuple_rows : ℕ → List (List (ℕ × ℕ))
tuple_rows n = tuple_row 2 first_label n ∷ tuple_row 3 first_variable n ∷ []

-- the rows of all kinds and counts that can be
unfoldable pub field_rows : List (List (ℕ × ℕ))
field_rows =
    plain_row 0 zero_only zero_only
    ∷ plain_row 1 (range first_label no_atom) zero_only
    ∷ plain_row 4 zero_only (range 0 no_interval)
    ∷ plain_row 5 zero_only zero_only
    ∷ plain_row 6 zero_only zero_only
    ∷ plain_row 7 zero_only zero_only
    ∷ plain_row 8 (range 1 no_atom) zero_only
    ∷ plain_row 9 zero_only zero_only
    ∷ tuple_rows 0 ++ tuple_rows 1 ++ tuple_rows 2 ++ tuple_rows 3 ++ tuple_rows 4

-- the number w is within a range; the first n fields of the record at byte k are within the ranges of a row
abbrev pub within : ℕ → ℕ × ℕ → Bool
within w r = in_range r.0 (suc (r.0 + r.1)) w

unfoldable pub fields_within : List ℕ → ℕ → List (ℕ × ℕ) → ℕ → Bool
fields_within s k row zero = true
fields_within s k row (suc j) = fields_within s k row j && within (word s (k + 2 * j)) (slice_index_or row j zero_only)

-- the record at byte k has a known kind, and its fields are within the ranges of a row
unfoldable pub ranged : List ℕ → ℕ → Bool
ranged s k = nat_lt (slice_index s k) 10 && any (λ row. fields_within s k row 8) field_rows

-- the number w is within the range, if this ends below 65536
abbrev pub Met : (w low span : ℕ) → Type 0
Met w low span = low + span < 65536 → within w (low, span) ≡ true

-- Gathering how far fields lie outside their ranges: where a number is 0 after the record at byte k, it was 0 before, and that field meets its range; so for the
-- first n.
abbrev pub Gathers : (s : List ℕ) (k : ℕ) (low span before after : List ℕ) (n : ℕ) → Type 0
Gathers s k low span before after n =
    (j : ℕ) → j < n → slice_index after j ≡ 0 → (slice_index before j ≡ 0) × Met (word s (k + 2 * j)) (slice_index low j) (slice_index span j)

-- no variable stands twice among the slots of the record at byte k
unfoldable pub pattern_right : List ℕ → ℕ → Bool
pattern_right s k = distinct (word s (k + 6) ∷ word s (k + 8) ∷ word s (k + 10) ∷ word s (k + 12) ∷ [])
