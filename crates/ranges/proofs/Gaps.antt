-- A ranged record has nothing behind an empty second slot.
use Rattle.std.proofs.Common.{◌≡◌, ℕ, ◌+◌, Bool, true, ◌&&◌, ◌||◌, eqb, ltb, leb, List, [], ◌∷◌, get_or, refl, arith, eqb-true, leb-true}
use Rattle.cows.specs.Basics.{every, All}
use Rattle.cows.specs.Format.{word}
use Rattle.cows.proofs.Basics.{and_true, bool_case}
use Rattle.ranges.specs.Ranges.{zero_only, field_rows, fields_within, ranged}
use Rattle.ranges.proofs.FieldRanges.{row_within, bounds, any_all}

-- a row whose second slot may not be empty, or whose third and fourth must be
abbrev gapless : List (ℕ × ℕ) → Bool
gapless r = leb 1 (get_or r 4 zero_only).0 || (eqb ((get_or r 5 zero_only).0 + (get_or r 5 zero_only).1) 0 && eqb ((get_or r 6 zero_only).0 + (get_or r 6 zero_only).1) 0)

gapless_rows : every gapless field_rows ≡ true
unfolding every field_rows
gapless_rows = refl

abbrev NoGap : List ℕ → ℕ → Type 0
NoGap s k = word s (k + 8) ≡ 0 → (word s (k + 10) ≡ 0) × (word s (k + 12) ≡ 0)

or_left : (A : Type 0) (a b : Bool) → (a || b) ≡ true → (a ≡ true → A) → (b ≡ true → A) → A
or_left A a b e f g = bool_case A a f (λ z. g (rw z at e))

row_gap : (s : List ℕ) (k : ℕ) (r : List (ℕ × ℕ)) → gapless r ≡ true → fields_within s k r 8 ≡ true → NoGap s k
row_gap s k r g f e =
    let w = row_within s k r f in
    let x = bounds (word s (k + 8)) (get_or r 4 zero_only) (w 4 refl) in
    let y = bounds (word s (k + 10)) (get_or r 5 zero_only) (w 5 refl) in
    let z = bounds (word s (k + 12)) (get_or r 6 zero_only) (w 6 refl) in
    or_left ((word s (k + 10) ≡ 0) × (word s (k + 12) ≡ 0)) (leb 1 (get_or r 4 zero_only).0) _ g (λ h. absurd (omega (arith, leb-true 1 (get_or r 4 zero_only).0 h)))
    (λ h. let (a, b) = and_true (eqb ((get_or r 5 zero_only).0 + (get_or r 5 zero_only).1) 0) _ h in
    (omega (arith, eqb-true ((get_or r 5 zero_only).0 + (get_or r 5 zero_only).1) 0 a), omega (arith, eqb-true ((get_or r 6 zero_only).0 + (get_or r 6 zero_only).1) 0 b)))

rows_gap : (s : List ℕ) (k : ℕ) (rows : List (List (ℕ × ℕ))) → every gapless rows ≡ true → All (λ r. fields_within s k r 8 ≡ true → NoGap s k) rows
unfolding every
rows_gap s k [] h = tt
rows_gap s k (r ∷ rows) h = let (a, b) = and_true _ _ h in (row_gap s k r a, rows_gap s k rows b)

pub no_gap : (s : List ℕ) (k : ℕ) → ranged s k ≡ true → NoGap s k
unfolding ranged
no_gap s k h = any_all _ (λ r. fields_within s k r 8) field_rows (rows_gap s k field_rows gapless_rows) (and_true (ltb (get_or s k 0) 10) _ h).1
