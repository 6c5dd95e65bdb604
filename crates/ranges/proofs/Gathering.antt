-- Laws of what the quick test gathers: by how far fields lie outside their ranges, in eight numbers, with the code's tables of rows.
use Rattle.std.proofs.Common.{◌≡◌, ℕ, zero, suc, ◌+◌, ◌*◌, ◌%◌, ◌<◌, ◌≤◌, Bool, true, ◌&&◌, eqb, ltb, leb, List, [], ◌∷◌, map, length, get_or, set, sym, refl, ◌∙◌, arith, get_or-set_other, get_or-set_same, ltb-true, lt-ltb, eqb-true, leb-true}
use lib.Bits.{bit_or, and_le_l, and_le_r, or_add_and}
use lib.ListN.{get_or-map}
use Rattle.cows.specs.Basics.{any, every}
use Rattle.cows.specs.Format.{word}
use Rattle.cows.proofs.Basics.{and_true, true_and, or_right, eq_case}
use Rattle.ranges.specs.Ranges.{zero_only, field_rows, within, fields_within, ranged, Met, Gathers}
use Rattle.ranges.proofs.FieldRanges.{bounds, first_word}

-- nothing comes of two numbers only if neither is anything
pub or_nothing : (a b : ℕ) → bit_or a b ≡ 0 → (a ≡ 0) × (b ≡ 0)
or_nothing a b h = omega (arith, or_add_and a b, and_le_l a b, and_le_r a b)

-- a turn: field j, of which b is outside
pub gather_turn : (s : List ℕ) (k : ℕ) (low span before after : List ℕ) (j b : ℕ) → j < length after
    → (b ≡ 0 → Met (word s (k + 2 * j)) (get_or low j 0) (get_or span j 0)) → Gathers s k low span before after j → ((q : ℕ) → j ≤ q → get_or after q 0 ≡ get_or before q 0)
    → Gathers s k low span before (set after j (bit_or (get_or after j 0) b)) (j + 1)
    × ((q : ℕ) → j + 1 ≤ q → get_or (set after j (bit_or (get_or after j 0) b)) q 0 ≡ get_or before q 0)
gather_turn s k low span before after j b l here done rest = (
  λ q m z.
      eq_case _ q j
      (λ e. let (u, v) = or_nothing (get_or after j 0) b (sym (get_or-set_same after j _ 0 l) ∙ (rw e at z)) in rw e (sym (rest j (omega arith)) ∙ u, here v))
      (λ e. done q (omega arith) (sym (get_or-set_other after j q _ 0 e) ∙ z)),
  λ q m. get_or-set_other after j q _ 0 (λ e. omega arith) ∙ rest q (omega arith),
)

-- an element that passes; what every element and the default pass, each read passes
any_at : {A : Type 0} (f : A → Bool) (xs : List A) (d : A) (i : ℕ) → i < length xs → f (get_or xs i d) ≡ true → any f xs ≡ true
unfolding any
any_at f [] d i l h = absurd (omega arith)
any_at f (x ∷ xs) d zero l h = rw h
any_at f (x ∷ xs) d (suc i) l h = or_right (f x) (any f xs) (any_at f xs d i (omega arith) h)

every_read : {A : Type 0} (f : A → Bool) (xs : List A) (d : A) → f d ≡ true → every f xs ≡ true → (i : ℕ) → f (get_or xs i d) ≡ true
unfolding every
every_read f [] d e h i = e
every_read f (x ∷ xs) d e h zero = (and_true (f x) _ h).0
every_read f (x ∷ xs) d e h (suc i) = every_read f xs d e (and_true (f x) _ h).1 i

-- In each row the first field has one number, of a known kind, and no range ends beyond 65535.
record Sound (r : List (ℕ × ℕ)) : Type 0 where
  kind : (get_or r 0 zero_only).0 % 256 < 10
  one : (get_or r 0 zero_only).1 ≡ 0
  ends : (j : ℕ) → (get_or r j zero_only).0 + (get_or r j zero_only).1 < 65536

sound : List (ℕ × ℕ) → Bool
sound r = ltb ((get_or r 0 zero_only).0 % 256) 10 && eqb (get_or r 0 zero_only).1 0 && every (λ p. ltb (p.0 + p.1) 65536) r

sound_tells : (r : List (ℕ × ℕ)) → sound r ≡ true → Sound r
unfolding sound
sound_tells r h =
    let (u, v) = and_true (ltb ((get_or r 0 zero_only).0 % 256) 10 && eqb (get_or r 0 zero_only).1 0) _ h in
    let (a, b) = and_true (ltb ((get_or r 0 zero_only).0 % 256) 10) _ u in
    record { kind = ltb-true _ 10 a; one = eqb-true _ 0 b; ends = λ j. ltb-true _ 65536 (every_read (λ p. ltb (p.0 + p.1) 65536) r zero_only refl v j) }

row_sound : (e : ℕ) → Sound (get_or field_rows e [])
unfolding every field_rows sound
row_sound e = sound_tells _ (every_read sound field_rows [] refl refl e)

-- the code's tables of where the rows of a kind start, and of how far on that of a count stands
abbrev row : List ℕ
row = 0 ∷ 1 ∷ 8 ∷ 9 ∷ 2 ∷ 3 ∷ 4 ∷ 5 ∷ 6 ∷ 7 ∷ 0 ∷ 0 ∷ 0 ∷ 0 ∷ 0 ∷ 0 ∷ []

abbrev rows_on : List ℕ
rows_on = 0 ∷ 2 ∷ 4 ∷ 6 ∷ 8 ∷ 0 ∷ 0 ∷ 0 ∷ []

pub row_below : (kind count a b : ℕ) → a ≡ get_or row kind 0 → b ≡ get_or rows_on count 0 → a + b < 18
unfolding every
row_below kind count a b e f =
    let u = leb-true (get_or row kind 0) 9 (every_read (λ n. leb n 9) row 0 refl refl kind) in
    let v = leb-true (get_or rows_on count 0) 8 (every_read (λ n. leb n 8) rows_on 0 refl refl count) in
    omega arith

-- a row as the code's table has it: the lowest numbers, and how far above them the fields may lie
unfoldable pub split : List (ℕ × ℕ) → List ℕ × List ℕ
split r = (map (λ p. p.0) r, map (λ p. p.1) r)

-- fields that are within their ranges one by one
within-row : (s : List ℕ) (k : ℕ) (r : List (ℕ × ℕ)) (n : ℕ) → ((j : ℕ) → j < n → within (word s (k + 2 * j)) (get_or r j zero_only) ≡ true) → fields_within s k r n ≡ true
unfolding fields_within
within-row s k r zero f = refl
within-row s k r (suc n) f = true_and (within-row s k r n (λ j l. f j (omega arith))) (f n (omega arith))

-- what is gathered by row e of the code's table tells that the record is ranged
pub gathered-ranged : (rows : List (List ℕ × List ℕ)) (s : List ℕ) (k e : ℕ) → e < 18 → get_or s k 0 < 256
    → ((j : ℕ) → j < 8 → Met (word s (k + 2 * j)) (get_or (get_or rows e ([], [])).0 j 0) (get_or (get_or rows e ([], [])).1 j 0)) → rows ≡ map split field_rows → ranged s k ≡ true
unfolding ranged split
gathered-ranged rows s k e l small h same =
    let r = get_or field_rows e [] in
    let sound = row_sound e in
    let here : get_or rows e ([], []) ≡ split r = rw same (get_or-map split field_rows e []) in
    let low : (j : ℕ) → get_or (get_or rows e ([], [])).0 j 0 ≡ (get_or r j zero_only).0 = λ j. rw here (get_or-map (λ p. p.0) r j zero_only) in
    let span : (j : ℕ) → get_or (get_or rows e ([], [])).1 j 0 ≡ (get_or r j zero_only).1 = λ j. rw here (get_or-map (λ p. p.1) r j zero_only) in
    let fits : (j : ℕ) → j < 8 → within (word s (k + 2 * j)) (get_or r j zero_only) ≡ true =
    λ j m. rw (low j, span j) at (h j m (rw (low j, span j) (sound.ends j))) in
    let b = bounds (word s (k + 0)) (get_or r 0 zero_only) (fits 0 (omega arith)) in
    true_and (lt-ltb (get_or s k 0) 10 (omega (arith, first_word s k, sound.kind, sound.one)))
    (any_at (λ q. fields_within s k q 8) field_rows [] e (unfold field_rows in l) (within-row s k r 8 fits))
