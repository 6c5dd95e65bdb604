-- Delimitations around a place (refusal 14): a walk down to it that has met none of certain atoms, the first that holds a live place back, and the first that
-- holds one of two back.
use mathlib.Core.Path.{◌≡◌, refl, sym, ap, ◌∙◌}
use mathlib.Core.Logic.{◌≢◌}
use mathlib.Core.Bool.{Bool, true, false, ◌&&◌, ◌||◌}
use mathlib.Core.Option.{Option, none, some}
use mathlib.Core.List.{List}
use Prim.Native.Nat.{ℕ, zero, suc, ◌+◌, ◌*◌, ◌-◌, ◌/◌, ◌≤◌, ◌<◌}
use native.Mathlib.Omega.{arith}
use lib.Dec.{ltb, eqb}
use lib.ListN.{length, get_or}
use borrow.Author.Tests.{ltb-true, lt-ltb, eq-eqb, ne_eqb}
use Rattle.cows.specs.Basics.{any, found_with, place_if, or_else, first_from}
use Rattle.cows.specs.Terms.{Term, size, label, prefixed, delimits, delimits_at}
use Rattle.cows.specs.Places.{spot_at, way_to, sub, first, encloses, enclosed}
use Rattle.cows.specs.Format.{word}
use Rattle.cows.specs.Active.{live}
use Rattle.cows.specs.Moves.{held_back}
use Rattle.cows.specs.Within.{Within}
use Rattle.cows.proofs.Basics.{clash, and_true, true_and, or_left, or_case, and_none, not_so, holds_some, none-first_from, from_next, from_skip}
use Rattle.cows.proofs.Reach.{enclosed_reaches, reaches_enclosed}
use Rattle.cows.proofs.Sets.{label-range}
use Rattle.cows.proofs.Stands.{fails_first}
use Rattle.records.specs.Holds.{Holds}
use Rattle.records.specs.Answers.{found_of}
use Rattle.ways.specs.Known.{Table}
use Rattle.ways.specs.Ways.{Over, FirstAbove}
use Rattle.ways.proofs.KnownTables.{table_inside}
use Rattle.std.specs.Prelude as rust
use Rattle.std.specs.Prelude.{Some, None, is_some}
use Rattle.ways.proofs.Frames.{delimits-bytes}
use Rattle.ways.proofs.Parts.{part_ends}
use Rattle.holding.specs.Holding.{killed, holds_at, Outside}
use Rattle.holding.proofs.HeldBack.{held_whole}

-- a record that is no delimitation of a label
module _ (s : List ℕ) (t : Term) (p : ℕ) (h : Holds s t) (l : p < size t) (k : ℕ) (v : label k ≡ true) where
  pub no-delimitation : get_or s (16 * p) 0 ≢ 8 → delimits_at k (sub t p) ≡ false
  no-delimitation n = sym (delimits-bytes s t p k h l) ∙ rw (ne_eqb (get_or s (16 * p) 0) 8 n)

  pub other_delimitation : word s (16 * p + 2) < 49152 → delimits_at k (sub t p) ≡ false
  other_delimitation n =
      let z : eqb (word s (16 * p + 2)) k ≡ false = ne_eqb _ k (λ e. omega (arith, label-range k v)) in
      sym (delimits-bytes s t p k h l) ∙ rw z (and_none (eqb (get_or s (16 * p) 0) 8))

-- where no record above a place delimits an atom that passes a test, none encloses the place
pub outside_above : (test : ℕ → Bool) (t : Term) (a : ℕ) → a < size t → ((q : ℕ) → Over t q a → q < a → (k : ℕ) → test k ≡ true → delimits_at k (sub t q) ≡ false) → Outside test t a
outside_above test t a l h k v = not_so (λ e.
    let (q, m, x, i) = enclosed_reaches t k a l e in
    clash x (h q (record { inside = omega (arith, l); low = omega arith; over = i }) m k v))

-- what is above a record on the way to a place is above the place
pub over_above : {t : Term} {q p a : ℕ} → Over t q p → Over t p a → Over t q a
over_above {t = t} {q = q} {p = p} x o = record { inside = x.inside; low = omega (arith, x.low, o.low); over = omega (arith, o.over, part_ends t q p x.inside x.low x.over) }

-- a record that delimits no label of a ready kill
pub holds_none : (t : Term) (p : ℕ) → holds_at t p ≡ false → (k : ℕ) → killed t k ≡ true → delimits_at k (sub t p) ≡ false
unfolding found_with
holds_none t p e k f = go (prefixed delimits (sub t p)) e
  where
    go : (o : Option ℕ) → found_with (killed t) o ≡ false → found_with (eqb k) o ≡ false
    go none h = refl
    go (some d) h = ne_eqb k d (λ z. clash (ap (killed t) (sym z) ∙ f) h)

-- what holds place c back encloses it, and is a delimitation of a label that holds a ready kill of the label
abbrev holder : Term → ℕ → Bool
holder t n = found_with (killed (sub t n)) (prefixed delimits (sub t n))

module _ (t : Term) (c n : ℕ) where
  held-inside : held_back c c n (spot_at t n) ≡ true → (n < c) × (c < n + size (sub t n)) × (holder t n ≡ true)
  unfolding held_back encloses sub
  held-inside e =
      let (x, y) = and_true (encloses n (sub t n) c || encloses n (sub t n) c) _ e in
      let (p, q) = and_true (ltb n c) _ (or_case (encloses n (sub t n) c ≡ true) (encloses n (sub t n) c) (encloses n (sub t n) c) x (λ z. z) (λ z. z)) in
      (ltb-true n c p, ltb-true c _ q, y)

  inside-held : n < c → c < n + size (sub t n) → holder t n ≡ true → held_back c c n (spot_at t n) ≡ true
  unfolding held_back encloses sub
  inside-held l m e = true_and (or_left (encloses n (sub t n) c) (encloses n (sub t n) c) (true_and (lt-ltb n c l) (lt-ltb c _ m))) e

-- the first place that passes
first_at : (f : ℕ → Bool) (p n : ℕ) → p < n → f p ≡ true → ((i : ℕ) → i < p → f i ≡ false) → first_from f 0 n ≡ some p
unfolding place_if or_else
first_at f p n l e h =
    let z : n ≡ n - 0 = omega arith in
    ap (first_from f 0) z ∙ (from_skip f 0 p n (omega arith) (omega arith) (λ i x. h i) ∙ (from_next f p n l ∙ rw e))

-- what holds the live place c back
module _ (t : Term) (w : Within t) (c : ℕ) (l : c < size t) (v : live (way_to t c) ≡ true) where
  holder_is : (n : ℕ) → n < c → c < n + size (sub t n) → holder t n ≡ holds_at t n
  unfolding found_with
  holder_is n i j = go (prefixed delimits (sub t n)) refl
    where
      go : (o : Option ℕ) → prefixed delimits (sub t n) ≡ o → found_with (killed (sub t n)) o ≡ found_with (killed t) o
      go none e = refl
      go (some k) e = held_whole t w c n k l v i j e

  -- on the way to c, nothing above a place that is outside
  outside-unheld : (p n : ℕ) → p ≤ c → n < p → Outside (killed t) t p → held_back c c n (spot_at t n) ≡ true → ⊥
  unfolding found_with
  outside-unheld p n i j o e =
      let (x, y, z) = held-inside t c n e in
      let (k, d, f) = holds_some (killed t) (prefixed delimits (sub t n)) (sym (holder_is n x y) ∙ z) in
      clash (reaches_enclosed t k p (omega arith) (n, j, ap (found_with (eqb k)) d ∙ eq-eqb k k refl, omega arith)) (o k f)

  outside-held : (n : ℕ) → Outside (killed t) t c → held_back c c n (spot_at t n) ≡ true → ⊥
  outside-held n o e = outside-unheld c n (omega arith) (held-inside t c n e).0 o e

  pub first_around : (p : ℕ) → Over t p c → p < c → Outside (killed t) t p → holds_at t p ≡ true → first (held_back c c) t ≡ some p
  unfolding first
  first_around p x m o e =
      first_at _ p (size t) x.inside (inside-held t c p m x.over (holder_is p m x.over ∙ e)) (λ n j. not_so (outside-unheld p n x.low j o))

-- the first place that passes one of two tests, if the second passes alone only behind all that pass the first
module _ (f g h : ℕ → Bool) (one : (n : ℕ) → f n ≡ (g n || h n)) (order : (m n : ℕ) → n < m → g m ≡ true → h n ≡ true → g n ≡ true) where
  either_first_lem : (n k : ℕ) → first_from f n k ≡ or_else (first_from g n k) (first_from h n k)
  unfolding first_from place_if or_else
  either_first_lem n zero = refl
  either_first_lem n (suc k) = go (g n) (h n) refl refl (either_first_lem (suc n) k)
    where
      go : (x y : Bool) → g n ≡ x → h n ≡ y → first_from f (suc n) k ≡ or_else (first_from g (suc n) k) (first_from h (suc n) k)
          → or_else (place_if (f n) n) (first_from f (suc n) k) ≡ or_else (or_else (place_if x n) (first_from g (suc n) k)) (or_else (place_if y n) (first_from h (suc n) k))
      go true y p q r = rw (one n, p)
      go false true p q r = rw (one n, p, q, none-first_from g (suc n) k (λ i l. not_so (λ e. clash (order (suc n + i) n (omega arith) e q) p)))
      go false false p q r = rw (one n, p, q) r

-- one of two places is held back
or_same : (x : Bool) → (x || x) ≡ x
or_same true = refl
or_same false = refl

or_flip : (x y : Bool) → (x || y) ≡ (y || x)
or_flip true true = refl
or_flip true false = refl
or_flip false true = refl
or_flip false false = refl

one_of : (x y z : Bool) → ((x || y) && z) ≡ (((x || x) && z) || ((y || y) && z))
one_of true y true = refl
one_of true y false = sym (and_none (y || y))
one_of false y z = ap (λ x. x && z) (sym (or_same y))

held_one : (t : Term) (a b n : ℕ) → held_back a b n (spot_at t n) ≡ (held_back a a n (spot_at t n) || held_back b b n (spot_at t n))
unfolding held_back
held_one t a b n = one_of (encloses n (spot_at t n).here a) (encloses n (spot_at t n).here b) _

pub none-held : (t : Term) → Within t → (a b : ℕ) → a < size t → b < size t → live (way_to t a) ≡ true → live (way_to t b) ≡ true → Outside (killed t) t a → Outside (killed t) t b
    → first (held_back a b) t ≡ none
unfolding way_to sub
none-held t w a b la lb va vb oa ob =
    fails_first (held_back a b) t (λ n i e.
    or_case ⊥ (held_back a a n (spot_at t n)) (held_back b b n (spot_at t n)) (sym (held_one t a b n) ∙ e) (outside-held t w a la va n oa) (outside-held t w b lb vb n ob))

-- the first around the lower place a, or else the first around the higher place b
module _ (t : Term) (a b : ℕ) (l : a ≤ b) where
  lower-first : (m n : ℕ) → n < m → held_back a a m (spot_at t m) ≡ true → held_back b b n (spot_at t n) ≡ true → held_back a a n (spot_at t n) ≡ true
  lower-first m n i e f =
      let (x, y, z) = held-inside t b n f in
      let u = (held-inside t a m e).0 in
      inside-held t a n (omega arith) (omega arith) z

  abbrev either_first : Option ℕ
  either_first = or_else (first (held_back a a) t) (first (held_back b b) t)

  pub first_either : first (held_back a b) t ≡ either_first
  unfolding first
  first_either = either_first_lem _ _ _ (held_one t a b) lower-first 0 (size t)

  pub first_either_flipped : first (held_back b a) t ≡ either_first
  unfolding first
  first_either_flipped = either_first_lem _ _ _ (λ n. held_one t b a n ∙ or_flip (held_back b b n (spot_at t n)) (held_back a a n (spot_at t n))) lower-first 0 (size t)

-- no record above a place delimits a label
pub unlabelled : {s ends : List ℕ} {t : Term} {a : ℕ} {test : ℕ → Bool → Type 0} → Table s ends t → a < length s / 16
    → ((p : ℕ) → p < size t → test p false → (k : ℕ) → label k ≡ true → delimits_at k (sub t p) ≡ false)
    → (r : rust.Option ℕ) → is_some r ≡ false → FirstAbove test t a r → Outside label t a
unlabelled {s = s} {ends = ends} {t = t} {a = a} h l tells None e f = outside_above label t a (table_inside s ends t h a l) (λ q o n. tells q o.inside (f.none refl q o n))
unlabelled h l tells (Some p) e f = clash refl e

-- the first record above a live place that delimits a label of a ready kill is the first that holds the place back
module _ {s ends : List ℕ} {t : Term} {a : ℕ} (h : Table s ends t) (l : a < length s / 16) (v : live (way_to t a) ≡ true) {test : ℕ → Bool → Type 0}
    (tells : (p : ℕ) (b : Bool) → p < size t → test p b → b ≡ holds_at t p) where
  abbrev inside : a < size t
  inside = table_inside s ends t h a l

  unmarked : (c : ℕ) → c < size t → ((q : ℕ) → Over t q c → q < c → test q false) → Outside (killed t) t c
  unmarked c m e = outside_above (killed t) t c m (λ q o n. holds_none t q (sym (tells q false o.inside (e q o n))))

  pub marked_first : (r : rust.Option ℕ) → FirstAbove test t a r → r ≡ found_of (first (held_back a a) t)
  marked_first None f = let o = unmarked a inside (f.none refl) in ap found_of (sym (none-held t h.within a a inside inside v v o o))
  marked_first (Some p) f =
      let (o, m, e, b) = f.some p refl in
      let u = unmarked p o.inside (λ q x n. b q (over_above x o) n) in
      ap found_of (sym (first_around t h.within a inside v p o m u (sym (tells p true o.inside e))))
