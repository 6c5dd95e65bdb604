-- The record check by kind: what the code tests of 16 bytes is what the kind's row says (specs/Format, kinds).
use mathlib.Core.Path.{◌≡◌, refl, sym, ap, ◌∙◌}
use mathlib.Core.Bool.{Bool, true, false, cond, not, ◌&&◌, ◌||◌, and-true, and-false, and_assoc, and_comm, or-false, or_assoc, and-or_distrib_left}
use mathlib.Core.List.{List, [], ◌∷◌, ◌++◌}
use Prim.Native.Nat.{ℕ, zero, suc, ◌+◌, ◌*◌, ◌/◌, ◌%◌, ◌≤◌, ◌<◌}
use native.Mathlib.Omega.{arith}
use lib.Dec.{leb, ltb, eqb}
use lib.ListN.{take, drop, take-append-drop}
use borrow.Author.Tests.{eqb-true, leb-true, ltb-true, eq-eqb, ne_eqb, le-leb, lt-leb, lt-ltb, le-ltb}
use Rattle.cows.specs.Basics.{any, every, member}
use Rattle.cows.specs.Terms.{value, variable, label, datum, atom}
use Rattle.cows.specs.Kinds.{unused, interval, distinct, data4, pattern4, empty4, kinds, row_of, may}
use Rattle.cows.specs.Format.{byte, word, slots, right_contents, right_record}
use Rattle.cows.proofs.Basics.{and_true as and_parts, true_and, lt_case, same_test, member_append}
use Rattle.cows.proofs.Sets.{variable-range}
use Rattle.rows.specs.Rows.{quad, in_range, slot_right, tuple_contents, plain_right}

-- A test says a fact: it is true exactly if the fact holds. Two tests that say the same are equal.
record Says (b : Bool) (P : Type 0) : Type 0 where
  to : b ≡ true → P
  from : P → b ≡ true

eq_says : (x y : ℕ) → Says (eqb x y) (x ≡ y)
eq_says x y = record { to = eqb-true x y; from = eq-eqb x y }

le_says : (x y : ℕ) → Says (leb x y) (x ≤ y)
le_says x y = record { to = leb-true x y; from = le-leb x y }

lt_says : (x y : ℕ) → Says (ltb x y) (x < y)
lt_says x y = record { to = ltb-true x y; from = lt-ltb x y }

and_says : {a b : Bool} {P Q : Type 0} → Says a P → Says b Q → Says (a && b) (P × Q)
and_says {a} {b} p q =
    record {
      to = λ h. let (u, v) = and_parts a b h in (p.to u, q.to v);
      from = λ h. true_and (p.from h.0) (q.from h.1);
    }

same_says : {a b : Bool} {P Q : Type 0} → Says a P → Says b Q → (P → Q) → (Q → P) → a ≡ b
same_says p q f g = same_test (λ h. q.from (f (p.to h))) (λ h. p.from (g (q.to h)))

and_under : (a : Bool) {b c : Bool} → (a ≡ true → b ≡ c) → (a && b) ≡ (a && c)
and_under true f = f refl
and_under false f = refl

-- Atoms are ranges of numbers.
range-join : (l m h a : ℕ) → l ≤ m → m ≤ h → (in_range l m a || in_range m h a) ≡ in_range l h a
range-join l m h a p q =
    lt_case _ a m (λ k. rw (lt-ltb a m k, lt-leb m a k, lt-ltb a h (omega arith)) (or-false _))
    (λ k. rw (le-ltb a m k, le-leb m a k, le-leb l a (omega arith)))

pub datum-range : (a : ℕ) → datum a ≡ in_range 1 49152 a
unfolding datum value variable
datum-range a = range-join 1 32768 49152 a (omega arith) (omega arith)

pub atom-range : (a : ℕ) → atom a ≡ in_range 1 65536 a
unfolding atom label
atom-range a = rw (datum-range a) (range-join 1 49152 65536 a (omega arith) (omega arith))

-- A slot, as the code tests it; four slots are a tuple.
pub slot_code : (n j a : ℕ) → ((ltb j n && in_range 1 49152 a) || (not (ltb j n) && eqb a 0)) ≡ slot_right n j a
unfolding slot_right unused
slot_code n j a = rw (datum-range a) (go (ltb j n))
  where
    go : (b : Bool) → ((b && in_range 1 49152 a) || (not b && eqb a 0)) ≡ cond b (in_range 1 49152 a) (eqb a 0)
    go true = or-false _
    go false = refl

slots_data : (n a b c d : ℕ) → (leb n 4 && (slot_right n 0 a && slot_right n 1 b && slot_right n 2 c && slot_right n 3 d)) ≡ data4 n (a ∷ b ∷ c ∷ d ∷ [])
unfolding slot_right data4 every
slots_data zero a b c d = simp (and_assoc, and-true)
slots_data (suc zero) a b c d = simp (and_assoc, and-true)
slots_data (suc (suc zero)) a b c d = simp (and_assoc, and-true)
slots_data (suc (suc (suc zero))) a b c d = simp (and_assoc, and-true)
slots_data (suc (suc (suc (suc zero)))) a b c d = simp (and_assoc, and-true)
slots_data (suc (suc (suc (suc (suc n))))) a b c d = rw (lt-leb (suc (suc (suc (suc (suc n))))) 4 (omega arith))

-- No variable twice: four slots compared in pairs; the zeros behind a tuple do not matter.
pub distinct_code : (a b c d : ℕ)
    → (not (variable a && eqb a b || variable a && eqb a c || variable a && eqb a d) && not (variable b && eqb b c || variable b && eqb b d) && not (variable c && eqb c d))
    ≡ distinct (a ∷ b ∷ c ∷ d ∷ [])
unfolding distinct member any
distinct_code a b c d = simp (or-false, and-false, and-true, and-or_distrib_left, or_assoc, and_assoc)

zero_head : (z : ℕ) (zs : List ℕ) → every unused (z ∷ zs) ≡ true → (z ≡ 0) × (every unused zs ≡ true)
unfolding every unused
zero_head z zs h = let (p, q) = and_parts (eqb z 0) _ h in (eqb-true z 0 p, q)

member_zeros : (a : ℕ) (zs : List ℕ) → variable a ≡ true → every unused zs ≡ true → member a zs ≡ false
unfolding member any
member_zeros a [] v h = refl
member_zeros a (z ∷ zs) v h =
    let (p, q) = zero_head z zs h in
    rw (ne_eqb a z (λ e. omega (arith, variable-range a v))) (member_zeros a zs v q)

distinct_zeros : (ws zs : List ℕ) → every unused zs ≡ true → distinct (ws ++ zs) ≡ distinct ws
unfolding distinct variable
distinct_zeros [] [] h = refl
distinct_zeros [] (z ∷ zs) h = let (p, q) = zero_head z zs h in rw p (distinct_zeros [] zs q)
distinct_zeros (w ∷ ws) zs h =
    rw (distinct_zeros ws zs h, member_append w ws zs, and_under (variable w) {b = member w ws || member w zs} {c = member w ws} (λ v. rw (member_zeros w zs v h) (or-false (member w ws))))

pattern_data : (n : ℕ) (ws : List ℕ) → pattern4 n ws ≡ (data4 n ws && distinct ws)
unfolding pattern4 data4
pattern_data n ws =
    and_under (data4 n ws) (λ h. sym (distinct_zeros (take n ws) (drop n ws) (and_parts (leb n 4 && every datum (take n ws)) _ h).1) ∙ ap distinct (take-append-drop n ws))

-- The kinds with a tuple: count n, endpoint p and o, four slots and interval i, as the code tests them.
abbrev pub tuple_test : ℕ → ℕ → ℕ → ℕ → ℕ → ℕ → ℕ → ℕ → ℕ → Bool
tuple_test top n p o a b c d i =
    in_range 1 top p && in_range 1 top o && (leb n 4 && (slot_right n 0 a && slot_right n 1 b && slot_right n 2 c && slot_right n 3 d)) && eqb i 0

pub tuple_code : (b : List ℕ) (top : ℕ) → tuple_test top (byte b 1) (word b 2) (word b 4) (word b 6) (word b 8) (word b 10) (word b 12) (word b 14) ≡ right_contents (tuple_contents top) b
unfolding right_contents slots unused
tuple_code b top = rw (slots_data (byte b 1) (word b 6) (word b 8) (word b 10) (word b 12))

pub invoke_code : (b : List ℕ) → byte b 0 ≡ 2 → right_contents (tuple_contents 49152) b ≡ right_record b
unfolding right_record kinds row_of right_contents
invoke_code b e = rw (e, datum-range (word b 2), datum-range (word b 4))

pub receive_code : (b : List ℕ) → byte b 0 ≡ 3 → (right_contents (tuple_contents 32768) b && distinct (slots b)) ≡ right_record b
unfolding right_record kinds row_of right_contents value
receive_code b e =
    rw (e, pattern_data (byte b 1) (slots b)) (go (in_range 1 32768 (word b 2) && in_range 1 32768 (word b 4)) (data4 (byte b 1) (slots b)) (unused (word b 14)) (distinct (slots b)))
  where
    go : (x y i z : Bool) → ((x && y && i) && z) ≡ (x && (y && z) && i)
    go x y i z = simp and_assoc (rw (and_comm i z))

-- The kinds without a tuple, by their fields: kind k, count n, first atom a, second atom c, first slot w, the other slots y, interval g.
-- A record with only its first atom in use; with only its interval; with no field in use.
module _ (k n a c w y g : ℕ) where
  abbrev zeros : Bool
  zeros = eqb c 0 && (eqb n 0 && (eqb w 0 && eqb y 0))

  zeros_says : Says zeros ((c ≡ 0) × ((n ≡ 0) × ((w ≡ 0) × (y ≡ 0))))
  zeros_says = and_says (eq_says c 0) (and_says (eq_says n 0) (and_says (eq_says w 0) (eq_says y 0)))

  abbrev first3 : ℕ
  first3 = a + 65536 * c + 4294967296 * w

  first_test : (l : ℕ) → (eqb (k + 256 * n) k && leb l first3 && ltb first3 65536 && eqb (y + 281474976710656 * g) 0) ≡ (in_range l 65536 a && zeros && eqb g 0)
  first_test l =
      same_says (and_says (and_says (and_says (eq_says (k + 256 * n) k) (le_says l first3)) (lt_says first3 65536)) (eq_says (y + 281474976710656 * g) 0))
      (and_says (and_says (and_says (le_says l a) (lt_says a 65536)) zeros_says) (eq_says g 0)) (λ h. let z : (c ≡ 0) × (w ≡ 0) = omega arith in omega arith)
      (λ h. omega arith)

  wait_test : k ≡ 4 → g < 65536 → (eqb (k + 256 * n + 65536 * first3) 4 && eqb y 0) ≡ (eqb a 0 && zeros && ltb g 65536)
  wait_test e l =
      same_says (and_says (eq_says (k + 256 * n + 65536 * first3) 4) (eq_says y 0)) (and_says (and_says (eq_says a 0) zeros_says) (lt_says g 65536)) (λ h. omega arith)
      (λ h. omega arith)

  nil_test : (ltb (k + 256 * n + 65536 * first3) 10 && eqb (y + 281474976710656 * g) 0) ≡ (ltb k 10 && (eqb a 0 && zeros && eqb g 0))
  nil_test =
      same_says (and_says (lt_says (k + 256 * n + 65536 * first3) 10) (eq_says (y + 281474976710656 * g) 0))
      (and_says (lt_says k 10) (and_says (and_says (eq_says a 0) zeros_says) (eq_says g 0))) (λ h. omega arith) (λ h. omega arith)

zero_and : (x y : ℕ) → (eqb x 0 && eqb y 0) ≡ eqb (x + 65536 * y) 0
zero_and x y = same_says (and_says (eq_says x 0) (eq_says y 0)) (eq_says (x + 65536 * y) 0) (λ h. omega arith) (λ h. omega arith)

cut_low : (x y : ℕ) → x < 65536 → ((x + 65536 * y) % 65536 ≡ x) × ((x + 65536 * y) / 65536 ≡ y)
cut_low x y h = omega arith

cut_high : (x y : ℕ) → x < 281474976710656 → (x + 281474976710656 * y) % 281474976710656 ≡ x
cut_high x y h = omega arith

unknown : (k low high : ℕ) → 10 ≤ k → plain_right k low high ≡ (ltb low 10 && eqb high 0)
unfolding plain_right
unknown k low high h = rw (ne_eqb k 8 (λ e. omega arith), ne_eqb k 1 (λ e. omega arith), ne_eqb k 4 (λ e. omega arith))

-- The same of a record's bytes: its two 64-bit numbers, and its row.
module _ (b : List ℕ) (h : (i : ℕ) → byte b i < 256) where
  small : (i : ℕ) → word b i < 65536
  unfolding word
  small i = omega (arith, h i, h (suc i))

  abbrev atoms : ℕ
  atoms = first3 (byte b 0) (byte b 1) (word b 2) (word b 4) (word b 6) 0 0

  abbrev others : ℕ
  others = word b 8 + 65536 * (word b 10 + 65536 * word b 12)

  low_is : quad b 0 ≡ byte b 0 + 256 * byte b 1 + 65536 * atoms
  unfolding quad word
  low_is = omega arith

  low_cut : (quad b 0 % 65536 ≡ byte b 0 + 256 * byte b 1) × (quad b 0 / 65536 ≡ atoms)
  low_cut = rw low_is (cut_low (byte b 0 + 256 * byte b 1) atoms (omega (arith, h 0, h 1)))

  high_is : quad b 8 ≡ others + 281474976710656 * word b 14
  unfolding quad
  high_is = omega arith

  high_cut : quad b 8 % 281474976710656 ≡ others
  high_cut = rw high_is (cut_high others (word b 14) (omega (arith, small 8, small 10, small 12)))

  bare-row : (p q : ℕ → Bool) → right_contents (may p unused empty4 q) b ≡ (p (word b 2) && (eqb (word b 4) 0 && (eqb (byte b 1) 0 && (eqb (word b 6) 0 && eqb others 0))) && q (word b 14))
  unfolding right_contents empty4 every unused slots
  bare-row p q =
      rw (and-true (eqb (word b 12) 0), zero_and (word b 10) (word b 12), zero_and (word b 8) (word b 10 + 65536 * word b 12), and_assoc (p (word b 2)) (eqb (word b 4) 0) _)

  first_code : (p : ℕ → Bool) (k l : ℕ) → byte b 0 ≡ k → p (word b 2) ≡ in_range l 65536 (word b 2)
      → (eqb (quad b 0 % 65536) k && leb l (quad b 0 / 65536) && ltb (quad b 0 / 65536) 65536 && eqb (quad b 8) 0) ≡ right_contents (may p unused empty4 unused) b
  unfolding unused
  first_code p k l e r = rw (bare-row p unused, r, low_cut.0, low_cut.1, high_is, ← e) (first_test (byte b 0) (byte b 1) (word b 2) (word b 4) (word b 6) others (word b 14) l)

  wait_code : byte b 0 ≡ 4 → (eqb (quad b 0) 4 && eqb (quad b 8 % 281474976710656) 0) ≡ right_contents (may unused unused empty4 interval) b
  unfolding unused interval
  wait_code e = rw (bare-row unused interval, low_is, high_cut) (wait_test (byte b 0) (byte b 1) (word b 2) (word b 4) (word b 6) others (word b 14) e (small 14))

  nil_code : (k : ℕ) → byte b 0 ≡ k → (ltb (quad b 0) 10 && eqb (quad b 8) 0) ≡ (ltb k 10 && right_contents (may unused unused empty4 unused) b)
  unfolding unused
  nil_code k e = rw (bare-row unused unused, low_is, high_is, ← e) (nil_test (byte b 0) (byte b 1) (word b 2) (word b 4) (word b 6) others (word b 14))

  by_kind : (k : ℕ) → byte b 0 ≡ k → (k ≡ 2 → ⊥) → (k ≡ 3 → ⊥) → plain_right k (quad b 0) (quad b 8) ≡ (ltb k 10 && right_contents (row_of k).holds b)
  unfolding plain_right kinds row_of label
  by_kind zero e m n = nil_code 0 e
  by_kind (suc zero) e m n = first_code label 1 49152 e refl
  by_kind (suc (suc zero)) e m n = absurd (m refl)
  by_kind (suc (suc (suc zero))) e m n = absurd (n refl)
  by_kind (suc (suc (suc (suc zero)))) e m n = wait_code e
  by_kind (suc (suc (suc (suc (suc zero))))) e m n = nil_code 5 e
  by_kind (suc (suc (suc (suc (suc (suc zero)))))) e m n = nil_code 6 e
  by_kind (suc (suc (suc (suc (suc (suc (suc zero))))))) e m n = nil_code 7 e
  by_kind (suc (suc (suc (suc (suc (suc (suc (suc zero)))))))) e m n = first_code atom 8 1 e (atom-range (word b 2))
  by_kind (suc (suc (suc (suc (suc (suc (suc (suc (suc zero))))))))) e m n = nil_code 9 e
  by_kind (suc (suc (suc (suc (suc (suc (suc (suc (suc (suc k)))))))))) e m n =
      unknown (suc (suc (suc (suc (suc (suc (suc (suc (suc (suc k)))))))))) (quad b 0) (quad b 8) (omega arith) ∙ nil_code _ e

  pub plain_code : (byte b 0 ≡ 2 → ⊥) → (byte b 0 ≡ 3 → ⊥) → plain_right (byte b 0) (quad b 0) (quad b 8) ≡ right_record b
  unfolding right_record kinds
  plain_code m n = by_kind (byte b 0) refl m n
