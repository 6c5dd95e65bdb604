-- One mark more: what it does to the marks held and to their total; what is left of the total from a place on.
use mathlib.Core.Path.{◌≡◌, refl, ap, ◌∙◌}
use mathlib.Core.Bool.{Bool, true, false}
use mathlib.Core.List.{List, [], ◌∷◌}
use Prim.Native.Nat.{ℕ, zero, suc, ◌+◌, ◌-◌, ◌≤◌, ◌<◌}
use native.Mathlib.Omega.{arith}
use native.Mathlib.Numerals.{add-one}
use lib.ListN.{length, get_or, drop, set, replicate, length-set, length-replicate}
use lib.Seq.{drop-cons, get_or-set_same, get_or-set_other}
use borrow.Author.Tests.{eq-eqb, ne_eqb}
use Rattle.std.specs.Prelude.{Option, Some, None}
use Rattle.std.specs.Option.{IsSome, MatchOption}
use Rattle.std.proofs.lemmas.List.{get_or-replicate}
use Rattle.cows.specs.Basics.{one_if, any, member}
use Rattle.cows.proofs.Basics.{eq_case}
use Rattle.spares.specs.Spares.{total, Holding, HeldToo, NextSpare}

pub total_zeros : (n : ℕ) → total (replicate n false) ≡ 0
unfolding total
total_zeros zero = refl
total_zeros (suc n) = omega (arith, total_zeros n)

-- the total from place n on is the mark there and the rest
pub total_from : (used : List Bool) (n : ℕ) → n < length used → total (drop n used) ≡ one_if (get_or used n false) + total (drop (n + 1) used)
unfolding total
total_from used n l = ap total (drop-cons used n false l) ∙ rw add-one

total-set : (used : List Bool) (k : ℕ) → total (set used k true) ≤ total used + 1
unfolding total
total-set [] k = omega arith
total-set (true ∷ xs) zero = omega arith
total-set (false ∷ xs) zero = omega arith
total-set (x ∷ xs) (suc k) = omega (arith, total-set xs k)

-- marks just cleared hold nothing
pub none-held : Holding (replicate 4096 false) []
unfolding member any
none-held = record { all = length-replicate {A = Bool} 4096 false; is = λ a l. get_or-replicate 4096 a false false l }

module _ (used : List Bool) (a : ℕ) (all : length used ≡ 4096) where
  marked : a < 4096 → (atoms : List ℕ) → Holding used atoms → (b : ℕ) → b < 4096 → get_or (set used a true) b false ≡ member b (a ∷ atoms)
  unfolding member any
  marked l atoms h b m =
      eq_case _ b a (λ e. rw (e, eq-eqb a a refl) (get_or-set_same used a true false (omega arith)))
      (λ n. rw (ne_eqb b a n) (get_or-set_other used a b true false n ∙ h.is b m))

  pub held_low : a < 4096 → HeldToo used a (set used a true)
  held_low l = record {
    all = length-set used a true ∙ all;
    few = total-set used a;
    marks = λ atoms h. record { all = length-set used a true ∙ all; is = marked l atoms h };
  }

  -- an atom above the marks changes none
  pub held_high : 4096 ≤ a → HeldToo used a used
  unfolding member any
  held_high l = record {
    all = all;
    few = omega arith;
    marks = λ atoms h. record { all = all; is = λ b m. rw (ne_eqb b a (λ e. omega arith)) (h.is b m) };
  }

-- What a search for the first value from v on without a mark finds: it finds one, since fewer marks are set than there are values.
abbrev pub Searched : (used : List Bool) (v : ℕ) (r : Option ℕ) → Type 0
Searched used v r =
    MatchOption r ((k : ℕ) → v ≤ k → k < 4096 → get_or used k false ≡ true)
    (λ n. (v ≤ n) × (n < 4096) × (get_or used n false ≡ false) × ((k : ℕ) → v ≤ k → k < n → get_or used k false ≡ true))

module _ (used : List Bool) (v : ℕ) (all : length used ≡ 4096) where
  -- from v on, m values with marks
  passed_total : (m : ℕ) → v + m ≤ 4096 → ((k : ℕ) → v ≤ k → k < v + m → get_or used k false ≡ true) → v + m + total (drop (v + m) used) ≡ v + total (drop v used)
  passed_total zero l h = let z : v + 0 ≡ v = omega arith in rw z
  passed_total (suc m) l h =
      let z : v + suc m ≡ v + m + 1 = omega arith in
      let here = rw (h (v + m) (omega arith) (omega arith)) at (total_from used (v + m) (omega arith)) in
      rw z (omega (arith, here, passed_total m (omega arith) (λ k a b. h k a (omega arith))))

  module _ (room : v + total (drop v used) < 4096) where
    pub spare_found : (r : Option ℕ) → Searched used v r → IsSome r
    spare_found None h =
        let z : v + (4096 - v) ≡ 4096 = omega arith in
        absurd (omega (arith, passed_total (4096 - v) (omega arith) (λ k a b. h k a (omega arith))))
    spare_found (Some n) h = refl

    pub next_found : (n : ℕ) → Searched used v (Some n) → NextSpare used v n
    next_found n (f, b, e, h) =
        let z : v + (n - v) ≡ n = omega arith in
        let t = rw z at (passed_total (n - v) (omega arith) (λ k a b. h k a (omega arith))) in
        record { from = f; below = b; free = e; passed = h; few = omega (arith, t, rw e at (total_from used n (omega arith))) }
