-- The first record that is not right, by a search over the places of the records.
use mathlib.Core.Path.{◌≡◌, refl, sym, ap, ◌∙◌}
use mathlib.Core.Bool.{Bool, true, false, not}
use mathlib.Core.List.{List}
use Prim.Native.Nat.{ℕ, zero, suc, ◌+◌, ◌*◌, ◌/◌, ◌≤◌, ◌<◌}
use native.Mathlib.Omega.{arith}
use lib.ListN.{length, take, drop}
use Rattle.std.specs.Prelude.{Option, Some, None}
use Rattle.std.specs.Option.{MatchOption}
use Rattle.cows.specs.Cut.{cut, first_failing}
use Rattle.cows.proofs.Cut.{failing_here, passing_here, none_left}
use Rattle.records.specs.Answers.{found_of}
use Rattle.orc.specs.Scripts.{right_record8}

-- the record at place i is right
abbrev pub right_at : List ℕ → ℕ → Bool
right_at s i = right_record8 (take 8 (drop (8 * i) s))

abbrev pub Searched : (s : List ℕ) (r : Option ℕ) → Type 0
Searched s r =
    MatchOption r ((k : ℕ) → 0 ≤ k → k < length s / 8 → right_at s k ≡ true)
    (λ i. (0 ≤ i) × (i < length s / 8) × (right_at s i ≡ false) × ((k : ℕ) → 0 ≤ k → k < i → right_at s k ≡ true))

module _ (s : List ℕ) where
  passed : (i : ℕ) → i ≤ length s / 8 → ((k : ℕ) → 0 ≤ k → k < i → right_at s k ≡ true)
      → first_failing right_record8 0 (cut 8 s) ≡ first_failing right_record8 i (drop i (cut 8 s))
  passed zero l h = refl
  passed (suc i) l h =
      let z : suc i ≡ i + 1 = omega arith in
      let e = passed i (omega arith) (λ k a b. h k a (omega arith)) in
      rw z (e ∙ passing_here 8 right_record8 s i (right_at s i) (omega arith) refl (ap not (h i (omega arith) (omega arith))))

  pub first_found : (r : Option ℕ) → Searched s r → r ≡ found_of (first_failing right_record8 0 (cut 8 s))
  first_found None h = sym (ap found_of (passed (length s / 8) (omega arith) h ∙ none_left 8 right_record8 s (length s / 8) (omega arith)))
  first_found (Some i) (a, l, f, h) = sym (ap found_of (passed i (omega arith) h ∙ failing_here 8 right_record8 s i (right_at s i) l refl (ap not f)))
