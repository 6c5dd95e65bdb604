-- The atoms that the pass takes (specs/Writing, Supplied) are the smallest of their sets that are not taken, in their order: those that the translation names.
use mathlib.Core.Path.{◌≡◌, refl, sym, ap, ◌∙◌}
use mathlib.Core.Bool.{Bool, true, false}
use mathlib.Core.List.{List, [], ◌∷◌, ◌++◌}
use Prim.Native.Nat.{ℕ, ◌+◌, ◌≤◌, ◌<◌}
use native.Mathlib.Omega.{arith}
use lib.Dec.{eqb}
use borrow.Author.Tests.{eq-eqb, ne_eqb}
use Rattle.cows.specs.Basics.{any, member}
use Rattle.cows.specs.Terms.{value, label}
use Rattle.cows.specs.Moves.{Substitution}
use Rattle.cows.specs.Allows.{SameSet, Smallest, Renames, finished, renames}
use Rattle.cows.proofs.Basics.{clash, lt_case, or_left, or_right}
use Rattle.cows.proofs.Sets.{in-values, in_labels, alike_sets, value-range, label-range}
use Rattle.orc.specs.Translation.{seconds}
use Rattle.spares.specs.Spares.{Holding, NextSpare}
use Rattle.translating.specs.Writing.{Supplied, none_left, a_value, a_label}

-- one supply after another is one
pub supplied_append : {used : List Bool} {v k v₁ k₁ v₂ k₂ : ℕ} {ds es ms ns : List ℕ} → Supplied used v k ds ms v₁ k₁ → Supplied used v₁ k₁ es ns v₂ k₂ → Supplied used v k (ds ++ es) (ms ++ ns) v₂ k₂
supplied_append none_left q = q
supplied_append (a_value f p) q = a_value f (supplied_append p q)
supplied_append (a_label p) q = a_label (supplied_append p q)

labels_rise : {used : List Bool} {v k v' k' : ℕ} {ds ns : List ℕ} → Supplied used v k ds ns v' k' → k ≤ k'
labels_rise none_left = omega arith
labels_rise (a_value f p) = labels_rise p
labels_rise (a_label p) = omega (arith, labels_rise p)

-- What is taken stands between the values v and the labels k: all below them, and above them what the input holds.
pub record TakenUpTo (input taken : List ℕ) (v k : ℕ) : Type 0 where
  pub values_start : 1 ≤ v
  pub values_below : (a : ℕ) → 1 ≤ a → a < v → member a taken ≡ true
  pub values_above : (a : ℕ) → v ≤ a → a < 32768 → member a taken ≡ member a input
  pub labels_start : 49152 ≤ k
  pub labels_below : (a : ℕ) → 49152 ≤ a → a < k → member a taken ≡ true
  pub labels_above : (a : ℕ) → k ≤ a → a < 65536 → member a taken ≡ member a input

pub taken_start : (input : List ℕ) → TakenUpTo input input 1 49152
taken_start input = record {
  values_start = omega arith;
  values_below = λ a h l. absurd (omega arith);
  values_above = λ a h l. refl;
  labels_start = omega arith;
  labels_below = λ a h l. absurd (omega arith);
  labels_above = λ a h l. refl;
}

member_head : (a n : ℕ) (l : List ℕ) → a ≡ n → member a (n ∷ l) ≡ true
unfolding member any
member_head a n l e = or_left (eqb a n) (any (eqb a) l) (eq-eqb a n e)

member_more : (a n : ℕ) (l : List ℕ) → member a l ≡ true → member a (n ∷ l) ≡ true
unfolding member any
member_more a n l e = or_right (eqb a n) (any (eqb a) l) e

member_other : (a n : ℕ) (l : List ℕ) → (a ≡ n → ⊥) → member a (n ∷ l) ≡ member a l
unfolding member any
member_other a n l h = rw (ne_eqb a n h)

like_value : (a : ℕ) → 1 ≤ a → a < 32768 → SameSet a 1
like_value a h l = alike_sets true false false a 1 (in-values a h l) (in-values 1 (omega arith) (omega arith))

like_label : (a : ℕ) → 49152 ≤ a → a < 65536 → SameSet a 49152
like_label a h l = alike_sets false false true a 49152 (in_labels a h l) (in_labels 49152 (omega arith) (omega arith))

module _ (used : List Bool) (input : List ℕ) (holds : Holding used input) where
  -- The next value without a mark is the smallest that is not taken; and then it is taken.
  module _ (taken : List ℕ) (v k n : ℕ) (c : TakenUpTo input taken v k) (f : NextSpare used v n) where
    held-between : (a : ℕ) → v ≤ a → a < n → member a taken ≡ true
    held-between a h l =
        c.values_above a h (omega (arith, f.below))
        ∙ (sym (holds.is a (omega (arith, f.below))) ∙ f.passed a h l)

    taken-below : (a : ℕ) → 1 ≤ a → a < n → member a taken ≡ true
    taken-below a h l = lt_case (member a taken ≡ true) a v (c.values_below a h) (λ q. held-between a q l)

    next_smallest : Smallest taken 1 n
    unfolding value
    next_smallest = record {
      set = like_value n (omega (arith, c.values_start, f.from)) (omega (arith, f.below));
      free = c.values_above n f.from (omega (arith, f.below)) ∙ (sym (holds.is n f.below) ∙ f.free);
      least = λ a s m. lt_case (n ≤ a) a n (λ l. clash (taken-below a (value-range a s.values).0 l) m) (λ l. l);
    }

    taken-value : TakenUpTo input (n ∷ taken) (n + 1) k
    taken-value = record {
      values_start = omega arith;
      values_below = λ a h l. lt_case (member a (n ∷ taken) ≡ true) a n (λ x. member_more a n taken (taken-below a h x)) (λ x. member_head a n taken (omega arith));
      values_above = λ a h l. member_other a n taken (λ e. omega arith) ∙ c.values_above a (omega (arith, f.from)) l;
      labels_start = c.labels_start;
      labels_below = λ a h l. member_more a n taken (c.labels_below a h l);
      labels_above = λ a h l. member_other a n taken (λ e. omega (arith, f.below, c.labels_start)) ∙ c.labels_above a h l;
    }

  -- The next label is the smallest, since the input holds none.
  module _ (none : (a : ℕ) → label a ≡ true → member a input ≡ false) (taken : List ℕ) (v k : ℕ) (c : TakenUpTo input taken v k) (small : k < 65536) where
    label_smallest : Smallest taken 49152 k
    unfolding label
    label_smallest = record {
      set = like_label k c.labels_start small;
      free = c.labels_above k (omega arith) small ∙ none k (in_labels k c.labels_start small).2;
      least = λ a s m. lt_case (k ≤ a) a k (λ l. clash (c.labels_below a (label-range a s.labels).0 l) m) (λ l. l);
    }

    taken-label : TakenUpTo input (k ∷ taken) v (k + 1)
    taken-label = record {
      values_start = c.values_start;
      values_below = λ a h l. member_more a k taken (c.values_below a h l);
      values_above = λ a h l. member_other a k taken (λ e. omega (arith, c.labels_start)) ∙ c.values_above a h l;
      labels_start = omega (arith, c.labels_start);
      labels_below = λ a h l. lt_case (member a (k ∷ taken) ≡ true) a k (λ x. member_more a k taken (c.labels_below a h x)) (λ x. member_head a k taken (omega arith));
      labels_above = λ a h l. member_other a k taken (λ e. omega arith) ∙ c.labels_above a (omega arith) l;
    }

-- a choice by the rule of new atoms, and its atoms
pub record ChosenAs (taken ds ns : List ℕ) : Type 0 where
  pub choice : Substitution
  pub smallest : Renames taken ds choice
  pub are : seconds choice ≡ ns

module _ (used : List Bool) (input : List ℕ) (holds : Holding used input) (none : (a : ℕ) → label a ≡ true → member a input ≡ false) where
  pub supplied_chosen : {v k v' k' : ℕ} {ds ns : List ℕ} → Supplied used v k ds ns v' k' → k' ≤ 65536 → (taken : List ℕ) → TakenUpTo input taken v k → ChosenAs taken ds ns
  supplied_chosen none_left l taken c = record { choice = []; smallest = finished; are = refl }
  supplied_chosen (a_value {v = v} {k = k} {n = n} f p) l taken c =
      let z = supplied_chosen p l (n ∷ taken) (taken-value used input holds taken v k n c f) in
      record { choice = (1, n) ∷ z.choice; smallest = renames (next_smallest used input holds taken v k n c f) z.smallest; are = ap (λ q. n ∷ q) z.are }
  supplied_chosen (a_label {v = v} {k = k} p) l taken c =
      let small : k < 65536 = omega (arith, labels_rise p) in
      let z = supplied_chosen p l (k ∷ taken) (taken-label used input holds none taken v k c small) in
      record { choice = (49152, k) ∷ z.choice; smallest = renames (label_smallest used input holds none taken v k c small) z.smallest; are = ap (λ q. k ∷ q) z.are }
