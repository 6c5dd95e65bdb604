-- Marks (specs/Marks): what the mark of a variable tells, and the marks with one of them set.
use mathlib.Core.Path.{◌≡◌, refl, sym, ap, ◌∙◌}
use mathlib.Core.Logic.{◌≢◌}
use mathlib.Core.Bool.{Bool, true, false}
use mathlib.Core.List.{List}
use Prim.Native.Nat.{ℕ, ◌+◌, ◌-◌}
use native.Mathlib.Omega.{arith}
use lib.ListN.{length, get_or, set}
use lib.Seq.{get_or-set_same, get_or-set_other}
use Rattle.cows.specs.Limits.{first_variable}
use Rattle.cows.specs.Basics.{member}
use Rattle.cows.specs.Terms.{variable}
use Rattle.cows.proofs.Basics.{eq_case}
use Rattle.cows.proofs.Sets.{variable-range}
use Rattle.bindings.specs.declared.Mark.{Mark}
use Rattle.bindings.specs.declared.Mark.TheVariants.{Unseen}
use Rattle.bindings.specs.Marks.{is_open, binding_mark, MarkedFor}

-- the mark of the variable x
module _ {marks : List Mark} {seen : List ℕ} {E : ℕ → Bool} (m : MarkedFor marks E seen) (x : ℕ) (v : variable x ≡ true) where
  mark_is : get_or marks (x - first_variable) Unseen ≡ binding_mark (E x) (member x seen)
  mark_is =
      let r = variable-range x v in
      let z : first_variable + (x - first_variable) ≡ x = omega arith in
      m.is (x - first_variable) (omega arith) ∙ ap (λ a. binding_mark (E a) (member a seen)) z

  pub mark_open : is_open (get_or marks (x - first_variable) Unseen) ≡ E x
  mark_open = ap is_open mark_is ∙ go (E x) (member x seen)
    where
      go : (p q : Bool) → is_open (binding_mark p q) ≡ p
      go true q = refl
      go false true = refl
      go false false = refl

  pub mark_seen : get_or marks (x - first_variable) Unseen ≢ Unseen → member x seen ≡ true
  mark_seen h = go (E x) (member x seen) (m.bound x) (λ z. h (mark_is ∙ z))
    where
      go : (p q : Bool) → (p ≡ true → q ≡ true) → binding_mark p q ≢ Unseen → q ≡ true
      go true q b h = b refl
      go false true b h = refl
      go false false b h = absurd (h refl)

  pub mark_unseen : get_or marks (x - first_variable) Unseen ≡ Unseen → (E x ≡ false) × (member x seen ≡ false)
  mark_unseen h = go (E x) (member x seen) (sym mark_is ∙ h)
    where
      go : (p q : Bool) → binding_mark p q ≡ Unseen → (p ≡ false) × (q ≡ false)
      go true q h = absurd cc
      go false true h = absurd cc
      go false false h = (refl, refl)

module _ {marks : List Mark} {xs ys : List ℕ} {E F : ℕ → Bool} where
  -- only membership counts
  pub marked_same : ((a : ℕ) → E a ≡ F a) → ((a : ℕ) → member a xs ≡ member a ys) → MarkedFor marks E xs → MarkedFor marks F ys
  marked_same e f m = record {
    is = λ i l. m.is i l ∙ rw (e (first_variable + i), f (first_variable + i));
    bound = λ a h. sym (f a) ∙ m.bound a (e a ∙ h);
  }

  -- x becomes bound, and its mark is set; all else stays
  pub marked_set : (x : ℕ) (v : Mark) → variable x ≡ true → length marks ≡ 16384 → ((a : ℕ) → a ≢ x → E a ≡ F a) → ((a : ℕ) → a ≢ x → member a xs ≡ member a ys)
      → member x ys ≡ true → v ≡ binding_mark (F x) true → MarkedFor marks E xs → MarkedFor (set marks (x - first_variable) v) F ys
  marked_set x v right all e f b k m =
      let r = variable-range x right in
      record {
        is = λ i l.
            eq_case (get_or (set marks (x - first_variable) v) i Unseen ≡ binding_mark (F (first_variable + i)) (member (first_variable + i) ys)) i (x - first_variable)
            (λ z. let y : first_variable + i ≡ x = omega arith in rw (y, b, z) (get_or-set_same marks (x - first_variable) v Unseen (omega arith) ∙ k))
            (λ z.
            let y : first_variable + i ≢ x = λ h. z (omega arith) in
            get_or-set_other marks (x - first_variable) i v Unseen z ∙ (m.is i l ∙ rw (e (first_variable + i) y, f (first_variable + i) y)));
        bound = λ a h. eq_case (member a ys ≡ true) a x (λ z. rw z b) (λ z. sym (f a z) ∙ m.bound a (e a z ∙ h));
      }
