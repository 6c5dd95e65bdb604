-- The marks while the parts of a composition are read, and what is at fault with a composition's variables by its parts.
use mathlib.Core.Path.{◌≡◌, refl, sym, ◌∙◌}
use mathlib.Core.Logic.{◌≢◌}
use mathlib.Core.Bool.{Bool, true, false, ◌||◌}
use mathlib.Core.List.{List, [], ◌∷◌, ◌++◌}
use mathlib.Core.Option.{none, some}
use Prim.Native.Nat.{ℕ, ◌+◌, ◌-◌}
use native.Mathlib.Numerals.{add-one}
use lib.Dec.{eqb}
use lib.ListN.{length, get_or, set}
use borrow.Author.Tests.{eq-eqb, ne_eqb}
use Rattle.cows.specs.Limits.{first_variable}
use Rattle.cows.specs.Basics.{any, member, found_with, place_if, or_else}
use Rattle.cows.specs.Terms.{optional}
use Rattle.cows.proofs.Basics.{or_right, member_append}
use Rattle.orc.specs.Expressions.{Composition, sequential, symmetric, asymmetric, Orc, composed, RightComposition, records_in, bound, over_left, over_right, bound_in}
use Rattle.orc.specs.Scripts.{misbound}
use Rattle.bindings.specs.declared.Mark.{Mark}
use Rattle.bindings.specs.declared.Mark.TheVariants.{Unseen, Seen, Open}
use Rattle.bindings.specs.Marks.{binding_mark, MarkedFor}
use Rattle.bindings.proofs.Marking.{mark_seen, mark_unseen, marked_same, marked_set}

-- the marks when the left part is read, when the right one is, and behind both
abbrev pub left_marks : Composition → List Mark → List Mark
left_marks (sequential x) marks = set marks (x - first_variable) Seen
left_marks symmetric marks = marks
left_marks (asymmetric x) marks = set marks (x - first_variable) Open

abbrev pub right_marks : Composition → List Mark → List Mark
right_marks (sequential x) marks = set marks (x - first_variable) Open
right_marks symmetric marks = marks
right_marks (asymmetric x) marks = set marks (x - first_variable) Seen

abbrev pub last_marks : Composition → List Mark → List Mark
last_marks (sequential x) marks = set marks (x - first_variable) Seen
last_marks symmetric marks = marks
last_marks (asymmetric x) marks = set marks (x - first_variable) Seen

-- the mark that the variable of a composition has before it
abbrev pub mark_before : Composition → List Mark → Mark
mark_before (sequential x) marks = get_or marks (x - first_variable) Unseen
mark_before symmetric marks = Unseen
mark_before (asymmetric x) marks = get_or marks (x - first_variable) Unseen

-- the variables bound before the left part, and before the right one
abbrev pub left_seen : Composition → List ℕ → List ℕ
left_seen c seen = optional (bound c) ++ seen

abbrev pub right_seen : Composition → Orc → List ℕ → List ℕ
right_seen c f seen = bound_in f ++ left_seen c seen

-- an atom among others
member_head : (x : ℕ) (xs : List ℕ) → member x (x ∷ xs) ≡ true
unfolding member any
member_head x xs = rw (eq-eqb x x refl)

member_tail : (a x : ℕ) (xs : List ℕ) → a ≢ x → member a xs ≡ member a (x ∷ xs)
unfolding member any
member_tail a x xs h = rw (ne_eqb a x h)

member-behind : (x : ℕ) (xs ys : List ℕ) → member x (xs ++ (x ∷ ys)) ≡ true
member-behind x xs ys = member_append x xs (x ∷ ys) ∙ or_right (member x xs) _ (member_head x ys)

-- the variables bound so far, by the order of the code and by that of the definition
members_order : (os ys zs seen : List ℕ) (a : ℕ) → member a (zs ++ (ys ++ (os ++ seen))) ≡ member a ((os ++ (ys ++ zs)) ++ seen)
members_order os ys zs seen a =
    simp member_append (go (member a os) (member a ys) (member a zs) (member a seen))
  where
    go : (o y z s : Bool) → (z || (y || (o || s))) ≡ ((o || (y || z)) || s)
    go true true true s = refl
    go true true false s = refl
    go true false true s = refl
    go true false false s = refl
    go false true true s = refl
    go false true false s = refl
    go false false true s = refl
    go false false false s = refl

-- the variables whose scope is around, and x
abbrev also : ℕ → (ℕ → Bool) → ℕ → Bool
also x E a = eqb a x || E a

also_other : (x : ℕ) (E : ℕ → Bool) (a : ℕ) → a ≢ x → E a ≡ also x E a
also_other x E a h = rw (ne_eqb a x h)

also_self : (x : ℕ) (E : ℕ → Bool) → Open ≡ binding_mark (also x E x) true
also_self x E = rw (eq-eqb x x refl)

module _ {E : ℕ → Bool} {seen : List ℕ} {marks : List Mark} where
  -- by its mark, the variable of a composition is new, or is bound a second time
  pub fresh : (c : Composition) → RightComposition c → MarkedFor marks E seen → mark_before c marks ≡ Unseen → found_with (λ x. member x seen) (bound c) ≡ false
  unfolding found_with bound
  fresh (sequential x) v m u = (mark_unseen m x v u).1
  fresh symmetric v m u = refl
  fresh (asymmetric x) v m u = (mark_unseen m x v u).1

  pub repeated : (c : Composition) → RightComposition c → MarkedFor marks E seen → mark_before c marks ≢ Unseen → found_with (λ x. member x seen) (bound c) ≡ true
  unfolding found_with bound
  repeated (sequential x) v m u = mark_seen m x v u
  repeated symmetric v m u = absurd (u refl)
  repeated (asymmetric x) v m u = mark_seen m x v u

  -- the marks that the parts ask for
  pub marked_left : (c : Composition) → RightComposition c → length marks ≡ 16384 → mark_before c marks ≡ Unseen → MarkedFor marks E seen
      → MarkedFor (left_marks c marks) (over_left c E) (left_seen c seen)
  unfolding over_left bound optional
  marked_left (sequential x) v l u m = marked_set x Seen v l (λ a h. refl) (λ a. member_tail a x seen) (member_head x seen) (rw (mark_unseen m x v u).0) m
  marked_left symmetric v l u m = m
  marked_left (asymmetric x) v l u m = marked_set x Open v l (also_other x E) (λ a. member_tail a x seen) (member_head x seen) (also_self x E) m

  -- the variable's own mark is overwritten, whatever the left part left there
  pub marked_right : (c : Composition) → RightComposition c → mark_before c marks ≡ Unseen → MarkedFor marks E seen → (after : List Mark) (ys : List ℕ) → length after ≡ 16384
      → MarkedFor after (over_left c E) (ys ++ left_seen c seen) → MarkedFor (right_marks c after) (over_right c E) (ys ++ left_seen c seen)
  unfolding over_left over_right bound optional
  marked_right (sequential x) v u m after ys l h = marked_set x Open v l (also_other x E) (λ a z. refl) (member-behind x ys seen) (also_self x E) h
  marked_right symmetric v u m after ys l h = h
  marked_right (asymmetric x) v u m after ys l h = marked_set x Seen v l (λ a z. sym (also_other x E a z)) (λ a z. refl) (member-behind x ys seen) (rw (mark_unseen m x v u).0) h

  -- and what is known behind both
  pub marked_last : (c : Composition) → RightComposition c → mark_before c marks ≡ Unseen → MarkedFor marks E seen → (after : List Mark) (ys zs : List ℕ) → length after ≡ 16384
      → MarkedFor after (over_right c E) (zs ++ (ys ++ left_seen c seen)) → MarkedFor (last_marks c after) E ((optional (bound c) ++ (ys ++ zs)) ++ seen)
  unfolding over_right bound optional
  marked_last (sequential x) v u m after ys zs l h =
      marked_set x Seen v l (λ a z. sym (also_other x E a z)) (λ a z. members_order (x ∷ []) ys zs seen a) (member_head x ((ys ++ zs) ++ seen)) (rw (mark_unseen m x v u).0) h
  marked_last symmetric v u m after ys zs l h = marked_same (λ a. refl) (members_order [] ys zs seen) h
  marked_last (asymmetric x) v u m after ys zs l h =
      marked_set x Seen v l (λ a z. refl) (λ a z. members_order (x ∷ []) ys zs seen a) (member_head x ((ys ++ zs) ++ seen)) (rw (mark_unseen m x v u).0) h

-- what is at fault with a composition, by its parts
module _ (c : Composition) (f g : Orc) (E : ℕ → Bool) (seen : List ℕ) (n : ℕ) where
  pub bound-again : found_with (λ x. member x seen) (bound c) ≡ true → misbound E seen n (composed c f g) ≡ some n
  unfolding misbound place_if or_else
  bound-again h = rw h

  module _ (new : found_with (λ x. member x seen) (bound c) ≡ false) where
    pub left-misbound : {p : ℕ} → misbound (over_left c E) (left_seen c seen) (n + 1) f ≡ some p → misbound E seen n (composed c f g) ≡ some p
    unfolding misbound place_if or_else
    left-misbound h = rw (new, ← add-one n, h)

    pub right_misbound : (m : ℕ) → m ≡ n + 1 + records_in f → misbound (over_left c E) (left_seen c seen) (n + 1) f ≡ none
        → misbound E seen n (composed c f g) ≡ misbound (over_right c E) (right_seen c f seen) m g
    unfolding misbound place_if or_else
    right_misbound m e h = rw (new, ← add-one n, h, e)
