-- A composition that binds a variable, by the marks that the code sets (proofs/Parts).
use mathlib.Core.Path.{◌≡◌, refl, sym, ap, subst, ◌∙◌}
use mathlib.Core.Logic.{◌≢◌}
use mathlib.Core.Bool.{Bool, true, false, cond}
use mathlib.Core.List.{List}
use Prim.Native.Nat.{ℕ, ◌+◌, ◌*◌, ◌-◌, ◌≤◌}
use native.Mathlib.Omega.{arith}
use lib.Dec.{eqb}
use lib.ListN.{length, get_or, set, length-set}
use borrow.Author.Tests.{eq-eqb, ne_eqb}
use Rattle.cows.specs.Limits.{first_variable}
use Rattle.cows.specs.Terms.{variable}
use Rattle.cows.specs.Format.{word}
use Rattle.orc.specs.Expressions.{nothing, call, Composition, sequential, symmetric, asymmetric, act, composed, RightComposition}
use Rattle.std.specs.Prelude.{Result, Ok, Err}
use Rattle.scripts.proofs.Standing.{orc_kind, at_kind, at_sequence, at_where}
use Rattle.bindings.specs.declared.Mark.{Mark}
use Rattle.bindings.specs.declared.Mark.TheVariants.{Unseen, Seen, Open}
use Rattle.bindings.specs.Marks.{Scannable, Scanned}
use Rattle.bindings.proofs.Scopes.{left_marks, right_marks, last_marks, mark_before}
use Rattle.bindings.proofs.Parts.{Composes, right_composition, again_fault, left_fault, both_read}

-- a where or a sequence, of x: it binds a variable, and its marks are those that the code sets
abbrev pub binding : Bool → ℕ → Composition
binding true x = asymmetric x
binding false x = sequential x

binding_binds : (b : Bool) (x : ℕ) → RightComposition (binding b x) → variable x ≡ true
binding_binds true x h = h
binding_binds false x h = h

binding_before : (b : Bool) (x : ℕ) (marks : List Mark) → get_or marks (x - first_variable) Unseen ≡ mark_before (binding b x) marks
binding_before true x marks = refl
binding_before false x marks = refl

-- the marks of its variable in its left part and in its right one
abbrev pub part_marks : Bool → Mark × Mark
part_marks b = cond b (Open, Seen) (Seen, Open)

binding_left : (b : Bool) (x : ℕ) (marks : List Mark) → set marks (x - first_variable) (part_marks b).0 ≡ left_marks (binding b x) marks
binding_left true x marks = refl
binding_left false x marks = refl

binding_right : (b : Bool) (x : ℕ) (marks : List Mark) → set marks (x - first_variable) (part_marks b).1 ≡ right_marks (binding b x) marks
binding_right true x marks = refl
binding_right false x marks = refl

binding_last : (b : Bool) (x : ℕ) (marks : List Mark) → set marks (x - first_variable) Seen ≡ last_marks (binding b x) marks
binding_last true x marks = refl
binding_last false x marks = refl

-- it stands at a place of a kind from 2 on that is not 3
pub composes_binding : {s : List ℕ} {n : ℕ} → 2 ≤ get_or s (8 * n) 0 → get_or s (8 * n) 0 ≢ 3 → Composes (binding (eqb (get_or s (8 * n) 0) 4) (word s (8 * n + 2))) s n
unfolding orc_kind
composes_binding a b (act nothing) h = absurd (omega (arith, at_kind _ h))
composes_binding a b (act (call p q w)) h = absurd (omega (arith, at_kind _ h))
composes_binding a b (composed (sequential x) f g) h = (f, g, rw (at_kind _ h, at_sequence x f g h))
composes_binding a b (composed symmetric f g) h = absurd (b (at_kind _ h))
composes_binding a b (composed (asymmetric x) f g) h = (f, g, rw (at_kind _ h, at_where x f g h))

-- the marks that the code picks by the kind
pub picked : (k : ℕ) (v : Mark × Mark) → k ≡ 4 → v ≡ (Open, Seen) → v ≡ part_marks (eqb k 4)
picked k v e h = rw (eq-eqb k 4 e) h

pub picked_other : (k : ℕ) (v : Mark × Mark) → k ≢ 4 → v ≡ (Seen, Open) → v ≡ part_marks (eqb k 4)
picked_other k v e h = rw (ne_eqb k 4 e) h

-- The composition at place n binds x, whose mark is at k.
module _ {s : List ℕ} {n : ℕ} {marks : List Mark} (q : Scannable s n marks) (low : 2 ≤ get_or s (8 * n) 0) (no : get_or s (8 * n) 0 ≢ 3) {x : ℕ} (is : x ≡ word s (8 * n + 2)) where
  abbrev a_where : Bool
  a_where = eqb (get_or s (8 * n) 0) 4

  abbrev here : Composition
  here = binding a_where (word s (8 * n + 2))

  pub binds-variable : variable x ≡ true
  binds-variable = rw is (binding_binds a_where _ (right_composition here (composes_binding low no) q))

  module _ {k : ℕ} (at : k ≡ x - first_variable) where
    placed : k ≡ word s (8 * n + 2) - first_variable
    placed = at ∙ ap (λ y. y - first_variable) is

    before : get_or marks k Unseen ≡ mark_before here marks
    before = ap (λ i. get_or marks i Unseen) placed ∙ binding_before a_where _ marks

    pub bound_twice : get_or marks k Unseen ≢ Unseen → Scanned s n marks marks (Err n)
    bound_twice h = again_fault here (composes_binding low no) q (λ z. h (before ∙ z))

    module _ (u : get_or marks k Unseen ≡ Unseen) {v : Mark × Mark} (e : v ≡ part_marks a_where) where
      left_marks_lem : set marks k v.0 ≡ left_marks here marks
      left_marks_lem = rw (placed, e) (binding_left a_where _ marks)

      pub left-bound : {after : List Mark} {p : ℕ} → Scanned s (n + 1) (set marks k v.0) after (Err p) → Scanned s n marks after (Err p)
      left-bound {after} {p} l = left_fault here (composes_binding low no) q (sym before ∙ u) (subst (λ m. Scanned s (n + 1) m after (Err p)) left_marks_lem l)

      pub both-bound : {after after' : List Mark} {m : ℕ} {r : Result ℕ ℕ} → Scanned s (n + 1) (set marks k v.0) after (Ok m)
          → Scanned s m (set after k v.1) after' r → Scanned s n marks (set after' k Seen) r
      both-bound {after} {after'} {m} {r} l t =
          let z : set after k v.1 ≡ right_marks here after = rw (placed, e) (binding_right a_where _ after) in
          let y : set after' k Seen ≡ last_marks here after' = rw placed (binding_last a_where _ after') in
          rw y (both_read here (composes_binding low no) q (sym before ∙ u) (subst (λ a. Scanned s (n + 1) a after (Ok m)) left_marks_lem l)
          r (ap length (sym y) ∙ (length-set after' k Seen ∙ t.all)) (subst (λ a. Scanned s m a after' r) z t))
