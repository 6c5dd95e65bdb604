-- A composition, as reading takes it: its left part, its right part, and what is known behind both (specs/Marks, Scannable and Scanned).
use mathlib.Core.Path.{◌≡◌, sym, subst, ◌∙◌}
use mathlib.Core.Logic.{◌≢◌}
use mathlib.Core.Bool.{Bool}
use mathlib.Core.List.{List, ◌++◌}
use mathlib.Core.Option.{none, some}
use Prim.Native.Nat.{ℕ, ◌+◌, ◌*◌}
use native.Mathlib.Omega.{arith}
use lib.ListN.{length, get_or}
use Rattle.orc.specs.Expressions.{Composition, symmetric, Orc, composed, RightComposition, RightOrc, records_in, over_left, over_right, bound_in}
use Rattle.orc.specs.Scripts.{misbound}
use Rattle.scripts.specs.Standing.{ScriptAt}
use Rattle.std.specs.Prelude.{Result, Ok, Err}
use Rattle.std.specs.Result.{IsErrAnd}
use Rattle.orc.proofs.Format.{records_pos}
use Rattle.scripts.proofs.Standing.{at_fits, part_left, part_right, orc_kind_is, at_kind}
use Rattle.bindings.specs.declared.Mark.{Mark}
use Rattle.bindings.specs.declared.Mark.TheVariants.{Unseen}
use Rattle.bindings.specs.Marks.{MarkedFor, Scannable, Scanned}
use Rattle.bindings.proofs.Scopes.{left_marks, right_marks, last_marks, mark_before, left_seen, right_seen, fresh, repeated, marked_left, marked_right, marked_last, bound-again, left-misbound, right_misbound}

-- what reading gives, of the fault that a `?` hands on
pub handed_on : {s : List ℕ} {marks after : List Mark} {n p : ℕ} (r : Result ℕ ℕ) → IsErrAnd r (λ q. q ≡ p) → Scanned s n marks after (Err p) → Scanned s n marks after r
handed_on (Ok m) e l = absurd e
handed_on {s} {marks} {after} {n} (Err q) e l = subst (λ q. Scanned s n marks after (Err q)) (sym e) l

-- whatever expression stands at place n is a composition c of two parts
abbrev pub Composes : Composition → List ℕ → ℕ → Type 0
Composes c s n = (e : Orc) → ScriptAt s n e → (f : Orc) × (g : Orc) × (e ≡ composed c f g)

pub parallel_at : {s : List ℕ} {n : ℕ} → get_or s (8 * n) 0 ≡ 3 → Composes symmetric s n
parallel_at k e h = orc_kind_is 3 e (sym (at_kind e h) ∙ k)

module _ (c : Composition) {s : List ℕ} {n : ℕ} (k : Composes c s n) where
  -- what holds of compositions c there holds of whatever stands there
  by_parts : (P : Orc → Type 0) → ((f g : Orc) → ScriptAt s n (composed c f g) → P (composed c f g)) → (e : Orc) → ScriptAt s n e → P e
  by_parts P t e h = let (f, g, z) = k e h in subst P (sym z) (t f g (subst (ScriptAt s n) z h))

  -- the parts can be read, whatever the marks are then
  module _ {marks : List Mark} (q : Scannable s n marks) where
    pub right_composition : RightComposition c
    right_composition = let (f, g, z) = k q.expression q.stands in (subst RightOrc z q.right).0

    pub left_asks : {marks₁ : List Mark} → length marks₁ ≡ 16384 → Scannable s (n + 1) marks₁
    left_asks l =
        let (f, g, z) = k q.expression q.stands in
        let h = part_left c f g (subst (ScriptAt s n) z q.stands) in
        record { expression = f; stands = h; right = (subst RightOrc z q.right).1; all = l; inside = omega (arith, at_fits f h, records_pos f) }

    pub right_asks : {marks₁ after : List Mark} {m : ℕ} → Scanned s (n + 1) marks₁ after (Ok m) → {marks₂ : List Mark} → length marks₂ ≡ 16384 → Scannable s m marks₂
    right_asks {m = m} r l =
        let (f, g, z) = k q.expression q.stands in
        let y = subst (ScriptAt s n) z q.stands in
        let h = part_right c f g m (r.to.1 f (part_left c f g y)) y in
        record { expression = g; stands = h; right = (subst RightOrc z q.right).2; all = l; inside = omega (arith, at_fits g h, records_pos g) }

    -- a fault of the composition itself, of its left part, and what reading the right part says of the whole
    pub again_fault : mark_before c marks ≢ Unseen → Scanned s n marks marks (Err n)
    again_fault h = record {
      all = q.all;
      to = λ e E seen y w m.
          by_parts (λ e. RightOrc e → misbound E seen n e ≡ some n) (λ f g y w. bound-again c f g E seen n (repeated c w.0 m h)) e y w;
    }

    module _ (u : mark_before c marks ≡ Unseen) where
      pub left_fault : {after : List Mark} {p : ℕ} → Scanned s (n + 1) (left_marks c marks) after (Err p) → Scanned s n marks after (Err p)
      left_fault {p = p} r = record {
        all = r.all;
        to = λ e E seen y w m.
            by_parts (λ e. RightOrc e → misbound E seen n e ≡ some p) (λ f g y w.
            left-misbound c f g E seen n (fresh c w.0 m u) (r.to f (over_left c E) (left_seen c seen) (part_left c f g y) w.1 (marked_left c w.0 q.all u m))) e y w;
      }

      module _ {after : List Mark} {m : ℕ} (l : Scanned s (n + 1) (left_marks c marks) after (Ok m)) where
        -- the left part has no fault: the right part stands at place m, and its fault is that of the whole
        module _ (f g : Orc) (E : ℕ → Bool) (seen : List ℕ) (y : ScriptAt s n (composed c f g)) (w : RightOrc (composed c f g)) (h : MarkedFor marks E seen) where
          left-told : (misbound (over_left c E) (left_seen c seen) (n + 1) f ≡ none) × MarkedFor after (over_left c E) (right_seen c f seen)
          left-told = l.to.2 f (over_left c E) (left_seen c seen) (part_left c f g y) w.1 (marked_left c w.0 q.all u h)

          right_stands : ScriptAt s m g
          right_stands = part_right c f g m (l.to.1 f (part_left c f g y)) y

          right_marked : MarkedFor (right_marks c after) (over_right c E) (right_seen c f seen)
          right_marked = marked_right c w.0 u h after (bound_in f) l.all left-told.1

          as_right : misbound E seen n (composed c f g) ≡ misbound (over_right c E) (right_seen c f seen) m g
          as_right = right_misbound c f g E seen n (fresh c w.0 h u) m (l.to.1 f (part_left c f g y)) left-told.0

        pub both_read : {after' : List Mark} (r : Result ℕ ℕ) → length (last_marks c after') ≡ 16384 → Scanned s m (right_marks c after) after' r → Scanned s n marks (last_marks c after') r
        unfolding records_in bound_in
        both_read {after'} (Ok p) z r = record {
          all = z;
          to = (
            omega (arith, l.to.0, r.to.0),
            by_parts (λ e. p ≡ n + records_in e) (λ f g y. let i = l.to.1 f (part_left c f g y) in omega (arith, i, r.to.1 g (part_right c f g m i y))),
            λ e E seen y w h.
                by_parts (λ e. RightOrc e → (misbound E seen n e ≡ none) × MarkedFor (last_marks c after') E (bound_in e ++ seen)) (λ f g y w.
                let (a, b) = r.to.2 g (over_right c E) (right_seen c f seen) (right_stands f g E seen y w h) w.2 (right_marked f g E seen y w h) in
                (as_right f g E seen y w h ∙ a, marked_last c w.0 u h after' (bound_in f) (bound_in g) r.all b)) e y w,
          );
        }
        both_read (Err p) z r = record {
          all = z;
          to = λ e E seen y w h.
              by_parts (λ e. RightOrc e → misbound E seen n e ≡ some p) (λ f g y w.
              as_right f g E seen y w h ∙ r.to g (over_right c E) (right_seen c f seen) (right_stands f g E seen y w h) w.2 (right_marked f g E seen y w h)) e y w;
        }
