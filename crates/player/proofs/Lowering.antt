-- The loops that cut the ends (specs/Cutting), and the three of them together.
use mathlib.Core.Path.{◌≡◌, refl, ap, subst, ◌∙◌}
use mathlib.Core.Bool.{cond}
use mathlib.Core.List.{List}
use Prim.Native.Nat.{ℕ, ◌+◌, ◌-◌, ◌≤◌, ◌<◌}
use native.Mathlib.Omega.{arith}
use lib.Dec.{ltb, eqb}
use lib.ListN.{length, get_or, set}
use lib.Seq.{get_or-set_same, get_or-set_other}
use borrow.Author.Tests.{eqb-true, eqb-false}
use Rattle.cows.proofs.Basics.{bool_case}
use Rattle.player.specs.Cutting.{Around, LoweredAround, Lowers, Lowered, inner_of, outer_of, CutsEnds, EndsCut}

pub around_start : (ends : List ℕ) (from by : ℕ) → LoweredAround ends from by 0 ends
around_start ends from by = record { done = λ k h. absurd (omega arith); left = λ k h. refl }

pub around_step : (ends : List ℕ) (from by i : ℕ) {d : List ℕ} {v : ℕ} → LoweredAround ends from by i d → i < length d → v ≡ cond (ltb from (get_or d i 0)) (get_or d i 0 - by) (get_or d i 0)
    → LoweredAround ends from by (i + 1) (set d i v)
around_step ends from by i {d} {v} h l e = record {
  done = λ k m.
      bool_case _ (eqb k i)
      (λ q. rw (eqb-true k i q) (get_or-set_same d i v 0 l ∙ (e ∙ ap (λ x. cond (ltb from x) (x - by) x) (h.left i (omega arith)))))
      (λ q. get_or-set_other d i k v 0 (eqb-false k i q) ∙ h.done k (omega (arith, eqb-false k i q)));
  left = λ k m. get_or-set_other d i k v 0 (λ q. omega arith) ∙ h.left k (omega arith);
}

pub around_end : (ends : List ℕ) (from by : ℕ) {i : ℕ} {d : List ℕ} → i ≡ from → LoweredAround ends from by i d → LoweredAround ends from by from d
around_end ends from by {d = d} e h = subst (λ i. LoweredAround ends from by i d) e h

pub lowered_start : (ends : List ℕ) (low by : ℕ) → Lowered ends low low by ends
lowered_start ends low by = record { before = λ k h. refl; within = λ k h l. absurd (omega arith); behind = λ k h. refl }

pub lowered_step : (ends : List ℕ) (low i by : ℕ) {d : List ℕ} → Lowered ends low i by d → low ≤ i → i < length d → Lowered ends low (i + 1) by (set d i (get_or d (i + by) 0 - by))
lowered_step ends low i by {d} h p l = record {
  before = λ k m. get_or-set_other d i k _ 0 (λ q. omega arith) ∙ h.before k m;
  within = λ k m n.
      bool_case _ (eqb k i)
      (λ q. rw (eqb-true k i q) (get_or-set_same d i _ 0 l ∙ ap (λ x. x - by) (h.behind (i + by) (omega arith))))
      (λ q. get_or-set_other d i k _ 0 (eqb-false k i q) ∙ h.within k m (omega (arith, eqb-false k i q)));
  behind = λ k m. get_or-set_other d i k _ 0 (λ q. omega arith) ∙ h.behind k (omega arith);
}

pub lowered_end : (ends : List ℕ) (low high by : ℕ) {i : ℕ} {d : List ℕ} → i ≡ high → Lowered ends low i by d → Lowered ends low high by d
lowered_end ends low high by {d = d} e h = subst (λ i. Lowered ends low i by d) e h

-- the three loops, one after the other
module _ (ends : List ℕ) (n a from : ℕ) (c : CutsEnds ends n a from) {body rest : ℕ} (eb : body ≡ get_or ends a 0) (er : rest ≡ get_or ends from 0) where
  abbrev inner : ℕ
  inner = inner_of a from

  abbrev outer : ℕ
  outer = inner_of a from + (rest - body)

  abbrev middle : ℕ
  middle = body - inner_of a from

  pub cut_around : Around ends from outer
  cut_around = record {
    few = omega (arith, c.span);
    less = omega (arith, c.span);
    room = omega (arith, c.span);
    high = λ k h l. omega (arith, c.span, c.around k h l);
  }

  pub cut_fits : outer ≤ n + 2
  cut_fits = omega (arith, c.span)

  module _ {d : List ℕ} (h : LoweredAround ends from outer from d) (l : length d ≡ length ends) where
    pub cut-within : Lowers d from middle inner
    cut-within = record {
      order = omega (arith, c.span);
      few = omega (arith, c.span);
      less = omega (arith, c.span);
      room = omega (arith, c.span, c.room);
      later = λ k m p. omega (arith, c.span, h.left (k + inner) (omega (arith, c.span)), c.later (k + inner) (omega (arith, c.span)));
    }

    module _ {e : List ℕ} (h' : Lowered d from middle inner e) (l' : length e ≡ length d) where
      same_behind : (k : ℕ) → middle ≤ k → get_or e (k + outer) 0 ≡ get_or ends (k + outer) 0
      same_behind k m = h'.behind (k + outer) (omega arith) ∙ h.left (k + outer) (omega (arith, c.span))

      pub cut-behind : Lowers e middle (n + 2 - outer) outer
      cut-behind = record {
        order = omega (arith, c.span);
        few = omega (arith, c.span);
        less = omega (arith, c.span);
        room = omega (arith, c.span, c.room);
        later = λ k m p. omega (arith, c.span, same_behind k m, c.later (k + outer) (omega (arith, c.span)));
      }

      pub cut_done : {r : List ℕ} → Lowered e middle (n + 2 - outer) outer r → EndsCut ends n a from r
      cut_done {r} h'' =
          let o : outer ≡ outer_of ends a from = ap (λ x. inner + (x - body)) er ∙ ap (λ x. inner + (get_or ends from 0 - x)) eb in
          record {
            ahead = λ k m.
                h''.before k (omega (arith, c.span)) ∙ (h'.before k m ∙ (h.done k m ∙ ap (λ x. cond (ltb from (get_or ends k 0)) (get_or ends k 0 - x) (get_or ends k 0)) o));
            within = λ k m p. h''.before k (omega arith) ∙ (h'.within k m (omega arith) ∙ ap (λ x. x - inner) (h.left (k + inner) (omega arith)));
            behind = λ k m p. h''.within k (omega arith) (omega (arith, o)) ∙ (ap (λ x. x - outer) (same_behind k (omega arith)) ∙ ap (λ x. get_or ends (k + x) 0 - x) o);
          }
