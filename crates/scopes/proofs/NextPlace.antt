-- One step of each loop over the records: the directory of a place is made that of the next.
use mathlib.Core.Path.{◌≡◌, sym, ap, ◌∙◌}
use mathlib.Core.Logic.{◌≢◌}
use mathlib.Core.List.{List}
use Prim.Native.Nat.{ℕ, suc, ◌+◌, ◌*◌, ◌/◌, ◌≤◌, ◌<◌}
use native.Mathlib.Omega.{arith}
use native.Mathlib.Numerals.{add-one}
use lib.Dec.{leb}
use lib.ListN.{length, get_or, set}
use Rattle.cows.specs.Terms.{delimitation, Term, under, size, below}
use Rattle.cows.specs.Places.{spot_at, sub}
use Rattle.cows.specs.Format.{word}
use Rattle.cows.specs.Tables.{again}
use Rattle.cows.proofs.Basics.{lt_case, eq_case}
use Rattle.records.specs.Ends.{end_at, EndsFrom}
use Rattle.records.specs.Holds.{Holds}
use Rattle.records.proofs.Shapes.{end-within, end_term}
use Rattle.scopes.specs.Scopes.{directory_slot, Paged, Keeps, entered_of, mark_of, PassedTo, EndsOf}
use Rattle.scopes.proofs.Slots.{keeps_as, store_keeps}
use Rattle.scopes.proofs.Marks.{entered_pass, mark_pass, entered_here, entered_other, mark_other, mark_there, mark_farther, mark_nearer, mark_again}
use Rattle.records.proofs.StandsIn.{holds_size}
use Rattle.scopes.proofs.Uses.{atom_small, kind_here, delimitation_here, place_inside}

-- past a record that is no delimitation
module _ (s pages marks : List ℕ) (j : ℕ) (l : j < length s / 16) (k : get_or s (16 * j) 0 ≢ 8) (t : Term) where
  pub enter_pass : Holds s t → Keeps pages marks (entered_of t j) → Keeps pages marks (entered_of t (j + 1))
  enter_pass h = rw (add-one j) (keeps_as pages marks (entered_of t j) (entered_of t (suc j)) (entered_pass t j (λ e. k (kind_here s t h j l ∙ e))))

  pub pass_other : PassedTo s pages marks j t → PassedTo s pages marks (j + 1) t
  pass_other p = record {
    holds = p.holds;
    keeps = rw (add-one j) (keeps_as pages marks (mark_of t j) (mark_of t (suc j)) (mark_pass t j (λ e. k (kind_here s t p.holds j l ∙ e))) p.keeps);
  }

-- The delimitation of a at place j, whose slot is p.
module _ (s pages marks : List ℕ) (j : ℕ) (l : j < length s / 16) (k : get_or s (16 * j) 0 ≡ 8) (a p : ℕ) (ea : a ≡ word s (16 * j + 2)) (ep : p ≡ directory_slot pages a) (g : Paged pages marks) (t : Term) (h : Holds s t) where
  within : j < size t
  within = place_inside s t j h l

  is : (sub t j ≡ under (delimitation a) (below (sub t j))) × (a < 65536)
  is = let (x, y) = delimitation_here s t h j l (sym (kind_here s t h j l) ∙ k) in rw ea (x, atom_small (word s (16 * j + 2)) y)

  pub enter-turn : 0 < get_or pages (a / 256) 0 → Keeps pages marks (entered_of t j) → Keeps pages (set marks p 1) (entered_of t (j + 1))
  enter-turn o f =
      rw (ep, add-one j)
      (store_keeps pages marks a 1 is.1 (entered_of t j) (entered_of t (suc j)) g o (entered_here t j a is.0) (entered_other t j a is.0) f)

  module _ (f : Keeps pages marks (mark_of t j)) where
    mark_is : get_or marks p 0 ≡ mark_of t j a
    mark_is = ap (λ i. get_or marks i 0) ep ∙ f.kept a is.1

    given_out : 0 < get_or pages (a / 256) 0
    given_out =
        lt_case (0 < get_or pages (a / 256) 0) 0 (get_or pages (a / 256) 0) (λ z. z)
        (λ z. absurd (omega (arith, f.empty a is.1 (omega arith), mark_there t j a is.0 within)))

    pub pass_again : leb 2 (get_or marks p 0) ≡ again t j (spot_at t j)
    pass_again = rw mark_is (mark_again t j a is.0 within)

    module _ (ends : List ℕ) (o : EndsOf s ends) where
      end_here : get_or ends j 0 + 1 ≡ j + size (sub t j) + 1
      end_here = ap (λ n. n + 1) (o.right t h j within)

      pub pass_farther : get_or marks p 0 < get_or ends j 0 + 1 → PassedTo s pages (set marks p (get_or ends j 0 + 1)) (j + 1) t
      pass_farther z = record {
        holds = h;
        keeps = rw (ep, add-one j)
            (store_keeps pages marks a (get_or ends j 0 + 1) is.1 (mark_of t j) (mark_of t (suc j)) g given_out
            (mark_farther t j a is.0 within (omega (arith, mark_is, end_here)) ∙ sym end_here) (mark_other t j a is.0) f);
      }

      pub pass_nearer : get_or ends j 0 + 1 ≤ get_or marks p 0 → PassedTo s pages marks (j + 1) t
      pass_nearer z = record {
        holds = h;
        keeps = rw (add-one j)
            (keeps_as pages marks (mark_of t j) (mark_of t (suc j))
            (λ b. eq_case (mark_of t j b ≡ mark_of t (suc j) b) b a
            (λ x. rw x (sym (mark_nearer t j a is.0 within (omega (arith, mark_is, end_here))))) (λ x. sym (mark_other t j a is.0 b x)))
            f);
      }

-- the ends of a table's terms, if it holds one
pub ends_of : (s ends : List ℕ) → EndsFrom s ends 0 → EndsOf s ends
ends_of s ends e = record {
  few = e.few;
  room = omega (arith, e.room);
  small = λ j l. omega (arith, e.few, e.end j (omega arith) (omega arith), end-within s j (omega arith));
  right = λ t h j l.
      e.end j (omega arith) (omega (arith, holds_size s t h)) ∙ (ap (λ b. end_at b j) h.is ∙ end_term t j l);
}
