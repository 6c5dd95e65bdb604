-- Lists that are made from the last place to the first: of ends, and of places of some kinds.
use mathlib.Core.Path.{◌≡◌, sym, ap, ◌∙◌}
use mathlib.Core.Bool.{Bool, true, ◌&&◌}
use mathlib.Core.List.{List}
use Prim.Native.Nat.{ℕ, suc, ◌+◌, ◌*◌, ◌/◌, ◌≤◌, ◌<◌}
use native.Mathlib.Omega.{arith}
use lib.Dec.{leb, eqb}
use lib.ListN.{length, get_or, set, length-set}
use lib.Seq.{get_or-set_same, get_or-set_other}
use mir.Val.{bool_byte}
use borrow.Author.Tests.{leb-true, le-leb, eq-eqb, ne_eqb}
use Rattle.cows.proofs.Basics.{bool_case, eq_case, and_true, true_and, not_so}
use Rattle.records.specs.Ends.{end_at, EndsFrom}
use Rattle.ranges.specs.Lists.{Listed}
use Rattle.ranges.proofs.Lists.{test_number}

-- the end at one more place
pub ends_turn : (s ends : List ℕ) (j r : ℕ) → EndsFrom s ends (suc j) → j ≤ length s / 16 → r ≡ end_at s j → EndsFrom s (set ends j r) j
ends_turn s ends j r h l e = record {
  few = h.few;
  room = rw (length-set ends j r) h.room;
  end = λ m lo hi.
      eq_case _ m j (λ z. rw z (get_or-set_same ends j r 0 (omega (arith, h.room)) ∙ e))
      (λ z. get_or-set_other ends j m r 0 z ∙ h.end m (omega arith) hi);
}

-- a kind told by itself, as a range
pub one_kind : (k x : ℕ) → eqb k x ≡ (leb x k && leb k x)
one_kind k x =
    eq_case _ k x (λ e. eq-eqb k x e ∙ sym (true_and (le-leb x k (omega arith)) (le-leb k x (omega arith))))
    (λ e. ne_eqb k x e ∙ sym (not_so (λ t. let (a, b) = and_true (leb x k) (leb k x) t in e (omega (arith, leb-true x k a, leb-true k x b)))))

-- The first m numbers of the list are the places from i on of the records of kinds x to y.
pub record ListedFrom (s : List ℕ) (x y : ℕ) (list : List ℕ) (i m : ℕ) : Type 0 where
  pub few : m + i ≤ length s / 16
  pub inside : (q : ℕ) → q < m → get_or list q 0 < length s / 16
  pub only : (q : ℕ) → q < m → (leb x (get_or s (16 * get_or list q 0) 0) && leb (get_or s (16 * get_or list q 0) 0) y) ≡ true
  pub all : (j : ℕ) → i ≤ j → j < length s / 16 → (leb x (get_or s (16 * j) 0) && leb (get_or s (16 * j) 0) y) ≡ true → (q : ℕ) × (q < m) × (get_or list q 0 ≡ j)

module _ (s : List ℕ) (x y : ℕ) (list : List ℕ) where
  pub back_none : ListedFrom s x y list (length s / 16) 0
  back_none = record { few = omega arith; inside = λ q k. absurd (omega arith); only = λ q k. absurd (omega arith); all = λ j k l. absurd (omega arith) }

  pub back_turn : (j m : ℕ) → m < length list → (b : Bool) → b ≡ (leb x (get_or s (16 * j) 0) && leb (get_or s (16 * j) 0) y) → ListedFrom s x y list (suc j) m
      → ListedFrom s x y (set list m j) j (m + bool_byte b)
  back_turn j m l b e h = record {
    few = omega (arith, h.few, (test_number b).0);
    inside = λ q k.
        eq_case _ q m (λ z. rw (z, get_or-set_same list m j 0 l) (omega (arith, h.few)))
        (λ z. rw (get_or-set_other list m q j 0 z) (h.inside q (omega (arith, (test_number b).0))));
    only = λ q k.
        eq_case _ q m (λ z. rw (z, get_or-set_same list m j 0 l) (sym e ∙ bool_case _ b (λ t. t) (λ t. absurd (omega (arith, ap bool_byte t)))))
        (λ z. rw (get_or-set_other list m q j 0 z) (h.only q (omega (arith, (test_number b).0))));
    all = λ i lo k p.
        eq_case _ i j (λ z. (m, omega (arith, (test_number b).1 (e ∙ (rw z at p))), get_or-set_same list m j 0 l ∙ sym z))
        (λ z. let (q, u, v) = h.all i (omega arith) k p in (q, omega arith, get_or-set_other list m q j 0 (λ w. omega arith) ∙ v));
  }

  pub back_all : (m : ℕ) → ListedFrom s x y list 0 m → Listed s x y list (length s / 16) m
  back_all m h = record { few = omega (arith, h.few); inside = h.inside; only = h.only; all = λ j l p. h.all j (omega arith) l p }
