-- Refusal 14 by labels: no atom is delimited twice, so a [k] that encloses a live place holds a ready kill of k exactly if the table does.
use mathlib.Core.Path.{◌≡◌, refl, sym, ap, subst, ◌∙◌}
use mathlib.Core.Bool.{Bool, true, false, ◌&&◌, ◌||◌}
use mathlib.Core.List.{[], ◌++◌}
use mathlib.Core.Option.{none, some}
use Prim.Native.Nat.{ℕ, ◌+◌, ◌-◌, ◌<◌}
use native.Mathlib.Omega.{arith}
use lib.Dec.{ltb, eqb}
use borrow.Author.Tests.{ltb-true, eqb-true, eq-eqb}
use Rattle.cows.specs.Basics.{found_with, found}
use Rattle.cows.specs.Terms.{kill, Term, leaf, size, label, variable, bindable, kills, uses, uses_basic, prefixed, delimits}
use Rattle.cows.specs.Places.{Spot, spot_at, way_to, sub, first, encloses, enclosed}
use Rattle.cows.specs.Kinds.{live_kind}
use Rattle.cows.specs.Active.{on_kind, live, ready}
use Rattle.cows.specs.Moves.{ready_kill, held_back}
use Rattle.cows.specs.Within.{Right, Bound, Within}
use Rattle.cows.proofs.Basics as basics
use Rattle.cows.proofs.Basics.{bool_case, and_true, true_and, or_case, or_right, and_none, same_test, none_found, holds_some, every_append}
use Rattle.cows.proofs.Places.{spot_fits}
use Rattle.cows.proofs.Stands.{right_at, kills_is, Test, fails_first, first_found, scoped_at}
use Rattle.cows.proofs.Scans.{live-ready}
use Rattle.cows.proofs.Reach.{enclosed_reaches}
use Rattle.ways.proofs.Once.{one_delimitation}
use Rattle.ways.proofs.Parts.{part_way, part_sub}

-- what is found stands somewhere
found_at : (b : Bool) (f : Test) (t : Term) → ((i : ℕ) → i < size t → f i (record { way = way_to t i; here = sub t i }) ≡ true → b ≡ true) → found (first f t) ≡ true → b ≡ true
found_at b f t h e =
    bool_case (b ≡ true) b (λ q. q) (λ q. basics.clash e (none_found _ (fails_first f t (λ i l r. basics.clash (h i l r) q))))

-- a ready kill of k
kill_is : (k i : ℕ) (z : Spot) → ready_kill k i z ≡ true → (ready z.way ≡ true) × (z.here ≡ leaf (kill k))
unfolding ready_kill
kill_is k i z e =
    let (p, q) = and_true (ready z.way) _ e in
    let (d, r, b) = holds_some (eqb k) (kills z.here) q in
    (p, kills_is _ k (r ∙ ap some (sym (eqb-true k d b))))

pub is_kill : (k : ℕ) (t : Term) (i : ℕ) → i < size t → ready (way_to t i) ≡ true → sub t i ≡ leaf (kill k) → found (first (ready_kill k) t) ≡ true
unfolding ready_kill kills found_with
is_kill k t i l r e = first_found (ready_kill k) t i (leaf (kill k)) (record { placed = l; stands = e }) (true_and r (eq-eqb k k refl))

pub kill-label : (t : Term) → Right t → (k i : ℕ) → sub t i ≡ leaf (kill k) → label k ≡ true
kill-label t r k i e = subst Right e (right_at t i r)

pub kills_labelled : (t : Term) → Right t → (k : ℕ) → found (first (ready_kill k) t) ≡ true → label k ≡ true
kills_labelled t r k = found_at _ (ready_kill k) t (λ i l e. kill-label t r k i (kill_is k i _ e).1)

pub kill-enclosed : (t : Term) → Within t → (k i : ℕ) → sub t i ≡ leaf (kill k) → enclosed k (way_to t i) ≡ true
unfolding uses uses_basic
kill-enclosed t w k i s =
    (subst (λ u. Bound bindable (λ x. enclosed x (way_to t i)) (uses u)) s (scoped_at bindable t i w.formed.closed)).0
    (or_right (variable k) _ (kill-label t w.right k i s))

-- the [k] at place n encloses the live place a
module _ (t : Term) (w : Within t) (a n k : ℕ) (la : a < size t) (v : live (way_to t a) ≡ true) (l : n < a) (m : a < n + size (sub t n)) (d : prefixed delimits (sub t n) ≡ some k) where
  within : n < size t
  within = omega arith

  way_ready : ready (way_to t n) ≡ true
  unfolding live
  way_ready =
      let z : n + (a - n) ≡ a = omega arith in
      let e : live (way_to (sub t n) (a - n) ++ way_to t n) ≡ true = ap live (sym (part_way t n within (a - n) (omega arith)) ∙ ap (way_to t) z) ∙ v in
      live-ready (way_to t n) (and_true (live (way_to (sub t n) (a - n))) (live (way_to t n)) (sym (every_append (on_kind live_kind) (way_to (sub t n) (a - n)) (way_to t n)) ∙ e)).1

  whole_way : (i : ℕ) → i < size (sub t n) → ready (way_to t (n + i)) ≡ (ready (way_to (sub t n) i) && ready (way_to t n))
  unfolding ready
  whole_way i p = ap ready (part_way t n within i p) ∙ every_append _ (way_to (sub t n) i) (way_to t n)

  to_whole : found (first (ready_kill k) (sub t n)) ≡ true → found (first (ready_kill k) t) ≡ true
  to_whole = found_at _ (ready_kill k) (sub t n) (λ i p e.
      let (r, s) = kill_is k i _ e in
      is_kill k t (n + i) (omega (arith, spot_fits t n within)) (whole_way i p ∙ true_and r way_ready) (part_sub t n within i p ∙ s))

  from_whole : found (first (ready_kill k) t) ≡ true → found (first (ready_kill k) (sub t n)) ≡ true
  unfolding found_with
  from_whole = found_at _ (ready_kill k) t (λ i p e.
      let (r, s) = kill_is k i _ e in
      let (q, b, f, g) = enclosed_reaches t k i p (kill-enclosed t w k i s) in
      let z : q ≡ n = one_delimitation t w.formed k q n (omega arith) within f (ap (found_with (eqb k)) d ∙ eq-eqb k k refl) in
      let y : n + size (sub t n) ≡ q + size (sub t q) = rw z in
      let j = i - n in
      let x : n + j ≡ i = omega arith in
      let u : j < size (sub t n) = omega arith in
      is_kill k (sub t n) j u (and_true _ _ (sym (whole_way j u) ∙ (ap (λ h. ready (way_to t h)) x ∙ r))).0 (sym (part_sub t n within j u) ∙ (ap (sub t) x ∙ s)))

  pub held_whole : found (first (ready_kill k) (sub t n)) ≡ found (first (ready_kill k) t)
  held_whole = same_test to_whole from_whole

-- The record at place n by the ready kills of the table: no delimitation holds back, or it is one of k.
pub held_none : (t : Term) (a b n : ℕ) → prefixed delimits (sub t n) ≡ none → held_back a b n (spot_at t n) ≡ false
unfolding held_back found_with sub
held_none t a b n e = rw e (and_none (encloses n (sub t n) a || encloses n (sub t n) b))

pub and_where : (e : Bool) {x y : Bool} → (e ≡ true → x ≡ y) → (e && x) ≡ (e && y)
and_where true f = f refl
and_where false f = refl

held_side : (t : Term) → Within t → (n k c : ℕ) → prefixed delimits (sub t n) ≡ some k → c < size t → live (way_to t c) ≡ true → encloses n (sub t n) c ≡ true
    → found (first (ready_kill k) (sub t n)) ≡ found (first (ready_kill k) t)
unfolding encloses
held_side t w n k c d l v e = let (p, q) = and_true (ltb n c) _ e in held_whole t w c n k l v (ltb-true n c p) (ltb-true c _ q) d

pub held-delimitation : (t : Term) → Within t → (a b n k : ℕ) → a < size t → b < size t → live (way_to t a) ≡ true → live (way_to t b) ≡ true → prefixed delimits (sub t n) ≡ some k
    → held_back a b n (spot_at t n) ≡ ((encloses n (sub t n) a || encloses n (sub t n) b) && found (first (ready_kill k) t))
unfolding held_back found_with sub
held-delimitation t w a b n k la lb va vb d =
    rw d (and_where _ (λ e. or_case _ (encloses n (sub t n) a) (encloses n (sub t n) b) e (held_side t w n k a d la va) (held_side t w n k b d lb vb)))
