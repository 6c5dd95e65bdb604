-- Laws of the two readers, one for each branch of the code: what a call asks, and what is returned.
use mathlib.Core.Path.{◌≡◌, refl, sym, ap, ◌∙◌}
use mathlib.Core.Logic.{◌≢◌}
use mathlib.Core.Bool.{true, false, not, ◌||◌}
use mathlib.Core.List.{List}
use mathlib.Core.Option.{some}
use Rattle.std.specs.Prelude as rust
use Rattle.std.specs.Prelude.{Ok, Err}
use Prim.Native.Nat.{ℕ, ◌+◌, ◌*◌, ◌/◌, ◌≤◌, ◌<◌}
use native.Mathlib.Omega.{arith}
use lib.Dec.{eqb}
use lib.ListN.{length, get_or}
use borrow.Author.Tests.{eqb-true}
use Rattle.cows.specs.Terms.{Term}
use Rattle.cows.specs.Kinds.{kind_of, guard_kind, guard, children_of, open_kinds}
use Rattle.cows.specs.Places.{spot_at, way_to, sub}
use Rattle.cows.specs.Tables.{in_choice, no_guard}
use Rattle.cows.proofs.Basics.{never, or_case}
use Rattle.cows.proofs.Rows.{kind-cases}
use Rattle.records.specs.Holds.{Holds}
use Rattle.records.proofs.StandsIn.{holds_size, holds_kind}
use Rattle.readers.specs.Reads.{Readable, fault_from, ReadService, ReadGuard}
use Rattle.readers.proofs.Faults.{fault_end, fault_next, fault_here, found_first, none_first}
use Rattle.readers.proofs.Choices.{Guarding, Inside, end_after, leaf_at, choice_at, prefix_at, inside_at, Free, free_next, free_over, free_fault}

-- a prefix that is a guard has a child; what is no choice, no nil and none of these is no guard
prefix-kind : (k : ℕ) → (eqb k 3 || eqb k 4) ≡ true → (children_of k ≡ 1) × (guard_kind k ≡ true)
unfolding open_kinds
prefix-kind k e = or_case _ (eqb k 3) (eqb k 4) e (λ q. rw (eqb-true k 3 q) (refl, refl)) (λ q. rw (eqb-true k 4 q) (refl, refl))

no-guard : (k : ℕ) → k ≢ 5 → k ≢ 0 → (eqb k 3 || eqb k 4) ≡ false → guard_kind k ≡ false
unfolding open_kinds
no-guard =
    kind-cases (λ k. k ≢ 5 → k ≢ 0 → (eqb k 3 || eqb k 4) ≡ false → guard_kind k ≡ false)
    (λ a b c. absurd (b refl), λ a b c. refl, λ a b c. refl, λ a b c. never (sym c), λ a b c. never (sym c), λ a b c. absurd (a refl), λ a b c. refl, λ a b c. refl, λ a b c. refl, λ a b c. refl)
    (λ n a b c. refl)

-- the kind of the record at a place: its first byte
abbrev kind_at : List ℕ → ℕ → ℕ
kind_at s at = get_or s (16 * at) 0

-- what can be read at one place can be read at another
elsewhere : {s ends : List ℕ} {at : ℕ} → Readable s ends at → (i : ℕ) → i < length s / 16 → Readable s ends i
elsewhere r i l = record { term = r.term; holds = r.holds; end = r.end; inside = l }

-- The guard at a place.
module _ {s ends : List ℕ} {at : ℕ} (r : Readable s ends at) where
  abbrev n : ℕ
  n = length s / 16

  abbrev k : ℕ
  k = kind_at s at

  abbrev end : ℕ
  end = get_or ends at 0

  -- its children can be read
  pub choice_in : k ≡ 5 → Guarding s ends r.term at
  choice_in e = choice_at r.holds r.end at r.inside e

  pub reads_left : k ≡ 5 → Readable s ends (at + 1)
  reads_left e = elsewhere r (at + 1) (choice_in e).first

  pub reads_right : (w : ℕ) → w ≡ get_or ends (at + 1) 0 → k ≡ 5 → Readable s ends w
  reads_right w q e = elsewhere r w (rw q (choice_in e).second)

  pub reads_below : (w : ℕ) → w ≡ end → (eqb k 3 || eqb k 4) ≡ true → Readable s ends (at + 1) × (w ≡ get_or ends (at + 1) 0)
  reads_below w q e =
      let p = prefix_at r.holds r.end at r.inside (prefix-kind k e).0 in
      (elsewhere r (at + 1) p.next, q ∙ sym p.last)

  module _ (t : Term) (h : Holds s t) (own : no_guard at (spot_at t at) ≡ not (guard (sub t at))) where
    after : (at < end) × (end ≤ n)
    after = end_after h r.end at r.inside

    kind : k ≡ kind_of (sub t at)
    kind = holds_kind s t at h (omega (arith, holds_size s t h, r.inside))

    -- what is a guard by its kind is no fault, and what is none is one
    passed : guard_kind k ≡ true → fault_from t at end ≡ fault_from t (at + 1) end
    unfolding guard
    passed g = fault_next t at end after.0 (own ∙ ap not (ap guard_kind (sym kind) ∙ g))

    stopped : guard_kind k ≡ false → fault_from t at end ≡ some at
    unfolding guard
    stopped g = fault_here t at end after.0 (own ∙ ap not (ap guard_kind (sym kind) ∙ g))

  pub guard-first : (f : rust.Result Unit ℕ) (p : ℕ) → k ≡ 5 → ReadGuard s (at + 1) (get_or ends (at + 1) 0) f → f ≡ Err p → ReadGuard s at end (Err p)
  unfolding open_kinds
  guard-first f p e x d t h own =
      let g = choice_at h r.end at r.inside e in
      rw (passed t h own (rw e refl)) (found_first t (at + 1) (get_or ends (at + 1) 0) end (omega arith) (omega arith) f (x t h g.left) p d)

  pub guard_second : (f : rust.Result Unit ℕ) (w : ℕ) (v : rust.Result Unit ℕ) → w ≡ get_or ends (at + 1) 0 → k ≡ 5 → ReadGuard s (at + 1) (get_or ends (at + 1) 0) f → f ≡ Ok tt
      → ReadGuard s w (get_or ends w 0) v → ReadGuard s at end v
  unfolding open_kinds
  guard_second f w v q e x d y t h own =
      let g = choice_at h r.end at r.inside e in
      rw (passed t h own (rw e refl), none_first t (at + 1) (get_or ends (at + 1) 0) end (omega arith) (omega arith) f (x t h g.left) d)
      (rw g.last at ((rw q at y) t h g.right))

  pub guard-nil : k ≡ 0 → ReadGuard s at end (Ok tt)
  unfolding open_kinds
  guard-nil e t h own = rw (passed t h own (rw e refl), fault_end t (at + 1) end (omega (arith, leaf_at h r.end at r.inside (rw e refl))))

  pub guard-prefix : (w : ℕ) (v : rust.Result Unit ℕ) → w ≡ end → (eqb k 3 || eqb k 4) ≡ true → ReadService s (at + 1) w v → ReadGuard s at end v
  guard-prefix w v q e x t h own =
      let (c, g) = prefix-kind k e in
      rw (passed t h own g) ((rw q at x) t h (prefix_at h r.end at r.inside c).plain)

  pub guard_fault : k ≢ 5 → k ≢ 0 → (eqb k 3 || eqb k 4) ≡ false → ReadGuard s at end (Err at)
  guard_fault a b c t h own = rw (stopped t h own (no-guard k a b c))

-- The service at a place, read up to i: no choice in it reaches over i, and its first fault is among what is left.
pub record Going (s ends : List ℕ) (at end i : ℕ) : Type 0 where
  pub from : Readable s ends at
  pub is : end ≡ get_or ends at 0
  pub onward : at ≤ i
  pub free : (t : Term) → Holds s t → Free t at i
  pub left : (t : Term) → Holds s t → in_choice (way_to t at) ≡ false → fault_from t at end ≡ fault_from t i end

pub going_first : {s ends : List ℕ} {at end : ℕ} → Readable s ends at → end ≡ get_or ends at 0 → Going s ends at end at
going_first r e = record { from = r; is = e; onward = omega arith; free = λ t h m x y q. absurd (omega arith); left = λ t h q. refl }

module _ {s ends : List ℕ} {at end i : ℕ} (g : Going s ends at end i) where
  pub going_all : end ≤ i → ReadService s at end (Ok tt)
  going_all l t h e = rw (g.left t h e, fault_end t i end l)

  module _ (l : i < end) where
    abbrev next : ℕ
    next = get_or ends i 0

    short : i < get_or ends at 0
    short = rw g.is at l

    pub inside_in : Inside s ends at i
    inside_in = inside_at g.from.holds g.from.end at i g.from.inside g.onward short

    pub reads_choice : Readable s ends i
    reads_choice = elsewhere g.from i inside_in.placed

    no_fault : (t : Term) → Holds s t → in_choice (way_to t at) ≡ false → no_guard i (spot_at t i) ≡ false
    no_fault t h e = free_fault h g.from.end at i g.from.inside g.onward short (g.free t h) e

    -- a choice is read by the guard reader: it is a guard
    guards : kind_at s i ≡ 5 → (t : Term) → Holds s t → in_choice (way_to t at) ≡ false → no_guard i (spot_at t i) ≡ not (guard (sub t i))
    unfolding guard open_kinds
    guards c t h e = no_fault t h e ∙ rw (sym (holds_kind s t i h (omega (arith, holds_size s t h, inside_in.placed))) ∙ c) refl

    pub going_next : kind_at s i ≢ 5 → Going s ends at end (i + 1)
    going_next c = record {
      from = g.from;
      is = g.is;
      onward = omega (arith, g.onward);
      free = λ t h. free_next h g.from.end at i g.from.inside g.onward short (g.free t h) c;
      left = λ t h e. g.left t h e ∙ fault_next t i end l (no_fault t h e);
    }

    module _ (f : rust.Result Unit ℕ) (c : kind_at s i ≡ 5) (x : ReadGuard s i next f) where
      pub going_found : (p : ℕ) → f ≡ Err p → ReadService s at end (Err p)
      going_found p d t h e =
          let j = inside_in in
          let z = g.is in
          rw (g.left t h e) (found_first t i next end (omega arith) (omega arith) f (x t h (guards c t h e)) p d)

      pub going_over : (w : ℕ) → w ≡ next → f ≡ Ok tt → Going s ends at end w
      going_over w v d =
          let j = inside_in in
          let z = g.is in
          rw v record {
            from = g.from;
            is = g.is;
            onward = omega (arith, g.onward);
            free = λ t h. free_over h g.from.end at i g.from.inside g.onward short (g.free t h);
            left = λ t h e. g.left t h e ∙ none_first t i next end (omega arith) (omega arith) f (x t h (guards c t h e)) d;
          }
