-- A walk for the first active record that passes a test (cows, proofs/Scans): what is found is what is found from the present place on.
use mathlib.Core.Path.{◌≡◌, sym, ap, ◌∙◌}
use mathlib.Core.Bool.{Bool, true, false, ◌&&◌}
use mathlib.Core.List.{List, []}
use mathlib.Core.Option.{Option, none, some}
use Prim.Native.Nat.{ℕ, ◌+◌, ◌*◌, ◌-◌, ◌/◌, ◌≤◌, ◌<◌}
use native.Mathlib.Omega.{arith}
use native.Mathlib.Numerals.{add-one}
use lib.ListN.{length, get_or}
use Rattle.cows.specs.Basics.{every, first_from, place_if, or_else}
use Rattle.cows.specs.Terms.{Term, size}
use Rattle.cows.specs.Kinds.{kind_of}
use Rattle.cows.specs.Places.{Spot, spot_at, way_to, sub, first}
use Rattle.cows.proofs.Basics.{from_next, from_end, from_skip}
use Rattle.cows.proofs.Places.{size_pos, spot_fits, descend-first}
use Rattle.cows.proofs.Scans.{active, active_over, active_next, shut_below}
use Rattle.records.proofs.StandsIn.{holds_kind}
use Rattle.ways.specs.Known.{Table}
use Rattle.ways.proofs.KnownTables.{table_size, table_ended, table_inside}

module _ (P : ℕ → Bool) (test : Term → Bool) where
  -- an active record that passes
  abbrev pub picks : ℕ → Spot → Bool
  picks n z = active P z.way && test z.here

  abbrev pub from : Term → ℕ → Option ℕ
  from t i = first_from (λ n. picks n (spot_at t n)) i (size t - i)

  -- The walk is at place i, which is active, or at the end.
  pub record Seeking (t : Term) (i : ℕ) : Type 0 where
    pub few : i ≤ size t
    pub active : i < size t → active P (way_to t i) ≡ true
    pub rest : first picks t ≡ from t i

  module _ (t : Term) where
    pub seeking_start : Seeking t 0
    unfolding first every way_to spot_at
    seeking_start = record {
      few = omega arith;
      active = λ l. ap (λ (z : Spot). active P z.way) (descend-first [] t);
      rest = ap (first_from _ 0) (let z : size t ≡ size t - 0 = omega arith in z);
    }

    pub seeking_end : (i : ℕ) → Seeking t i → size t ≤ i → first picks t ≡ none
    seeking_end i h l = h.rest ∙ from_end _ i (size t) l

    module _ (i : ℕ) (h : Seeking t i) (l : i < size t) where
      from_here : from t i ≡ or_else (place_if (test (sub t i)) i) (from t (i + 1))
      unfolding way_to sub
      from_here = from_next _ i (size t) l ∙ rw (h.active l)

      seeking_found : test (sub t i) ≡ true → first picks t ≡ some i
      unfolding place_if or_else
      seeking_found e = h.rest ∙ (from_here ∙ rw e)

      seeking_through : test (sub t i) ≡ false → P (kind_of (sub t i)) ≡ true → Seeking t (i + 1)
      unfolding place_if or_else
      seeking_through e p = record {
        few = omega arith;
        active = λ k. rw (add-one i) (active_next P t i l (h.active l) p (omega arith));
        rest = h.rest ∙ (from_here ∙ rw e);
      }

      pub seeking_over : test (sub t i) ≡ false → P (kind_of (sub t i)) ≡ false → Seeking t (i + size (sub t i))
      unfolding place_if or_else way_to sub
      seeking_over e p =
          let n = i + size (sub t i) in
          record {
            few = spot_fits t i l;
            active = λ k. active_over P t i l (h.active l) k;
            rest = h.rest ∙ (from_here
                ∙ rw e (from_skip _ (i + 1) n (size t) (omega (arith, size_pos (sub t i))) (spot_fits t i l) (λ m a b. rw (shut_below P t i l p m (omega arith) b))));
          }

-- The same on a table.
module _ (s ends : List ℕ) (t : Term) (h : Table s ends t) (i : ℕ) (l : i < length s / 16) where
  inside : i < size t
  inside = table_inside s ends t h i l

  -- the end of the term at place i
  pub table_next : (next : ℕ) → next ≡ get_or ends i 0 → (i < next) × (next ≤ length s / 16)
  table_next next at = omega (arith, at, table_ended s ends t h i inside, table_size s ends t h, spot_fits t i inside, size_pos (sub t i))

  -- a turn of the walk, by what the code has tested: the record, and the kind
  module _ (P : ℕ → Bool) (test : Term → Bool) (k : Seeking P test t i) {b : Bool} (tested : i < size t → b ≡ test (sub t i)) where
    pub table_found : b ≡ true → first (picks P test) t ≡ some i
    table_found e = seeking_found P test t i k inside (sym (tested inside) ∙ e)

    module _ (no : b ≡ false) {g : Bool} (kind : g ≡ P (get_or s (16 * i) 0)) where
      kind_is : P (kind_of (sub t i)) ≡ g
      kind_is = ap P (sym (holds_kind s t i h.holds inside)) ∙ sym kind

      pub table_through : g ≡ true → Seeking P test t (i + 1)
      table_through e = seeking_through P test t i k inside (sym (tested inside) ∙ no) (kind_is ∙ e)

      pub table_over : g ≡ false → (next : ℕ) → next ≡ get_or ends i 0 → Seeking P test t next
      table_over e next at = rw (at, table_ended s ends t h i inside) (seeking_over P test t i k inside (sym (tested inside) ∙ no) (kind_is ∙ e))
