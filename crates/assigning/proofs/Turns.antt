-- A turn of a walk over the active records of a table (ways, proofs/Seeking): the next place, and that no place between is active.
use mathlib.Core.Path.{◌≡◌, refl, sym, ap, subst, ◌∙◌}
use mathlib.Core.Bool.{Bool, true, false}
use mathlib.Core.List.{List}
use Prim.Native.Nat.{ℕ, ◌+◌, ◌*◌, ◌/◌, ◌<◌}
use native.Mathlib.Omega.{arith}
use lib.ListN.{length, get_or}
use Rattle.cows.specs.Terms.{Term}
use Rattle.cows.specs.Kinds.{ready_kind}
use Rattle.cows.specs.Places.{way_to}
use Rattle.cows.proofs.Scans.{active, shut_below}
use Rattle.records.proofs.StandsIn.{holds_kind}
use Rattle.ways.specs.Known.{Table}
use Rattle.ways.proofs.KnownTables.{table_ended, table_inside}
use Rattle.ways.proofs.Seeking.{Seeking, table_next, table_through, table_over}
use Rattle.holding.proofs.Passing.{past_of, past_case}

-- the walk stands at an active place, or at the end
abbrev pub Strides : (ℕ → Bool) → Term → ℕ → Type 0
Strides P = Seeking P (λ s. false)

pub record Turn (P : ℕ → Bool) (t : Term) (i j : ℕ) : Type 0 where
  pub on : i < j
  pub walk : Strides P t j
  pub shut : (m : ℕ) → i < m → m < j → active P (way_to t m) ≡ false

-- by the kind that the code has tested
module _ (s ends : List ℕ) (t : Term) (h : Table s ends t) (i : ℕ) (l : i < length s / 16) (P : ℕ → Bool) (w : Strides P t i) {g : Bool} (kind : g ≡ P (get_or s (16 * i) 0)) where
  pub turn_through : g ≡ true → Turn P t i (i + 1)
  turn_through e = record { on = omega arith; walk = table_through s ends t h i l P _ w (λ i. refl) refl kind e; shut = λ m a b. absurd (omega arith) }

  pub turn_over : g ≡ false → (next : ℕ) → next ≡ get_or ends i 0 → Turn P t i next
  turn_over e next at =
      let p = table_inside s ends t h i l in
      record {
        on = (table_next s ends t h i l next at).0;
        walk = table_over s ends t h i l P _ w (λ i. refl) refl kind e next at;
        shut = λ m a b. shut_below P t i p (ap P (sym (holds_kind s t i h.holds p)) ∙ (sym kind ∙ e)) m a (omega (arith, table_ended s ends t h i p));
      }

-- a step of the walk over the ready records (holding, next_ready)
pub turn_past : (s ends : List ℕ) (t : Term) (h : Table s ends t) (i : ℕ) (l : i < length s / 16) → Strides ready_kind t i → (j : ℕ) → j ≡ past_of s ends i → Turn ready_kind t i j
turn_past s ends t h i l w j at =
    past_case s ends t h i l j at (Turn ready_kind t i j)
    (λ e z. subst (Turn ready_kind t i) (sym z) (turn_through s ends t h i l ready_kind w refl e))
    (λ e z. turn_over s ends t h i l ready_kind w refl e j z)
