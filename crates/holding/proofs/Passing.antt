-- A step of the walk over the ready records of a table (next_ready): it goes forward, and what is found is what is found from there on.
use mathlib.Core.Path.{◌≡◌, refl, ap, ◌∙◌, sym, subst}
use mathlib.Core.Bool.{Bool, true, false, cond}
use mathlib.Core.List.{List}
use Prim.Native.Nat.{ℕ, ◌+◌, ◌*◌, ◌/◌, ◌≤◌, ◌<◌}
use native.Mathlib.Omega.{arith}
use lib.ListN.{length, get_or}
use Rattle.cows.specs.Terms.{Term, size}
use Rattle.cows.specs.Kinds.{ready_kind}
use Rattle.cows.specs.Places.{sub}
use Rattle.cows.proofs.Basics.{bool_case}
use Rattle.ways.specs.Known.{Table}
use Rattle.ways.proofs.Seeking.{Seeking, table_next, table_through, table_over}

abbrev pub past_of : (s ends : List ℕ) → ℕ → ℕ
past_of s ends i = cond (ready_kind (get_or s (16 * i) 0)) (i + 1) (get_or ends i 0)

module _ (s ends : List ℕ) (t : Term) (h : Table s ends t) (i : ℕ) (l : i < length s / 16) (j : ℕ) (at : j ≡ past_of s ends i) where
  -- by the kind of the record
  pub past_case : (T : Type 0) → (ready_kind (get_or s (16 * i) 0) ≡ true → j ≡ i + 1 → T) → (ready_kind (get_or s (16 * i) 0) ≡ false → j ≡ get_or ends i 0 → T) → T
  past_case T f g = bool_case T (ready_kind (get_or s (16 * i) 0)) (λ e. f e (at ∙ ap (λ b. cond b (i + 1) (get_or ends i 0)) e)) (λ e. g e (at ∙ ap (λ b. cond b (i + 1) (get_or ends i 0)) e))

  pub past_next : (i < j) × (j ≤ length s / 16)
  past_next = past_case ((i < j) × (j ≤ length s / 16)) (λ e z. omega arith) (λ e z. table_next s ends t h i l j z)

  pub past_seeking : (test : Term → Bool) → Seeking ready_kind test t i → {b : Bool} → (i < size t → b ≡ test (sub t i)) → b ≡ false → Seeking ready_kind test t j
  past_seeking test k tested miss =
      past_case (Seeking ready_kind test t j)
      (λ e z. subst (Seeking ready_kind test t) (sym z) (table_through s ends t h i l ready_kind test k tested miss refl e))
      (λ e z. table_over s ends t h i l ready_kind test k tested miss refl e j z)
