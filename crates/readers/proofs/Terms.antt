-- What the table reader finds (specs/Terms): the place by what the service reader answers, and, of a whole table, refusal 5.
use mathlib.Core.Path.{◌≡◌, refl, sym, ap, ◌∙◌}
use mathlib.Core.Bool.{false}
use mathlib.Core.List.{List, []}
use mathlib.Core.Option.{Option, none, some}
use Rattle.std.specs.Prelude as rust
use Rattle.std.specs.Prelude.{Ok, Err}
use Prim.Native.Nat.{ℕ, ◌-◌, ◌/◌}
use native.Mathlib.Omega.{arith}
use native.Mathlib.Nat.{zero-add}
use lib.ListN.{length, get_or}
use Rattle.cows.specs.Terms.{Term, size}
use Rattle.cows.specs.Places.{Spot, spot_at, way_to, sub, first}
use Rattle.cows.specs.Tables.{in_choice, no_guard}
use Rattle.cows.proofs.Places.{size_pos, descend-first}
use Rattle.records.specs.Holds.{Holds}
use Rattle.records.specs.Ends.{EndsFrom}
use Rattle.records.proofs.StandsIn.{holds_size}
use Rattle.readers.specs.Reads.{fault_from, ReadService}
use Rattle.readers.specs.Terms.{reached_place, ReadTo}
use Rattle.readers.proofs.Faults.{ok_is, err_is}
use Rattle.readers.proofs.Choices.{end_is}

module _ (s ends : List ℕ) (at end : ℕ) (f : rust.Result Unit ℕ) (is : end ≡ get_or ends at 0) (x : ReadService s at end f) where
  pub read_behind : f ≡ Ok tt → ReadTo s ends at (Ok end)
  read_behind q t h e = rw (ok_is _ (sym q ∙ (rw is at x) t h e)) (ap Ok is)

  pub read_fault : (p : ℕ) → f ≡ Err p → ReadTo s ends at (Err p)
  read_fault p q t h e = rw (err_is _ p (sym q ∙ (rw is at x) t h e))

-- The reader that was at the first record of a table is behind the last one, or names the place of refusal 5.
pub record Tells (s : List ℕ) (t : Term) (r : rust.Result ℕ ℕ) : Type 0 where
  pub guarded : (n : ℕ) → r ≡ Ok n → (n ≡ length s / 16) × (first no_guard t ≡ none)
  pub unguarded : (p : ℕ) → r ≡ Err p → first no_guard t ≡ some p

reached_tells : (n : ℕ) (r : rust.Result ℕ ℕ) (o : Option ℕ) → r ≡ reached_place n o → ((m : ℕ) → r ≡ Ok m → (m ≡ n) × (o ≡ none)) × ((p : ℕ) → r ≡ Err p → o ≡ some p)
reached_tells n r none e = (λ m q. (cc, refl), λ p q. cc)
reached_tells n r (some p) e = (λ m q. (cc, cc), λ x q. cc)

root_here : (t : Term) → sub t 0 ≡ t
unfolding sub spot_at
root_here t = ap (λ (z : Spot). z.here) (descend-first [] t)

root_free : (t : Term) → in_choice (way_to t 0) ≡ false
unfolding way_to spot_at in_choice
root_free t = ap (λ (z : Spot). in_choice z.way) (descend-first [] t)

module _ {s ends : List ℕ} {t : Term} (r : rust.Result ℕ ℕ) (h : Holds s t) (e : EndsFrom s ends 0) where
  pub read_whole : ReadTo s ends 0 r → r ≡ reached_place (length s / 16) (first no_guard t)
  unfolding first fault_from
  read_whole x =
      let n = holds_size s t h in
      let v : get_or ends 0 0 ≡ length s / 16 = end_is h e 0 (omega (arith, size_pos t)) ∙ rw (root_here t) (zero-add (size t) ∙ sym n) in
      let z : length s / 16 - 0 ≡ size t = omega arith in
      rw (v, z) at (x t h (root_free t))

  pub read_tells : ReadTo s ends 0 r → Tells s t r
  read_tells x = let (a, b) = reached_tells (length s / 16) r (first no_guard t) (read_whole x) in record { guarded = a; unguarded = b }
