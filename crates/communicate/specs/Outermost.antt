-- Where what a communication changes begins: at the outermost delimitation that goes, or at the invoke if none does.
use Rattle.std.specs.Prelude.{◌≡◌, true, List, [], ◌∷◌, ℕ, ◌+◌, ◌*◌, ◌≤◌, ◌<◌, length, get_or}
use Rattle.std.specs.Prelude as rust
use Rattle.std.specs.Prelude.{None}
use mathlib.Core.Option.{some}
use Rattle.cows.specs.Terms.{Term}
use Rattle.cows.specs.Places.{way_to}
use Rattle.records.specs.declared.Variable.{Variable}
use Rattle.records.specs.declared.Binding.{Binding}
use Rattle.matching.specs.Taking.{takes_of}
use Rattle.cows.specs.Format.{word}
use Rattle.records.specs.Atoms.{takes_variable}
use Rattle.ways.specs.Ways.{Over, scope_of}

-- what the slots of the receive at place a take from those of the invoke at place b
abbrev pub slots_taken : (s : List ℕ) (a b : ℕ) → List (rust.Option Binding)
slots_taken s a b =
    takes_of (word s (16 * a + 6)) (word s (16 * b + 6)) ∷ takes_of (word s (16 * a + 8)) (word s (16 * b + 8)) ∷ takes_of (word s (16 * a + 10)) (word s (16 * b + 10)) ∷ takes_of (word s (16 * a + 12)) (word s (16 * b + 12)) ∷ []

-- no delimitation around place b of a variable that takes a value stands ahead of place r
abbrev pub NoneAhead : (t : Term) (b : ℕ) → rust.Option Binding → (r : ℕ) → Type 0
NoneAhead t b taken r = (x : Variable) → takes_variable taken x ≡ true → (q : ℕ) → scope_of x.0 (way_to t b) ≡ some q → r ≤ q

-- Place r is place p or further out, and its term holds place b and that delimitation.
pub record Outer (t : Term) (b p : ℕ) (taken : rust.Option Binding) (r : ℕ) : Type 0 where
  pub over : Over t r b
  pub low : r ≤ p
  pub none_ahead : NoneAhead t b taken r

-- The same for all slots of a pattern.
pub record Outermost (t : Term) (b : ℕ) (ts : List (rust.Option Binding)) (r : ℕ) : Type 0 where
  pub over : Over t r b
  pub none_ahead : (i : ℕ) → i < length ts → NoneAhead t b (get_or ts i None) r
