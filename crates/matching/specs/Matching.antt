-- Matching as the code answers it: how many variables are bound, or what differs; an endpoint and a tuple by the bytes of a record.
use Rattle.std.specs.Prelude.{◌≡◌, Bool, cond, not, ◌&&◌, ◌||◌, List, ℕ, ◌+◌, ◌*◌, ◌≤◌, eqb, length, get_or}
use Rattle.cows.specs.Terms.{Action, variable}
use Rattle.cows.specs.Basics.{one_if}
use Rattle.cows.specs.Format.{byte, word}
use Rattle.cows.specs.Moves.{Mismatch, unset_variable, other_endpoint, other_count, other_value, Matching, binds, differs}
use Rattle.matching.specs.declared.Difference.{Difference}
use Rattle.matching.specs.declared.Difference.TheVariants.{Unset, Endpoint, Count, Slot}
use Rattle.std.specs.Prelude as rust
use Rattle.std.specs.Prelude.{Ok, Err}

-- the answer of a matching, and what it says
abbrev pub difference_of : Mismatch → Difference
difference_of unset_variable = Unset
difference_of other_endpoint = Endpoint
difference_of other_count = Count
difference_of (other_value n) = Slot n

abbrev pub mismatch_of : Difference → Mismatch
mismatch_of Unset = unset_variable
mismatch_of Endpoint = other_endpoint
mismatch_of Count = other_count
mismatch_of (Slot n) = other_value n

abbrev pub fit_of : Matching → rust.Result ℕ Difference
fit_of (binds σ) = Ok (length σ)
fit_of (differs d) = Err (difference_of d)

-- whether a slot agrees: a variable takes the value there, a value is the same
abbrev pub agree : ℕ → ℕ → Bool
agree w v = variable w || eqb w v

-- the first of four slots that does not agree, by the first three
abbrev pub first_apart : Bool → Bool → Bool → ℕ
first_apart w x y = cond w (cond x (cond y 3 2) 1) 0

-- what differs ahead of the slots, by the tests of the message's variables and of the endpoints
abbrev pub first_unlike : Bool → Bool → Difference
first_unlike closed endpoint = cond closed (cond endpoint Count Endpoint) Unset

-- the same of the slots of the records at bytes k and m (those that are not used are 0, and agree)
abbrev pub slots_of : (w x y z : Bool) (variables : ℕ) → rust.Result ℕ Difference
slots_of w x y z variables = cond (w && (x && (y && z))) (Ok variables) (Err (Slot (first_apart w x y)))

unfoldable pub slots_at : List ℕ → ℕ → ℕ → rust.Result ℕ Difference
slots_at s k m =
    slots_of (agree (word s (k + 6)) (word s (m + 6))) (agree (word s (k + 8)) (word s (m + 8))) (agree (word s (k + 10)) (word s (m + 10))) (agree (word s (k + 12)) (word s (m + 12)))
    (one_if (variable (word s (k + 6))) + one_if (variable (word s (k + 8))) + one_if (variable (word s (k + 10))) + one_if (variable (word s (k + 12))))

-- The record at place j has the endpoint and the tuple of r.
pub record ActionAt (s : List ℕ) (j : ℕ) (r : Action) : Type 0 where
  pub partner : word s (16 * j + 2) ≡ r.partner
  pub operation : word s (16 * j + 4) ≡ r.operation
  pub few : length r.tuple ≤ 4
  pub count : byte s (16 * j + 1) ≡ length r.tuple
  pub slot0 : word s (16 * j + 6) ≡ get_or r.tuple 0 0
  pub slot1 : word s (16 * j + 8) ≡ get_or r.tuple 1 0
  pub slot2 : word s (16 * j + 10) ≡ get_or r.tuple 2 0
  pub slot3 : word s (16 * j + 12) ≡ get_or r.tuple 3 0

-- a test of a pair, in a slot with w in the pattern and v in the message: it is asked where w is a variable
abbrev pub slot_test : (ℕ × ℕ → Bool) → ℕ → ℕ → Bool
slot_test f w v = not (variable w) || f (w, v)
