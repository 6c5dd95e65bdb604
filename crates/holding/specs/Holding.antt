-- Holding back (refusal 14): the labels of which a ready kill stands in a term, and those around a place. Conflicts (15): the other receives on an endpoint.
use Rattle.std.specs.Prelude.{◌≡◌, ◌≢◌, Bool, true, false, not, ◌&&◌, List, ℕ, ◌+◌, ◌*◌, ◌-◌, ◌/◌, ◌%◌, ◌^◌, eqb, get_or}
use Rattle.cows.specs.Limits.{first_label}
use Rattle.cows.specs.Basics.{found_with, found}
use Rattle.cows.specs.Terms.{Term, label, prefixed, delimits}
use Rattle.cows.specs.Places.{way_to, sub, first, enclosed}
use Rattle.cows.specs.Format.{word}
use Rattle.cows.specs.Moves.{ready_kill}

-- the mark of the label that is number i of the labels: one bit of a word of 64
unfoldable pub mark_of : List ℕ → ℕ → ℕ
mark_of marks i = get_or marks (i / 64) 0 / 2 ^ (i % 64) % 2

-- label number i is marked, and the other marks are as they were
pub record Marks (before : List ℕ) (i : ℕ) (after : List ℕ) : Type 0 where
  pub here : mark_of after i ≡ 1
  pub others : (j : ℕ) → j ≢ i → mark_of after j ≡ mark_of before j

-- no label is marked
abbrev pub Unmarked : List ℕ → Type 0
Unmarked marks = (i : ℕ) → mark_of marks i ≡ 0

-- a ready kill of k stands in the term
abbrev pub killed : Term → ℕ → Bool
killed t k = found (first (ready_kill k) t)

-- exactly the labels are marked of which a ready kill stands in the term
abbrev pub KillsMarked : List ℕ → Term → Type 0
KillsMarked marks t = (k : ℕ) → label k ≡ true → not (eqb (mark_of marks (k - first_label)) 0) ≡ killed t k

-- the record at place n delimits such a label
abbrev pub holds_at : Term → ℕ → Bool
holds_at t n = found_with (killed t) (prefixed delimits (sub t n))

-- no delimitation of an atom that passes the test encloses place a
abbrev pub Outside : (ℕ → Bool) → Term → ℕ → Type 0
Outside test t a = (k : ℕ) → test k ≡ true → enclosed k (way_to t a) ≡ false

-- the record at place i is a receive on the endpoint of the invoke at place b
unfoldable pub rival_at : (s : List ℕ) (b i : ℕ) → Bool
rival_at s b i = eqb (get_or s (16 * i) 0) 3 && (eqb (word s (16 * i + 2)) (word s (16 * b + 2)) && eqb (word s (16 * i + 4)) (word s (16 * b + 4)))
