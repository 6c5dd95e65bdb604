-- Extruding a delimitation: the record above it, and the bytes of the table with the two exchanged.
use Rattle.std.specs.Prelude.{◌≡◌, Bool, true, false, cond, not, List, ◌∷◌, ◌++◌, ℕ, ◌+◌, ◌*◌, ◌-◌, ◌/◌, ◌≤◌, ◌<◌, eqb, length, get_or, take, drop}
use Rattle.cows.specs.Limits.{max_depth, max_records}
use Rattle.cows.specs.Basics.{place_if, Result, accept, ◌>>◌, forbid}
use Rattle.cows.specs.Terms.{delimitation, Term, under, size, below}
use Rattle.cows.specs.Places.{Frame, plug, Way, way_to, sub}
use Rattle.cows.specs.Moves.{fitting, after_extrude}
use Rattle.cows.specs.Records.{At}
use Rattle.ways.specs.Known.{Table}
use Rattle.records.specs.declared.Atom.{Atom}
use Rattle.records.specs.declared.Atom.TheVariants.{None, Value, Variable, Label}

-- a label, by the class of an atom
abbrev pub is_label : Atom → Bool
is_label None = false
is_label (Value v) = false
is_label (Variable x) = false
is_label (Label k) = true

-- where the other side of the parallel at place p begins, if one side is at place a and ends at `end`
abbrev pub beside_of : ℕ → ℕ → ℕ → ℕ
beside_of p a end = cond (eqb a (p + 1)) end (p + 1)

-- the move behind its test of the atom: 18 for want of a fitting parent, and the successor
unfoldable pub lift_at : ℕ → Term → ℕ → Result Term
lift_at d t a = do
  forbid 18 (place_if (not (fitting (way_to t a))) a)
  accept (after_extrude d t a)

-- A delimitation of d stands at place a, the record above it at place p, and k records on the way to it.
pub record Lifting (s ends : List ℕ) (a p k : ℕ) (t : Term) (d : ℕ) : Type 0 where
  pub table : Table s ends t
  pub inside : a < size t
  pub frame : Frame
  pub rest : Way
  pub way : way_to t a ≡ frame ∷ rest
  pub above : At t p rest (plug frame (sub t a))
  pub count : k ≡ length (way_to t a)
  pub stands : sub t a ≡ under (delimitation d) (below (sub t a))

-- There is such a delimitation. The other fields follow; they are here for `omega`.
pub record Liftable (s ends : List ℕ) (a p k : ℕ) : Type 0 where
  pub term : Term
  pub atom : ℕ
  pub lifting : Lifting s ends a p k term atom
  pub before : p < a
  pub place : a < length s / 16
  pub few : length s / 16 ≤ max_records
  pub room : length s / 16 < length ends
  pub short : k < max_depth

-- The record at place a of a table of so many bytes goes before that at place p, in an output of so many.
pub record Lifts (size a p room : ℕ) : Type 0 where
  pub before : p < a
  pub inside : 16 * (a + 1) ≤ size
  pub fits : size ≤ room

unfoldable pub lifted : List ℕ → ℕ → ℕ → List ℕ
lifted s a p = take (16 * p) s ++ (take 16 (drop (16 * a) s) ++ (take (16 * (a - p)) (drop (16 * p) s) ++ drop (16 * (a + 1)) s))

-- the bytes from `low` up to `high` up by one record
unfoldable pub raised : List ℕ → ℕ → ℕ → List ℕ
raised t low high = take (low + 16) t ++ (take (high - low) (drop low t) ++ drop (high + 16) t)

-- The ends of a table whose record at place a goes before that at place p: what lifting them asks, and gives.
pub record LiftsEnds (ends : List ℕ) (a p : ℕ) : Type 0 where
  pub before : p < a
  pub inside : a ≤ max_records
  pub room : a < length ends
  pub small : (i : ℕ) → i < a → get_or ends i 0 ≤ max_records

pub record EndsLifted (ends : List ℕ) (a p : ℕ) (ends' : List ℕ) : Type 0 where
  pub first : (i : ℕ) → i ≤ p → get_or ends' i 0 ≡ get_or ends i 0
  pub top : get_or ends' (p + 1) 0 ≡ get_or ends p 0
  pub between : (i : ℕ) → p + 1 < i → i ≤ a → get_or ends' i 0 ≡ get_or ends (i - 1) 0 + 1
  pub last : (i : ℕ) → a < i → get_or ends' i 0 ≡ get_or ends i 0
