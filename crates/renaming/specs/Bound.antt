-- The records of a table after a communication: up to four variables become the values that they take, their delimitations go, and the invoke becomes nil.
use Rattle.std.specs.Prelude.{◌≡◌, Bool, false, cond, ◌&&◌, List, [], ◌∷◌, ℕ, ◌+◌, ◌*◌, ◌≤◌, ◌<◌, eqb, length, take, drop}
use Rattle.cows.specs.Terms.{nil}
use Rattle.cows.specs.Kinds.{basic}
use Rattle.cows.specs.Format.{byte, word, record16}
use Rattle.records.specs.declared.Variable as variables
use Rattle.records.specs.declared.Atom.{Atom}
use Rattle.records.specs.declared.Atom.TheVariants.{None, Value, Variable, Label}
use Rattle.records.specs.declared.Binding.{Binding}
use Rattle.std.specs.Prelude as rust
use Rattle.std.specs.List.{list_any}
use Rattle.records.specs.Atoms.{class_of, number_of, takes_variable, image_of}
use Rattle.renaming.specs.Mapped.{map_record, along}

-- the value that the variable x takes by the first slot that takes it, or else another atom
abbrev pub first_image : List (rust.Option Binding) → variables.Variable → Atom → Atom
first_image [] x a = a
first_image (t ∷ ts) x a = image_of t x (first_image ts x a)

-- whether one of the slots takes an atom; what stands for it: the value that it takes by the first that takes it
module _ (ts : List (rust.Option Binding)) where
  abbrev pub takes_atom : Atom → Bool
  takes_atom None = false
  takes_atom (Value v) = false
  takes_atom (Variable x) = list_any (λ t. takes_variable t x) ts
  takes_atom (Label k) = false

  abbrev pub image_atom : Atom → Atom
  image_atom None = None
  image_atom (Value v) = Value v
  image_atom (Variable x) = first_image ts x (Variable x)
  image_atom (Label k) = Label k

  -- the same of the numbers that are read and written
  abbrev pub takes_one : ℕ → Bool
  takes_one n = takes_atom (class_of n)

  abbrev pub image_of_all : ℕ → ℕ
  image_of_all n = number_of (image_atom (class_of n))

  -- the record is a delimitation of an atom that one of them takes
  unfoldable pub goes : List ℕ → Bool
  goes r = eqb (byte r 0) 8 && takes_one (word r 2)

  -- what becomes of the record r at place i: nil at place b
  unfoldable pub record_bound : (b i : ℕ) → List ℕ → List ℕ
  record_bound b i r = cond (eqb i b) (record16 (basic nil)) (cond (goes r) [] (map_record image_of_all r))

  -- and of the n records of s from place i on
  abbrev pub bound_records : (b : ℕ) (s : List ℕ) (i n : ℕ) → List ℕ
  bound_records b s i n = along (record_bound b) s i n

  -- the record of s at place j stays as it is
  abbrev pub Stays : (b : ℕ) (s : List ℕ) (j : ℕ) → Type 0
  Stays b s j = 16 * j + 15 < length s → record_bound b j (take 16 (drop (16 * j) s)) ≡ take 16 (drop (16 * j) s)

  -- What changes stands at places `low` to `high` (not included).
  pub record Unchanged (b : ℕ) (s : List ℕ) (low high : ℕ) : Type 0 where
    pub ahead : (j : ℕ) → j < low → Stays b s j
    pub behind : (j : ℕ) → high ≤ j → Stays b s j
