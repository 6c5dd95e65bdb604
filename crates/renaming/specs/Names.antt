-- The names of atoms while a body is copied (specs/Mapped, named): 0 where the atom is not taken.
use Rattle.std.specs.Prelude.{◌≡◌, ◌≢◌, Bool, true, false, cond, List, [], ◌∷◌, ℕ, zero, suc, ◌+◌, ◌*◌, ◌≤◌, ◌<◌, ltb, eqb, length, get_or, set, replicate}
use Rattle.cows.specs.Limits.{first_label, first_variable, max_records}
use Rattle.cows.specs.Basics.{every, member}
use Rattle.cows.specs.Terms.{Term, atom, size, atoms, binders}
use Rattle.cows.specs.Places.{sub}
use Rattle.cows.specs.Format.{byte, word, slots, encode}
use Rattle.cows.specs.Within.{counts, Right}
use Rattle.cows.specs.Moves.{image, fresh, renaming, copy}
use Rattle.records.specs.declared.Atom.{Atom}
use Rattle.records.specs.declared.Atom.TheVariants.{None, Value, Variable, Label}
use Rattle.records.specs.Atoms.{class_of}
use Rattle.records.specs.Holds.{Holds}
use Rattle.records.specs.Rewrites.{put, StandsIn}
use Rattle.renaming.specs.Mapped.{slot_of, named}

-- The fields for atoms of a record's 16 bytes that are in use, and some that are 0: where the first is 0 there are none, and where the second is, no other.
unfoldable pub action : List ℕ → List ℕ
action b = word b 4 ∷ slots b

unfoldable pub fields : List ℕ → List ℕ
fields b = cond (eqb (word b 2) 0) [] (word b 2 ∷ cond (eqb (word b 4) 0) [] (action b))

-- the atom that a record's 16 bytes delimit, if they do
abbrev pub delimited : List ℕ → List ℕ
delimited b = cond (eqb (byte b 0) 8) (word b 2 ∷ []) []

-- An atom has a place among n names; it is named v.
abbrev pub fits_in : ℕ → ℕ → Bool
fits_in n a = ltb (slot_of a) n

abbrev pub store : List ℕ → ℕ → ℕ → List ℕ
store names a v = set names (slot_of a) v

-- Marking: each number of a list is entered under itself, one after the other.
unfoldable pub entered : List ℕ → List ℕ → List ℕ
entered names [] = names
entered names (a ∷ l) = entered (store names a a) l

-- Whether all of them have places, and what is left if they do.
pub record Entering (names l names' : List ℕ) (r : Bool) : Type 0 where
  pub fit : r ≡ every (fits_in (length names)) l
  pub left : r ≡ true → names' ≡ entered names l

-- the three sets of atoms counted (0 is no atom, and counts with the labels), and the first atom of each
abbrev pub set_number : Atom → ℕ
set_number (Value v) = 0
set_number (Variable x) = 1
set_number (Label k) = 2
set_number None = 2

unfoldable pub set_of : ℕ → ℕ
set_of a = set_number (class_of a)

unfoldable pub least_of : ℕ → ℕ
least_of zero = 1
least_of (suc zero) = first_variable
least_of (suc (suc k)) = first_label

-- r is the first atom from `from` on that has no name, or the last of all.
pub record NextFree (names : List ℕ) (from r : ℕ) : Type 0 where
  pub past : from ≤ r
  pub used : (a : ℕ) → from ≤ a → a < r → named names a ≢ 0
  pub free : r < 65535 → named names r ≡ 0

-- The names are the atoms `taken`: each is entered under itself, and no other is.
pub record Marks (names taken : List ℕ) : Type 0 where
  pub room : length names ≤ 65536
  pub entry : (a : ℕ) → named names a ≡ cond (member a taken) a 0

-- The names while the atoms `taken` occur, and for each set an atom of it below which all are taken.
pub record Taking (names next taken : List ℕ) : Type 0 where
  pub room : length names ≤ 65536
  pub sets : length next ≡ 3
  pub none : named names 0 ≡ 0
  pub used : (a : ℕ) → member a taken ≡ true → named names a ≢ 0
  pub free : (a : ℕ) → member a taken ≡ false → named names a ≡ 0
  pub from : (k : ℕ) → k < 3 → least_of k ≤ get_or next k 0
  pub passed : (k : ℕ) → k < 3 → (a : ℕ) → least_of k ≤ a → a < get_or next k 0 → member a taken ≡ true

-- A new atom of d's set is wanted, and few enough are taken that there is one, and a place for it.
pub record Wanting (names next taken : List ℕ) (d : ℕ) : Type 0 where
  pub taking : Taking names next taken
  pub few : 4 * length taken + 8 < length names
  pub right : atom d ≡ true

pub record AtomWanted (names next : List ℕ) (d : ℕ) : Type 0 where
  pub taken : List ℕ
  pub wanting : Wanting names next taken d

-- It is r, the smallest atom of the set that is not taken, and this is then taken.
pub record NewAtom (names next : List ℕ) (d : ℕ) (names' next' : List ℕ) (r : ℕ) (taken : List ℕ) : Type 0 where
  pub is : r ≡ fresh taken d
  pub entered : names' ≡ store names r r
  pub taking : Taking names' next' (r ∷ taken)

-- A body stands at places `from` to `to` (not included) of s. It delimits no atom twice, its atoms are among those that the names mark, and few enough are marked.
pub record Marking (s : List ℕ) (from to : ℕ) (names : List ℕ) (body : Term) (taken : List ℕ) : Type 0 where
  pub stands : StandsIn s (16 * from) body
  pub right : Right body
  pub unique : (a : ℕ) → counts a body ≤ 1
  pub end : to ≡ from + size body
  pub marks : Marks names taken
  pub known : (a : ℕ) → member a taken ≡ true → atom a ≡ true
  pub among : (a : ℕ) → member a (atoms body) ≡ true → member a taken ≡ true
  pub few : 4 * (length taken + size body) + 8 < length names

-- (`fits` follows; it is here for `omega`.)
pub record Marked (s : List ℕ) (from to : ℕ) (names : List ℕ) : Type 0 where
  pub body : Term
  pub taken : List ℕ
  pub marking : Marking s from to names body taken
  pub fits : 16 * to ≤ length s

-- The names are those of the atoms in a copy of the body.
pub record Chosen (taken : List ℕ) (body : Term) (names : List ℕ) : Type 0 where
  pub none : named names 0 ≡ 0
  pub new : (a : ℕ) → member a taken ≡ true → named names a ≡ image (renaming taken (binders body)) a

-- The table s, within the limits, has a part at places `from` to `to` (not included), which is to be copied. (`ordered` and `fits` follow; they are here for `omega`.)
pub record Body (s : List ℕ) (from to : ℕ) : Type 0 where
  pub term : Term
  pub holds : Holds s term
  pub unique : (a : ℕ) → counts a term ≤ 1
  pub small : size term ≤ max_records
  pub inside : from < size term
  pub end : to ≡ from + size (sub term from)
  pub ordered : from ≤ to
  pub fits : 16 * to ≤ length s

-- Names that are cleared, enough of them for a table of so many records: six atoms in each, and a new one.
pub record Blank (records : ℕ) (names : List ℕ) : Type 0 where
  pub clear : names ≡ replicate (length names) 0
  pub room : length names ≤ 65536
  pub enough : 28 * records + 8 < length names

-- Whether the copy of the body at place `from` of s is written at byte `at` of d, which is then e; if it is not, d stays.
pub record Copied (s : List ℕ) (from : ℕ) (d : List ℕ) (at : ℕ) (e : List ℕ) (r : Bool) : Type 0 where
  pub written : r ≡ true → (t : Term) → Holds s t → e ≡ put d at (encode (copy t (sub t from)))
  pub kept : r ≡ false → e ≡ d
