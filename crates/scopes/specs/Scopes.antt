-- The pass over the scopes: what it answers, the directory of the atoms that a table delimits, and how bad a use is.
use Rattle.std.specs.Prelude.{◌≡◌, Bool, true, cond, not, ◌&&◌, List, [], ◌∷◌, ℕ, suc, ◌+◌, ◌*◌, ◌/◌, ◌%◌, ◌<◌, ◌≤◌, ltb, leb, eqb, length, get_or}
use Rattle.std.specs.Prelude as rust
use Rattle.std.specs.Prelude.{Ok, Err, Some}
use mathlib.Core.Option.{Option, none, some}
use Rattle.cows.specs.Limits.{first_variable, max_records}
use Rattle.cows.specs.Basics.{member, one_if}
use Rattle.cows.specs.Terms.{Term, size, value, atom, bindable, binders}
use Rattle.cows.specs.Places.{way_to, sub, enclosed}
use Rattle.cows.specs.Format.{byte, word}
use Rattle.cows.specs.Records.{reach_of}
use Rattle.records.specs.Holds.{Holds}
use Rattle.scopes.specs.declared.ScopeFault.{ScopeFault}
use Rattle.scopes.specs.declared.ScopeFault.TheVariants.{Open, Clash}
use Rattle.scopes.specs.declared.Level.{Level}
use Rattle.scopes.specs.declared.Level.TheVariants.{Fine, Escaped, Unbound}

-- refusal 6 if there is one, else refusal 7
abbrev pub scoping_of : Option ℕ → Option ℕ → rust.Result Unit ScopeFault
scoping_of (some p) q = Err (Open p)
scoping_of none (some p) = Err (Clash p)
scoping_of none none = Ok tt

-- Where the directory keeps an atom: its page's start, 0 if the page is not given out, and its place in the page.
abbrev pub directory_slot : List ℕ → ℕ → ℕ
directory_slot pages a = get_or pages (a / 256) 0 + a % 256

-- Every atom has a slot; one in a page that is given out has it for itself.
pub record Paged (pages marks : List ℕ) : Type 0 where
  pub wide : length pages ≡ 256
  pub inside : (a : ℕ) → a < 65536 → directory_slot pages a < length marks
  pub apart : (a b : ℕ) → a < 65536 → b < 65536 → 0 < get_or pages (a / 256) 0 → directory_slot pages a ≡ directory_slot pages b → a ≡ b

-- The directory keeps the number f a for each atom a; for those in pages that are not given out that is 0.
pub record Keeps (pages marks : List ℕ) (f : ℕ → ℕ) : Type 0 where
  pub kept : (a : ℕ) → a < 65536 → get_or marks (directory_slot pages a) 0 ≡ f a
  pub empty : (a : ℕ) → a < 65536 → get_or pages (a / 256) 0 ≡ 0 → f a ≡ 0

-- how many pages are given out
unfoldable pub given : List ℕ → ℕ
given [] = 0
given (p ∷ ps) = one_if (ltb 0 p) + given ps

-- Pages are given out from 256 on; behind the last of them, from `top` on, all is empty.
pub record GrowingDirectory (pages marks : List ℕ) (top : ℕ) : Type 0 where
  pub paged : Paged pages marks
  pub fits : top ≤ length marks
  pub count : top ≡ 256 * suc (given pages)
  pub below : (a : ℕ) → a < 65536 → directory_slot pages a < top
  pub fresh : (i : ℕ) → top ≤ i → get_or marks i 0 ≡ 0

pub record BlankDirectory (pages marks : List ℕ) : Type 0 where
  pub wide : length pages ≡ 256
  pub room : 256 ≤ length marks
  pub none : (i : ℕ) → get_or pages i 0 ≡ 0
  pub fresh : (i : ℕ) → get_or marks i 0 ≡ 0

-- The page of a is there, or there was no room for it: then there are not 65,792 marks.
pub record PageGiven (pages out marks : List ℕ) (a : ℕ) (answer : rust.Option ℕ) : Type 0 where
  pub grows : (top : ℕ) → answer ≡ Some top → GrowingDirectory out marks top × (0 < get_or out (a / 256) 0)
  pub keeps : (top : ℕ) → answer ≡ Some top → (f : ℕ → ℕ) → Keeps pages marks f → Keeps out marks f
  pub full : answer ≡ rust.None → length marks < 65792
  pub paged : Paged out marks

-- Before the pass, once the places below d are entered: 1 for the atoms delimited there. In the pass, before place j: 0 for an atom that the term
-- does not delimit, else one more than the farthest end of a delimitation of it below j (0 if there is none).
unfoldable pub entered_of : Term → ℕ → ℕ → ℕ
entered_of t d a = one_if (ltb 0 (reach_of t a d))

unfoldable pub mark_of : Term → ℕ → ℕ → ℕ
mark_of t j a = cond (member a (binders t)) (suc (reach_of t a j)) 0

-- every atom is entered, if the answer is true; it is, with 65,792 marks
pub record AllEntered (s pages marks : List ℕ) (r : Bool) : Type 0 where
  pub paged : Paged pages marks
  pub keeps : r ≡ true → (t : Term) → Holds s t → Keeps pages marks (mark_of t 0)
  pub all : 65792 ≤ length marks → r ≡ true

-- the bytes s are the table of t, and the directory is that of place j
pub record PassedTo (s pages marks : List ℕ) (j : ℕ) (t : Term) : Type 0 where
  pub holds : Holds s t
  pub keeps : Keeps pages marks (mark_of t j)

-- the ends of terms, for every table that holds one
pub record EndsOf (s ends : List ℕ) : Type 0 where
  pub few : length s / 16 ≤ max_records
  pub room : length s / 16 ≤ length ends
  pub small : (j : ℕ) → j < length s / 16 → get_or ends j 0 < 65535
  pub right : (t : Term) → Holds s t → (j : ℕ) → j < size t → get_or ends j 0 ≡ j + size (sub t j)

-- How bad uses are: unbound if one is of a variable or a label outside its delimitations, else escaped if one is of a delimited value outside, else fine.
unfoldable pub level : Bool → Bool → Level
level p q = cond p Unbound (cond q Escaped Fine)

abbrev pub open_use : Term → ℕ → ℕ → Bool
open_use t j a = bindable a && not (enclosed a (way_to t j))

abbrev pub strays : Term → ℕ → ℕ → Bool
strays t j a = (value a && member a (binders t)) && not (enclosed a (way_to t j))

-- the same for one atom, by its mark v
unfoldable pub fault_by : ℕ → ℕ → ℕ → Level
fault_by v a j = cond (ltb (j + 1) v) Fine (cond (leb first_variable a) Unbound (cond (eqb v 0) Fine Escaped))

-- by the directory, each atom is as bad at place j as p and q say
pub record Levels (pages marks : List ℕ) (j : ℕ) (p q : ℕ → Bool) : Type 0 where
  pub at : (a : ℕ) → atom a ≡ true → fault_by (get_or marks (directory_slot pages a) 0) a j ≡ level (p a) (q a)

-- the record at place j has the tuple ws
pub record TupleAt (s : List ℕ) (j : ℕ) (ws : List ℕ) : Type 0 where
  pub few : length ws ≤ 4
  pub count : byte s (16 * j + 1) ≡ length ws
  pub slot : (i : ℕ) → i < 4 → word s (16 * j + 6 + 2 * i) ≡ get_or ws i 0
