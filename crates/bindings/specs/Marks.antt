-- The marks of the variables while a script is read, and what reading an expression with them says.
use Rattle.std.specs.Prelude.{Result, Ok, Err, ◌≡◌, Bool, true, false, not, ◌&&◌, List, ◌++◌, ℕ, ◌+◌, ◌*◌, ◌-◌, ◌<◌, ◌≤◌, eqb, length, get_or}
use mathlib.Core.Option.{none, some}
use Rattle.cows.specs.Limits.{first_variable}
use Rattle.cows.specs.Basics.{member}
use Rattle.cows.specs.Terms.{variable}
use Rattle.cows.specs.Format.{word}
use Rattle.orc.specs.Expressions.{Orc, records_in, bound_in, RightOrc}
use Rattle.orc.specs.Scripts.{misbound}
use Rattle.scripts.specs.Standing.{ScriptAt}
use Rattle.bindings.specs.declared.Mark.{Mark}
use Rattle.bindings.specs.declared.Mark.TheVariants.{Unseen, Seen, Open}

-- the mark of a variable, by whether its scope is around and whether an earlier record binds it
abbrev pub binding_mark : (around seen : Bool) → Mark
binding_mark true s = Open
binding_mark false true = Seen
binding_mark false false = Unseen

abbrev pub is_open : Mark → Bool
is_open Unseen = false
is_open Seen = false
is_open Open = true

-- The marks are those of the variables whose scope is around (E) and those that earlier records bind (`seen`); the former are among the latter.
pub record MarkedFor (marks : List Mark) (E : ℕ → Bool) (seen : List ℕ) : Type 0 where
  pub is : (i : ℕ) → i < 16384 → get_or marks i Unseen ≡ binding_mark (E (first_variable + i)) (member (first_variable + i) seen)
  pub bound : (a : ℕ) → E a ≡ true → member a seen ≡ true

-- the record at place n is a call whose parameter is a variable that is not marked as open
abbrev pub uses_outside : (s : List ℕ) (n : ℕ) (marks : List Mark) → Bool
uses_outside s n marks =
    eqb (get_or s (8 * n) 0) 1 && variable (word s (8 * n + 2)) && not (is_open (get_or marks (word s (8 * n + 2) - first_variable) Unseen))

-- What reading asks: a right expression stands at place n, and there is a mark for each variable. `inside` follows; it is here for `omega`.
pub record Scannable (s : List ℕ) (n : ℕ) (marks : List Mark) : Type 0 where
  pub expression : Orc
  pub stands : ScriptAt s n expression
  pub right : RightOrc expression
  pub all : length marks ≡ 16384
  pub inside : 8 * n + 8 ≤ length s

-- What reading gives: the place behind the expression, and the marks with its variables bound; or the place of its first fault.
abbrev pub ScannedTo : (s : List ℕ) (n : ℕ) (marks after : List Mark) → Result ℕ ℕ → Type 0
ScannedTo s n marks after (Ok m) =
    (n < m)
    × ((e : Orc) → ScriptAt s n e → m ≡ n + records_in e)
    × ((e : Orc) (E : ℕ → Bool) (seen : List ℕ) → ScriptAt s n e → RightOrc e → MarkedFor marks E seen → (misbound E seen n e ≡ none) × MarkedFor after E (bound_in e ++ seen))
ScannedTo s n marks after (Err p) = (e : Orc) (E : ℕ → Bool) (seen : List ℕ) → ScriptAt s n e → RightOrc e → MarkedFor marks E seen → misbound E seen n e ≡ some p

pub record Scanned (s : List ℕ) (n : ℕ) (marks after : List Mark) (r : Result ℕ ℕ) : Type 0 where
  pub all : length after ≡ 16384
  pub to : ScannedTo s n marks after r
