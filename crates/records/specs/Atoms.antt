-- Which atom a number is: 0 is none; 1 to 32,767 are values, 32,768 to 49,151 variables, 49,152 to 65,535 labels (01, Records).
-- And what stands for an atom when a variable takes a value.
use Rattle.std.specs.Prelude.{ℕ, ◌+◌, Bool, true, false, cond, not, ◌||◌, List, ltb, eqb}
use Rattle.cows.specs.Limits.{first_label, first_variable}
use Rattle.cows.specs.Terms.{variable}
use Rattle.cows.specs.Format.{word}
use Rattle.records.specs.declared.Variable as variables
use Rattle.records.specs.declared.Atom.{Atom}
use Rattle.records.specs.declared.Atom.TheVariants.{None, Value, Variable, Label}
use Rattle.records.specs.declared.Binding.{Binding}
use Rattle.std.specs.Prelude as rust
use Rattle.std.specs.Prelude.{Some}

unfoldable pub class_of : ℕ → Atom
class_of n =
    cond (eqb n 0) None
    (cond (ltb n first_variable) (Value (record { 0 = n }))
    (cond (ltb n first_label) (Variable (record { 0 = n })) (Label (record { 0 = n }))))

-- the number of an atom: that of class_of n is n
abbrev pub number_of : Atom → ℕ
number_of None = 0
number_of (Value v) = v.0
number_of (Variable x) = x.0
number_of (Label k) = k.0

abbrev pub is_variable : Atom → Bool
is_variable None = false
is_variable (Value v) = false
is_variable (Variable x) = true
is_variable (Label k) = false

-- whether none of the six atoms of the record at byte k is a variable
unfoldable pub closed_at : List ℕ → ℕ → Bool
closed_at s k =
    not
    (variable (word s (k + 2)) || (variable (word s (k + 4)) || (variable (word s (k + 6)) || (variable (word s (k + 8)) || (variable (word s (k + 10)) || variable (word s (k + 12)))))))

-- A variable takes a value, or nothing is taken: whether x is the variable; what stands for x, or else another atom.
abbrev pub takes_variable : rust.Option Binding → variables.Variable → Bool
takes_variable (Some b) x = eqb x.0 b.variable.0
takes_variable rust.None x = false

abbrev pub image_of : rust.Option Binding → variables.Variable → Atom → Atom
image_of (Some b) x a = cond (eqb x.0 b.variable.0) (Value b.value) a
image_of rust.None x a = a
