-- What a slot of a receive's pattern takes from the slot of the invoke's tuple at the same index.
use Rattle.std.specs.Prelude.{ℕ}
use Rattle.records.specs.declared.Variable as variables
use Rattle.records.specs.declared.Atom.{Atom}
use Rattle.records.specs.declared.Atom.TheVariants.{None, Value, Variable, Label}
use Rattle.records.specs.declared.Binding.{Binding}
use Rattle.std.specs.Prelude as rust
use Rattle.std.specs.Prelude.{Some}
use Rattle.records.specs.Atoms.{class_of}

-- what the variable x takes: a value
abbrev pub taken : variables.Variable → Atom → rust.Option Binding
taken x None = rust.None
taken x (Value v) = Some (record { variable = x; value = v })
taken x (Variable y) = rust.None
taken x (Label k) = rust.None

-- what an atom of the pattern takes: a value there, or a slot that is not used, takes nothing
abbrev pub takes : Atom → Atom → rust.Option Binding
takes None v = rust.None
takes (Value w) v = rust.None
takes (Variable x) v = taken x v
takes (Label k) v = rust.None

-- the same of two numbers in the slots
unfoldable pub takes_of : ℕ → ℕ → rust.Option Binding
takes_of w v = takes (class_of w) (class_of v)
