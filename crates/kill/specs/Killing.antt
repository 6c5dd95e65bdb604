-- The scope of a kill: where the delimitation of its label stands.
use mathlib.Core.Option.{Option, none, some}
use Rattle.std.specs.Prelude.{ℕ}
use Rattle.cows.specs.Terms.{Term, kills}
use Rattle.cows.specs.Places.{way_to, sub}
use Rattle.ways.specs.Ways.{scope_of}

-- a number that may be missing, 0 where it is
abbrev pub or_zero : Option ℕ → ℕ
or_zero none = 0
or_zero (some n) = n

-- the place of the [k] around the kill of k at place a
unfoldable pub kill_scope : Term → ℕ → ℕ
kill_scope t a = or_zero (scope_of (or_zero (kills (sub t a))) (way_to t a))
