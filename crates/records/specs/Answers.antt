-- A place that may be missing: as the code answers it, and as a number.
use Rattle.std.specs.Prelude.{ℕ, Option, Some, None}
use mathlib.Core.Option.{none, some}
use mathlib.Core.Option as meaning

-- a place that may be missing, as the code answers it
abbrev pub found_of : meaning.Option ℕ → Option ℕ
found_of none = None
found_of (some p) = Some p

-- a place, or n
abbrev pub place_or : ℕ → meaning.Option ℕ → ℕ
place_or n none = n
place_or n (some p) = p
