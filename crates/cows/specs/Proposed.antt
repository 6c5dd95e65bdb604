-- The six moves by name, as they are proposed, and substitutions: what the rules (specs/Allows) and the definitions that compute (specs/Moves) have in common.
use Rattle.std.specs.Prelude.{List, ℕ}

pub data Move : Type 0 where
  Kill : ℕ → Move
  Communicate : ℕ → ℕ → Move
  Timeout : ℕ → Move
  Elapse : ℕ → Move
  Unfold : ℕ → Move
  Extrude : ℕ → Move

-- A substitution is pairs of a variable and the value that it takes.
abbrev pub Substitution : Type 0
Substitution = List (ℕ × ℕ)
