-- What reading a script by recursion says, a record and then its parts: 31 as one scan.
use Rattle.std.specs.Prelude.{Result, Ok, Err, ◌≡◌, cond, List, [], ◌∷◌, ◌++◌, ℕ, suc, ◌/◌, ◌≤◌, ◌<◌, ltb, length, drop, replicate}
use mathlib.Core.Option.{Option, none, some}
use Rattle.orc.specs.Expressions.{max_nesting}
use Rattle.orc.specs.Scripts.{OrcNode, parts, nodes_of}

-- Expressions of the depths ds are still to come at place n, and the first record over, missing or too deep is the place.
unfoldable pub scan : List ℕ → ℕ → List OrcNode → Option ℕ
scan [] n [] = none
scan [] n (r ∷ rs) = some n
scan (d ∷ ds) n [] = some n
scan (d ∷ ds) n (r ∷ rs) = cond (ltb max_nesting d) (some n) (scan (replicate (parts r) (suc d) ++ ds) (suc n) rs)

-- The expression of depth d at place n ends before place m, or has a fault at place p; what is to come behind it does not matter.
abbrev pub NestsTo : List ℕ → (d n : ℕ) → Result ℕ ℕ → Type 0
NestsTo s d n (Ok m) = (n < m) × (m ≤ length s / 8) × ((ds : List ℕ) → scan (d ∷ ds) n (drop n (nodes_of s)) ≡ scan ds m (drop m (nodes_of s)))
NestsTo s d n (Err p) = (ds : List ℕ) → scan (d ∷ ds) n (drop n (nodes_of s)) ≡ some p
