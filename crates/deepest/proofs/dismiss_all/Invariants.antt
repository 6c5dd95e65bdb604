use mathlib.Core.Path.{◌≡◌}
use lib.ListN.{length}
use Rattle.cows.specs.Limits.{max_records}
use Rattle.cows.specs.Terms.{Term}
use Rattle.ways.specs.TermOf.{TermOf}
use Rattle.deepest.specs.Deepest.{Told}
use Rattle.deepest.proofs.Casting.{Roles, Casting}
use Rattle.deepest.proofs.dismiss_all.Given as goal

abbrev pub invariant-loop-i : goal.invariant-loop-i
invariant-loop-i l = (length l.levels ≡ max_records) × (length l.sides ≡ max_records) × Told l.table.bytes.now l.table.ends.now l.levels l.sides l.i
    × ((t : Term) → TermOf l.table t → Roles t l.initial.cast → Casting t l.cast l.i)
