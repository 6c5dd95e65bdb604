use mathlib.Core.Path.{◌≡◌}
use lib.ListN.{length}
use Rattle.cows.specs.Terms.{Term}
use Rattle.records.specs.Holds.{Holds}
use Rattle.scopes.specs.Scopes.{Keeps, GrowingDirectory, entered_of}
use Rattle.scopes.proofs.enter_all.Given as goal

abbrev pub invariant-loop-d : goal.invariant-loop-d
invariant-loop-d l = (length l.pages ≡ length l.initial.pages)
    × (length l.marks ≡ length l.initial.marks)
    × GrowingDirectory l.pages l.marks l.top
    × ((t : Term) → Holds l.s t → Keeps l.pages l.marks (entered_of t l.d))
