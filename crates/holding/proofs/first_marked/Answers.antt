use mathlib.Core.Path.{◌≡◌, sym, ◌∙◌}
use mathlib.Core.Option.{Option, none, some}
use Prim.Native.Nat.{ℕ}
use Rattle.cows.specs.Basics.{or_else}
use Rattle.records.specs.Answers.{found_of}
use Rattle.records.proofs.Laws.{found_at, found_nothing}
use Rattle.holding.proofs.first_marked.Goals as goal

-- the first of two places, where the first is there and where it is not
first-there : (p q : Option ℕ) (n : ℕ) → p ≡ some n → found_of (some n) ≡ found_of (or_else p q)
unfolding or_else
first-there p q n e = rw e

second-there : (p q : Option ℕ) → p ≡ none → found_of q ≡ found_of (or_else p q)
unfolding or_else
second-there p q e = rw e

pub returns-in-Some : goal.returns-in-Some
returns-in-Some c t h m va vb = first-there _ _ _ (found_at _ _ (sym c.in-Some.is ∙ c.marked_around.ensures t h m va))

pub returns : goal.returns
returns c t h m va vb = c.marked_around-2.ensures t h m vb ∙ second-there _ _ (found_nothing _ (sym c.in_default.is ∙ c.marked_around.ensures t h m va))
