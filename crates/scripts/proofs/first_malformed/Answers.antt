use mathlib.Core.Path.{◌≡◌}
use mathlib.Core.Bool.{true, false}
use borrow.Author.Rules.{rules}
use borrow.Author.Tests.{tests}
use Rattle.std.proofs.lemmas.Iterator.{first_from_Range}
use Rattle.scripts.proofs.First.{right_at, first_found}
use Rattle.scripts.proofs.first_malformed.Goals as goal

pub returns : goal.returns
returns c = let s = c.args.s.now in
    first_found _ _ (first_from_Range _ _ _ _ (λ i. right_at s i ≡ false) (λ i. right_at s i ≡ true) c.find.ensures.ran (λ x q k. search (rules, tests)) (λ x q k. search (rules, tests)))
