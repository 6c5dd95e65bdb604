-- Every value that the search passes has a mark.
use mathlib.Core.Path.{◌≡◌}
use mathlib.Core.Bool.{true, false}
use borrow.Author.Rules.{rules}
use borrow.Author.Tests.{tests}
use native.Mathlib.Omega.{arith}
use lib.ListN.{get_or}
use Rattle.std.proofs.lemmas.Iterator.{first_from_Range}
use Rattle.spares.proofs.Marks.{Searched, spare_found, next_found}
use Rattle.spares.proofs.next_spare.Goals as goal
use Rattle.spares.proofs.next_spare.Goals.{After-find}

searched : (c : goal.After-find) → Searched c.args.used.now c.args.v c.find.result
searched c = first_from_Range _ _ _ _ (λ n. get_or c.args.used.now n false ≡ false) (λ n. get_or c.args.used.now n false ≡ true) c.find.ensures.ran (λ x q k. search (rules, tests)) (λ x q k. search (rules, tests))

pub unwrap-requires : goal.unwrap-requires
unwrap-requires c = spare_found _ _ (omega (arith, c.well_formed)) c.requires _ (searched c)

pub returns : goal.returns
returns c = next_found _ _ (omega (arith, c.well_formed)) c.requires _ (rw c.unwrap.ensures at (searched (goal.at.returns c).After-find))
