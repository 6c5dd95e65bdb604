use Rattle.std.proofs.Common.{rules, tests}
use Rattle.std.proofs.lemmas.Iterator.{YieldsList-from_slice}
use Rattle.std.proofs.lemmas.Iterator.Search.{any_from_yields_List}
use Rattle.records.specs.Atoms.{takes_variable}
use Rattle.renaming.proofs.binding.Bindings.takes.Goals as goal

pub returns-in-Variable : goal.returns-in-Variable
returns-in-Variable c = rw c.in-Variable.is
    (any_from_yields_List (λ t. takes_variable t c.in-Variable.x) _ _ _ c.any.ensures.ran (YieldsList-from_slice c.args.self.now.0 cc) (λ x b q k. search (rules, tests)))
