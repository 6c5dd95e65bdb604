use mathlib.Core.Path.{◌∙◌}
use lib.ListN.{length}
use Rattle.std.proofs.Common.{rules, tests}
use Rattle.std.proofs.lemmas.Iterator.{YieldsList-from_slice}
use Rattle.std.proofs.lemmas.Iterator.Search.{all_from_yields_List}
use Rattle.renaming.specs.Names.{fits_in}
use Rattle.renaming.proofs.Occurring.{every_all}
use Rattle.renaming.proofs.names.all_fit.Goals as goal

pub returns : goal.returns
returns c = all_from_yields_List (fits_in (length c.args.names.now)) _ _ _ c.all.ensures.ran (YieldsList-from_slice c.args.atoms.now cc) (λ x b q k. search (rules, tests)) ∙ every_all _ _
