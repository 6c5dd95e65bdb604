use mathlib.Core.Path.{sym, ap, ◌∙◌}
use Rattle.cows.specs.Run.{adds}
use Rattle.cows.proofs.Basics.{same_some}
use Rattle.proposals.specs.Proposals.{read_as}
use Rattle.tally.specs.Counted.{tally_of}
use Rattle.tally.proofs.counts.Goals as goal

pub returns-in-Some : goal.returns-in-Some
returns-in-Some c v e = c.counts_of.ensures ∙ ap (λ x. tally_of (adds c.args.load x)) (same_some (sym (ap read_as c.in-Some.is) ∙ e))

pub returns-in-None : goal.returns-in-None
returns-in-None c v e = let z = sym (ap read_as c.in-None.is) ∙ e in absurd cc
