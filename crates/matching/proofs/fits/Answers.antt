use mathlib.Core.Path.{◌∙◌}
use Rattle.matching.proofs.Matches.{closed_ends}
use Rattle.matching.proofs.fits.Goals as goal

pub returns : goal.returns
returns c q m h k = c.compare.ensures q m h k (c.closed.ensures ∙ closed_ends _ _ m k)
