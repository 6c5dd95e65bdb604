use mathlib.Core.Path.{sym}
use Rattle.cows.proofs.Basics.{never}
use Rattle.records.proofs.Atoms.{no_label}
use Rattle.holding.proofs.Around.{no-delimitation, other_delimitation}
use Rattle.holding.proofs.labels.delimits_label.Goals as goal

pub returns-then-s-p-ne-DELIMITATION : goal.returns-then-s-p-ne-DELIMITATION
returns-then-s-p-ne-DELIMITATION c e t h l k v = no-delimitation _ t _ h l k v c.if-s-p-ne-DELIMITATION.true

pub returns-in_default : goal.returns-in_default
returns-in_default c e t h l k v = other_delimitation _ t _ h l k v (no_label _ (rw c.atom_at.ensures at c.in_default.not-Label))

pub returns : goal.returns
returns c e t h l k v = never (sym e)
