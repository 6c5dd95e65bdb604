-- One number: written where l is less, else left.
use mathlib.Core.Path.{◌∙◌}
use native.Mathlib.Omega.{arith}
use lib.Seq.{get_or-set_same, get_or-set_other}
use Rattle.rivals.proofs.put_fewer.Goals as goal

pub returns-then-l-from : goal.returns-then-l-from
returns-then-l-from c = let a = c.args in record { here = get_or-set_same a.fewest.now a.b a.l 0 c.requires ∙ omega arith; others = λ j n. get_or-set_other a.fewest.now a.b j a.l 0 n }
