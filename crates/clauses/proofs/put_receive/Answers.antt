use mathlib.Core.List.{flat_map}
use Rattle.cows.specs.Format.{bytes2, layout, record16}
use Rattle.clauses.proofs.put_receive.Goals as goal

pub returns : goal.returns
unfolding record16 layout bytes2 flat_map
returns c = c.put_fields.ensures
