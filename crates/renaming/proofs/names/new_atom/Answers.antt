use native.Mathlib.Omega.{arith}
use Rattle.renaming.proofs.Fresh.{found_small, found-taken}
use Rattle.renaming.proofs.names.new_atom.Goals as goal

pub enter-requires : goal.enter-requires
enter-requires c = (found_small _ _ _ _ _ c.set_of-k.ensures.0 c.next_free-new.ensures c.requires).1

pub overflow_add-next : goal.overflow_add-next
overflow_add-next c = omega (arith, (found_small _ _ _ _ _ c.set_of-k.ensures.0 c.next_free-new.ensures c.requires).0)

pub returns : goal.returns
returns c = rw c.enter.ensures (found-taken _ _ _ _ _ c.set_of-k.ensures.0 c.next_free-new.ensures)
