use native.Mathlib.Omega.{arith}
use Rattle.index.proofs.Entries.{cleared}
use Rattle.tables.proofs.quick.few_right.Goals as goal

pub scoped-requires : goal.scoped-requires
scoped-requires g c = (c.requires.whole.0, c.in-Some.ensures.2, cleared _ _ _ c.requires.slots.2 (omega arith))
