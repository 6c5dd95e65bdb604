use native.Mathlib.Omega.{arith}
use Rattle.index.proofs.Entries.{cleared}
use Rattle.tables.proofs.quick.most_right.Goals as goal

pub scoped-requires : goal.scoped-requires
scoped-requires c = (c.requires.0, c.in-Some.ensures.2, cleared 2048 _ _ (omega arith) (omega arith))
