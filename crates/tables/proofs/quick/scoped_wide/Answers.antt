use native.Mathlib.Omega.{arith}
use Rattle.index.proofs.Entries.{cleared}
use Rattle.tables.proofs.quick.scoped_wide.Goals as goal

pub scoped-requires : goal.scoped-requires
scoped-requires c = let x = c.requires in (x.0, x.1, cleared 8192 _ _ x.2 (omega arith))
