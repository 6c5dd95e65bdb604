-- A table of too few records, or whose root is not deep enough, keeps its roles.
use native.Mathlib.Omega.{arith}
use Rattle.records.proofs.StandsIn.{whole_stands}
use Rattle.depths.proofs.Deep.{depth-size}
use Rattle.ways.proofs.KnownTables.{table_size}
use Rattle.deepest.proofs.Casting.{shallow_cast}
use Rattle.deepest.proofs.dismiss_deep.Goals as goal

pub returns-then-table-lt-MAX_DEPTH : goal.returns-then-table-lt-MAX_DEPTH
returns-then-table-lt-MAX_DEPTH c t h = shallow_cast t c.args.cast.now (omega (arith, depth-size t, table_size _ _ t h))

pub returns-then-from-lt-MAX_DEPTH : goal.returns-then-from-lt-MAX_DEPTH
returns-then-from-lt-MAX_DEPTH c t h = shallow_cast t c.args.cast.now (omega (arith, c.from.ensures, c.find_heights.ensures 0 (omega arith) t (whole_stands t h.holds.is)))
