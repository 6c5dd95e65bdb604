use native.Mathlib.Omega.{arith}
use Rattle.ways.proofs.KnownTables.{known_of, table_inside}
use Rattle.communicate.proofs.Outside.{over_itself, outers_start, outers_turn, outers_end}
use Rattle.communicate.proofs.outermost.Goals as goal

pub loop-binding-init : goal.loop-binding-init
loop-binding-init c t z = outers_start c.args.taken.now (over_itself t _ (table_inside _ _ t z _ c.requires))

pub loop-binding-preserved : goal.loop-binding-preserved
loop-binding-preserved c t z = let o = c.loop-binding.invariant t z in outers_turn _ _ (omega (arith, c.told-taken)) o (c.outer-p.ensures t z o.over)

pub returns : goal.returns
returns c t z = outers_end _ _ (omega (arith, c.told-taken)) (c.loop-binding.invariant t z)
