-- The places before r are counted.
use mathlib.Core.Path.{◌≡◌, subst}
use native.Mathlib.Omega.{arith}
use Rattle.cows.specs.Terms.{size}
use Rattle.ways.proofs.KnownTables.{table_size}
use Rattle.rivals.proofs.Counted.{Counted, counted_start, counted_on, counted-end}
use Rattle.rivals.proofs.find_fewest.Goals as goal

pub loop-r-init : goal.loop-r-init
loop-r-init c t h k z = counted_start t _ z

pub loop-r-preserved : goal.loop-r-preserved
loop-r-preserved c t h k z = counted_on t _ _ _ (c.loop-r.invariant t h k z) (c.lower.ensures t h.holds k)

pub returns : goal.returns
returns c t h k z = let l = c.loop-r in
    let q : l.r ≡ size t = omega (arith, table_size _ _ t h) in
    counted-end t _ (subst (Counted t _) q (l.invariant t h k z))
