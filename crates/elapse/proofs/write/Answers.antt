use native.Mathlib.Omega.{arith}
use Rattle.plans.proofs.Planning.{gives}
use Rattle.elapse.proofs.Judged.{room, known_copied, table_copied, gives_elapsed}
use Rattle.elapse.proofs.write.Goals as goal

pub copy-requires : goal.copy-requires
copy-requires c = omega (arith, room _ _ _ _ c.requires)

pub lower_waits-requires : goal.lower_waits-requires
lower_waits-requires c = let q = c.requires in (omega (arith, room _ _ _ _ q), known_copied _ _ _ _ q c.copy.ensures)

pub returns : goal.returns
returns c = let q = c.requires in
    let e = c.copy.ensures in
    gives q (gives_elapsed _ _ _ _ q e (c.lower_waits.ensures q.known.term (table_copied _ _ _ _ q e)))
