use native.Mathlib.Omega.{arith}
use Rattle.tables.proofs.Judging.{slice_bytes}
use Rattle.lister.proofs.Claims.{claims}
use Rattle.lister.proofs.open.Goals as goal

pub returns-then-table-le4096 : goal.returns-then-table-le4096
returns-then-table-le4096 c = let o = c.open_within.ensures in
    (o, claims _ _ _ _ (slice_bytes c.args.table.now (λ i. omega (arith, c.shared_slice_known-1.given i))) o)

pub returns : goal.returns
returns c = let o = c.open_within-2.ensures in
    (o, claims _ _ _ _ (slice_bytes c.args.table.now (λ i. omega (arith, c.shared_slice_known-1.given i))) o)
