use mathlib.Core.Path.{◌∙◌}
use native.Mathlib.Omega.{arith}
use Rattle.tables.proofs.Judging.{slice_bytes}
use Rattle.stepper.proofs.Stepping.{table_read}
use Rattle.player.proofs.Loading.{load-refused, load_read}
use Rattle.player.proofs.load.Goals as goal

pub returns-then-checked-ne0 : goal.returns-then-checked-ne0
returns-then-checked-ne0 c = load-refused _ _ _ c.check_ends-checked.ensures c.if-checked-ne0.true

pub load_between-load-requires : goal.load_between-load-requires
load_between-load-requires c = omega (arith, (c.check_ends-checked.ensures.end c.if-checked-ne0.false).few)

pub returns : goal.returns
returns c = let q = table_read _ _ _ (slice_bytes c.args.table.now (λ i. omega (arith, c.shared_slice_known-1.given i))) c.check_ends-checked.ensures c.if-checked-ne0.false in
    c.accepted.ensures ∙ load_read _ _ q _ c.load_between-load.ensures.0
