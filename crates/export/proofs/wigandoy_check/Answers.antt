use mathlib.Core.Path.{sym, ap, subst, ◌∙◌}
use native.Mathlib.Omega.{arith}
use Rattle.tables.proofs.Judging.{slice_bytes}
use Rattle.export.specs.Packing.{Fits, packed}
use Rattle.export.proofs.Fits.{check_fits}
use Rattle.export.proofs.wigandoy_check.Goals as goal

pub pack-requires : goal.pack-requires
pack-requires c = subst Fits (sym c.check.ensures) (check_fits _ (slice_bytes c.args.table.now (λ i. omega (arith, c.shared_slice_known-1.given i))))

pub returns : goal.returns
returns c = c.pack.ensures ∙ ap packed c.check.ensures
