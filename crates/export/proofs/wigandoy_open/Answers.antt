use mathlib.Core.Path.{sym, ap, subst, ◌∙◌}
use native.Mathlib.Omega.{arith}
use Rattle.tables.proofs.Judging.{slice_bytes}
use Rattle.export.specs.Packing.{Fits, packed}
use Rattle.export.proofs.Fits.{open_fits}
use Rattle.export.proofs.wigandoy_open.Goals as goal

pub pack-requires : goal.pack-requires
pack-requires c = subst Fits (sym c.open.ensures.0.replies) (open_fits _ _ (slice_bytes c.args.table.now (λ i. omega (arith, c.shared_slice_known-1.given i))))

pub returns : goal.returns
returns c = let o = c.open.ensures.0 in record { replies = c.pack.ensures ∙ ap packed o.replies; output = o.output }
