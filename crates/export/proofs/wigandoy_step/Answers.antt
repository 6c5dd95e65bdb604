use mathlib.Core.Path.{sym, ap, subst, ◌∙◌}
use native.Mathlib.Omega.{arith}
use Rattle.tables.proofs.Judging.{slice_bytes}
use Rattle.export.specs.Packing.{Fits, packed}
use Rattle.export.proofs.Fits.{step_fits}
use Rattle.export.proofs.wigandoy_step.Goals as goal

pub pack-requires : goal.pack-requires
pack-requires c = let a = c.args in
    subst Fits (sym c.step.ensures.0.replies)
    (step_fits _ _ _ (slice_bytes a.table.now (λ i. omega (arith, c.shared_slice_known-1.given i))) (λ i. omega (arith, c.shared_slice_known-2-1.given i)))

pub returns : goal.returns
returns c = let s = c.step.ensures.0 in record { replies = c.pack.ensures ∙ ap packed s.replies; output = s.output }
