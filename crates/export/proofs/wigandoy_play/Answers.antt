use mathlib.Core.Path.{sym, ap, subst, ◌∙◌}
use native.Mathlib.Omega.{arith}
use Rattle.tables.proofs.Judging.{slice_bytes}
use Rattle.export.specs.Packing.{Fits, packed, four_counts}
use Rattle.export.proofs.Fits.{play_fits}
use Rattle.export.proofs.wigandoy_play.Goals as goal

pub pack-requires : goal.pack-requires
pack-requires c = subst Fits (sym c.play-played.ensures.0.replied) (play_fits _ _ _ _ (slice_bytes c.args.table.now (λ i. omega (arith, c.shared_slice_known-1.given i))))

pub returns : goal.returns
returns c = let p = c.play-played.ensures.0 in
    record { replied = c.pack.ensures ∙ ap packed p.replied; tallied = c.four_counts.ensures ∙ ap four_counts p.tallied; output = p.output; slots_are = p.slots_are }
