use mathlib.Core.Path.{◌∙◌}
use Rattle.records.proofs.Put.{put_range, range_bytes}
use Rattle.records.proofs.copying.copy_record.Goals as goal

pub returns : goal.returns
returns c = let z = c.args in
    let (e, l) = range_bytes z.src.now z.from 16 c.requires.0 in
    put_range _ _ 16 _ _ c.requires.1 l (c.copy_from_slice-2.ensures.after ∙ (c.copy_from_slice.ensures.after ∙ e))
