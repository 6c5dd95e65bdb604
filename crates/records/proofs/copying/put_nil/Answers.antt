use mathlib.Core.Path.{refl}
use native.Mathlib.Omega.{arith}
use Rattle.cows.specs.Format.{record16, layout, bytes2}
use Rattle.records.proofs.Put.{put_range, range_bytes}
use Rattle.records.proofs.copying.put_nil.Goals as goal

pub returns : goal.returns
unfolding record16 layout bytes2
returns c = let (e, l) = range_bytes c.args.dst.now c.args.to 16 (omega arith) in
    put_range _ _ 16 _ _ (omega arith) refl (rw (e, l) at (c.fill.ensures.after (λ y h. h)))
