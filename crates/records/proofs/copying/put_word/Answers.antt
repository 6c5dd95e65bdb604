use mathlib.Core.Path.{◌≡◌, refl, ◌∙◌}
use Prim.Native.Nat.{◌/◌, ◌%◌}
use native.Mathlib.Omega.{arith}
use Rattle.cows.specs.Format.{bytes2}
use Rattle.records.proofs.Put.{put_range}
use Rattle.records.proofs.copying.put_word.Goals as goal

pub returns : goal.returns
unfolding bytes2
returns c = let e : c.args.w / 256 % 256 ≡ c.args.w / 256 = omega arith in
    put_range _ _ 2 _ _ (omega arith) refl (c.copy_from_slice.ensures.after ∙ rw (c.to_le_bytes.ensures, e))
