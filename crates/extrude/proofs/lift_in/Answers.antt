use mathlib.Core.Path.{refl}
use Prim.Native.Nat.{◌*◌}
use native.Mathlib.Omega.{arith}
use lib.ListN.{drop, length-drop}
use lib.Seq.{length-take-le}
use Rattle.records.proofs.Put.{put_all}
use Rattle.extrude.proofs.Raising.{raised-lifted}
use Rattle.extrude.proofs.lift_in.Goals as goal

pub returns : goal.returns
returns c = let t = c.args.t.now in
    raised-lifted t c.args.a c.args.p c.requires.0 c.requires.1 c.raise.ensures c.copy-2.ensures
    (put_all _ _ 16 refl (length-take-le 16 (drop (16 * c.args.a) t) (omega (arith, length-drop (16 * c.args.a) t))) c.copy.ensures)
