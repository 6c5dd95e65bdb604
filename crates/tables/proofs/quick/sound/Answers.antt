use native.Mathlib.Omega.{arith}
use Prim.Native.Nat.{◌*◌}
use Rattle.std.proofs.lemmas.Option.{IfSome_then}
use Rattle.ranges.proofs.FieldRanges.{ranged-kind}
use Rattle.tables.proofs.Passing.{shape_sound}
use Rattle.tables.proofs.quick.sound.Goals as goal

pub shape_of-requires : goal.shape_of-requires
shape_of-requires c = let x = c.requires in
    let l = x.1 in
    record {
      few = omega (arith, x.0.short);
      known = λ i k. ranged-kind _ (16 * i) (c.fields_right.ensures c.if-not-fields_right.false i k);
      end = l.ends_room;
      below = l.stack_room;
      mark = l.marks_room;
      user = l.users_room;
    }

pub returns : goal.returns
returns c = let l = c.requires.1 in
    IfSome_then _ c.shape_of.ensures
    (λ h. shape_sound _ _ _ _ (omega (arith, l.marks_room, c.shape_of.auto.marks)) (omega (arith, l.users_room, c.shape_of.auto.users)) (c.fields_right.ensures c.if-not-fields_right.false) h.height h.marks h.users)
