use native.Mathlib.Omega.{arith}
use Rattle.records.proofs.Picking.{flags_of, picked_small}
use Rattle.records.proofs.ends.end_by.Goals as goal

pub pick_end-requires : goal.pick_end-requires
pick_end-requires c = let a = c.args in let f = c.from-none.ensures in
    rw (c.from-none.ensures, c.from-one.ensures, c.from-two.ensures) ((flags_of a.c c.requires).0, omega (arith, c.from.ensures), omega (arith, c.from-2.ensures), omega (arith, c.from-3.ensures))

pub overflow_cast-result : goal.overflow_cast-result
overflow_cast-result c = let a = c.args in
    omega (
      arith,
      rw (c.from-one.ensures, c.from-two.ensures, (flags_of a.c c.requires).1, c.from.ensures, c.from-2.ensures, c.from-3.ensures) at c.pick_end.ensures,
      picked_small a.c a.x a.a a.b 65535 c.requires (omega arith) (omega arith) (omega arith),
    )

pub returns : goal.returns
returns c = rw (c.from-one.ensures, c.from-two.ensures, (flags_of c.args.c c.requires).1, c.from.ensures, c.from-2.ensures, c.from-3.ensures) at c.pick_end.ensures
