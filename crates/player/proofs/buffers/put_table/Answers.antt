use native.Mathlib.Omega.{arith}
use Rattle.player.proofs.Writing.{table_put}
use Rattle.player.proofs.buffers.put_table.Goals as goal

pub returns : goal.returns
returns c = let z = c.args in
    table_put z.from.now z.out.now z.n (omega arith) (omega arith) (omega arith) c.copy.ensures c.put_zeros.ensures
