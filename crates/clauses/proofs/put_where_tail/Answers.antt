use native.Mathlib.Omega.{arith}
use Rattle.clauses.proofs.Records.{record_last, record_then}
use Rattle.clauses.proofs.put_where_tail.Goals as goal

pub returns : goal.returns
returns c = record_then _ _ _ c.put_receive.ensures _ _ (omega arith)
    (record_last _ _ _ c.put_kill.ensures)
