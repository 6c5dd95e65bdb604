use native.Mathlib.Omega.{arith}
use Rattle.clauses.proofs.Records.{record_last, record_then}
use Rattle.clauses.proofs.put_sequence_middle.Goals as goal

pub returns : goal.returns
returns c = record_then _ _ _ c.put_replication.ensures _ _ (omega arith)
    (record_then _ _ _ c.put_delimitation.ensures _ _ (omega arith)
    (record_last _ _ _ c.put_receive.ensures))
