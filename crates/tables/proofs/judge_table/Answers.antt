use native.Mathlib.Omega.{arith}
use Rattle.cows.specs.Tables.{wrong_length}
use Rattle.tables.proofs.Judging.{judge-length}
use Rattle.tables.proofs.judge_table.Goals as goal

pub returns-then-n : goal.returns-then-n
unfolding wrong_length
returns-then-n c = record { reply = judge-length _ c.if-n.true; end = λ e. absurd (omega arith) }
