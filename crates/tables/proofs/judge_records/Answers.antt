use Rattle.tables.proofs.Judging.{whole_length, judge_all}
use Rattle.std.specs.Prelude.{Ok}
use Rattle.tables.proofs.judge_records.Goals as goal

pub returns-then-right : goal.returns-then-right
returns-then-right c = let p = c.right.ensures c.if-right.true in
    record { reply = judge_all _ (Ok _) (whole_length _ c.requires.0) p.right p.reply; end = λ e. p.end }
