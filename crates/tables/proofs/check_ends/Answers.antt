use Rattle.tables.proofs.check_ends.Goals as goal

pub returns : goal.returns
returns c = rw c.from.ensures c.judge_table.ensures
