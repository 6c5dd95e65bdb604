use Rattle.rows.proofs.Checks.{slot_code}
use Rattle.rows.proofs.slot_right.Goals as goal

pub returns : goal.returns
returns c = slot_code c.args.n c.args.j c.args.a
