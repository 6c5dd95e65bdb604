use Rattle.player.proofs.refused.Goals as goal

pub returns : goal.returns
returns c = rw (c.refusal.ensures, c.default.ensures)
