use Rattle.lister.proofs.assign.Goals as goal

pub returns : goal.returns
returns c t h b = c.dismiss_deep.ensures t h (c.assign_live.ensures t h (c.assign_ready.ensures t h b))
