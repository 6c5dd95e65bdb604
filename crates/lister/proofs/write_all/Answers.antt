use mathlib.Core.Path.{ap}
use Rattle.lister.proofs.Listing.{answered_fully}
use Rattle.lister.proofs.write_all.Goals as goal

pub returns : goal.returns
returns c t h = let e = c.put_all.ensures t h in rw c.accepted.ensures (answered_fully t _ _ _ (c.requires.1 t h) (ap (λ n. record { answer = 0; place = 0; records = n }) e.0) e.1)
