use Rattle.index.proofs.Bounds.{three-fine}
use Rattle.index.proofs.Index.faults.Goals as goal

pub returns : goal.returns
returns c e = let a = c.args in
    let x = a.self.now in
    three-fine a.s.now x.slots.now x.shift x.mask a.k a.at _ _ _ _ _ _ c.word_at.ensures c.word_at-2.ensures c.word_at-3.ensures c.use_fault.ensures c.use_fault-2.ensures c.use_fault-3.ensures e
