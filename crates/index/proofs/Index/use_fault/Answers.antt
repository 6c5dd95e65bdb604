use Rattle.index.proofs.Bounds.{fault_hit, fault_miss}
use Rattle.index.proofs.Index.use_fault.Goals as goal

pub returns-then-e-b : goal.returns-then-e-b
returns-then-e-b c = let a = c.args in fault_hit a.self.now.slots.now _ _ _ _ a.at c.slot.ensures.is c.from-b.ensures c.if-e-b.true

pub returns-else-e-b : goal.returns-else-e-b
returns-else-e-b c = let a = c.args in fault_miss a.self.now.slots.now _ _ _ _ a.at c.slot.ensures.is c.from-b.ensures c.if-e-b.false
