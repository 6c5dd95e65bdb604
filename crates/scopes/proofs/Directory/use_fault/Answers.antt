use borrow.Author.Tests.{lt-ltb, le-ltb, le-leb, lt-leb, eq-eqb, ne_eqb}
use Rattle.scopes.specs.Scopes.{fault_by}
use Rattle.scopes.proofs.Directory.use_fault.Goals as goal

pub returns-then-j-v : goal.returns-then-j-v
unfolding fault_by
returns-then-j-v c = rw (← c.slot_of.ensures, ← c.from-v.ensures, lt-ltb _ _ c.if-j-v.true)

pub returns-then-a-ge-FIRST_VARIABLE : goal.returns-then-a-ge-FIRST_VARIABLE
unfolding fault_by
returns-then-a-ge-FIRST_VARIABLE c = rw (← c.slot_of.ensures, ← c.from-v.ensures, le-ltb _ _ c.if-j-v.false, le-leb _ _ c.if-a-ge-FIRST_VARIABLE.true)

pub returns-then-v-eq0 : goal.returns-then-v-eq0
unfolding fault_by
returns-then-v-eq0 c = rw (← c.slot_of.ensures, ← c.from-v.ensures, le-ltb _ _ c.if-j-v.false, lt-leb _ _ c.if-a-ge-FIRST_VARIABLE.false, eq-eqb _ _ c.if-v-eq0.true)

pub returns-else-v-eq0 : goal.returns-else-v-eq0
unfolding fault_by
returns-else-v-eq0 c = rw (← c.slot_of.ensures, ← c.from-v.ensures, le-ltb _ _ c.if-j-v.false, lt-leb _ _ c.if-a-ge-FIRST_VARIABLE.false, ne_eqb _ _ c.if-v-eq0.false)
