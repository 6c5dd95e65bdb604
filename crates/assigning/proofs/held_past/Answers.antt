-- The furthest end when an end counts, or when it does not.
use Rattle.roles.specs.declared.Role.TheVariants.{Holder}
use Rattle.roles.proofs.Same.{by_test}
use Rattle.assigning.proofs.held_past.Goals as goal

pub returns-then-eq : goal.returns-then-eq
returns-then-eq c = rw (by_test c.args.role Holder c.eq.ensures c.if-eq.true) c.max.ensures

pub returns-else-eq : goal.returns-else-eq
returns-else-eq c = rw (by_test c.args.role Holder c.eq.ensures c.if-eq.false)
