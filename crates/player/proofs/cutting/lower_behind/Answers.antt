use borrow.Author.Tests.{lt-ltb, le-ltb}
use native.Mathlib.Omega.{arith}
use Rattle.player.proofs.cutting.lower_behind.Goals as goal

pub overflow_sub-result : goal.overflow_sub-result
overflow_sub-result c = omega (arith, c.requires (omega arith))

pub returns-then-start-e : goal.returns-then-start-e
returns-then-start-e c = rw (lt-ltb c.args.start c.args.e (omega arith))

pub returns : goal.returns
returns c = rw (le-ltb c.args.start c.args.e (omega arith))
