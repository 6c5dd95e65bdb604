use native.Mathlib.Omega.{arith}
use borrow.Author.Tests.{ne_eqb}
use Rattle.rows.specs.Rows.{plain_right}
use Rattle.rows.proofs.plain_right.Goals as goal

pub returns-in-8 : goal.returns-in-8
unfolding plain_right
returns-in-8 c = rw c.in-8.is

pub returns-in-1 : goal.returns-in-1
unfolding plain_right
returns-in-1 c = rw c.in-1.is

pub returns-in-4 : goal.returns-in-4
unfolding plain_right
returns-in-4 c = rw c.in-4.is

pub returns-in_default : goal.returns-in_default
unfolding plain_right
returns-in_default c = rw (ne_eqb c.args.kind 8 (λ e. omega arith), ne_eqb c.args.kind 1 (λ e. omega arith), ne_eqb c.args.kind 4 (λ e. omega arith))
