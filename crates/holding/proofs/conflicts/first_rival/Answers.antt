use mathlib.Core.Path.{sym, ap}
use native.Mathlib.Omega.{arith}
use borrow.Author.Tests.{not-true}
use Rattle.cows.proofs.Basics.{or_false}
use Rattle.records.specs.Answers.{found_of}
use Rattle.holding.proofs.Conflicting.{none-under, alone_tighter}
use Rattle.ways.proofs.KnownTables.{known_of}
use Rattle.holding.proofs.conflicts.first_rival.Goals as goal

pub returns-then-l-eq0 : goal.returns-then-l-eq0
returns-then-l-eq0 c t q m z e x y f = rw c.if-l-eq0.true (ap found_of (sym (none-under t m)))

pub any_rival-requires : goal.any_rival-requires
any_rival-requires c = let q = c.requires in omega (arith, (known_of c.args.table.known).whole)

pub overflow_add-a : goal.overflow_add-a
overflow_add-a c = let q = c.requires in omega (arith, (known_of c.args.table.known).few)

pub any_rival-requires-2 : goal.any_rival-requires-2
any_rival-requires-2 c = let q = c.requires in omega (arith, (known_of c.args.table.known).whole)

pub returns-then-not-any_rival : goal.returns-then-not-any_rival
returns-then-not-any_rival c t q m z e x y f = let (u, v) = or_false _ _ (not-true _ c.if-not-any_rival.true-raw) in
    ap found_of (sym (alone_tighter z _ _ _ q m e x f (c.any_rival.ensures u) (c.any_rival-2.ensures v)))

pub returns : goal.returns
returns c t q m z e x y f = c.first_tighter.ensures t m z x y
