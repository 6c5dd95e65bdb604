use borrow.Author.Tests.{not-true, not-false}
use mathlib.Core.Bool.{◌&&◌}
use Rattle.matching.specs.Matching.{slots_at}
use Rattle.matching.proofs.slots_fit.Goals as goal

pub returns-then-not-w-x : goal.returns-then-not-w-x
unfolding slots_at
returns-then-not-w-x c = let e = not-true (c.agrees_at-w.result && (c.agrees_at-x.result && (c.agrees_at-y.result && c.agrees_at-z.result))) c.if-not-w-x.true-raw in
    rw (← c.agrees_at-w.ensures, ← c.agrees_at-x.ensures, ← c.agrees_at-y.ensures, ← c.agrees_at-z.ensures, e, c.first_apart.ensures)

pub returns : goal.returns
unfolding slots_at
returns c = let e = not-false (c.agrees_at-w.result && (c.agrees_at-x.result && (c.agrees_at-y.result && c.agrees_at-z.result))) c.if-not-w-x.false-raw in
    rw (
      ← c.agrees_at-w.ensures,
      ← c.agrees_at-x.ensures,
      ← c.agrees_at-y.ensures,
      ← c.agrees_at-z.ensures,
      e,
      c.variables_at.ensures.0,
      c.variables_at-2.ensures.0,
      c.variables_at-3.ensures.0,
      c.variables_at-4.ensures.0,
    )
