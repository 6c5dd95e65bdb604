use Rattle.cows.specs.Terms.{Term}
use Rattle.scopes.specs.Scopes.{PassedTo}
use Rattle.scopes.proofs.Passing.{Going}
use Rattle.scopes.proofs.Directory.pass.Given as goal

abbrev pub invariant-loop-j : goal.invariant-loop-j
invariant-loop-j l = (t : Term) → PassedTo l.s l.initial.self.pages.now l.initial.self.marks.now 0 t → Going l.s l.self.pages.now l.self.marks.now l.j-end l.clash l.j t
