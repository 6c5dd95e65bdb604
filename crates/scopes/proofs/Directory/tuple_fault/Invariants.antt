use mathlib.Core.Path.{◌≡◌}
use mathlib.Core.Bool.{Bool, true}
use mathlib.Core.List.{List}
use Prim.Native.Nat.{ℕ}
use lib.ListN.{take}
use Rattle.cows.specs.Basics.{any, every}
use Rattle.cows.specs.Terms.{atom}
use Rattle.scopes.specs.Scopes.{level, Levels, TupleAt}
use Rattle.scopes.proofs.Directory.tuple_fault.Given as goal

abbrev pub invariant-loop-i : goal.invariant-loop-i
invariant-loop-i l = (p q : ℕ → Bool) (ws : List ℕ) → Levels l.self.pages.now l.self.marks.now l.j p q → TupleAt l.s l.j ws → every atom ws ≡ true → l.worst ≡ level (any p (take l.i ws)) (any q (take l.i ws))
