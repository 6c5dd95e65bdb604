use mathlib.Core.Path.{◌≡◌}
use Prim.Native.Nat.{◌-◌}
use Rattle.renaming.specs.Mapped.{across}
use Rattle.renaming.specs.Names.{delimited}
use Rattle.renaming.proofs.names.delimits.Given as goal

-- what is delimited from place i on is all
abbrev pub invariant-loop-i : goal.invariant-loop-i
invariant-loop-i l = across delimited l.s l.from (l.to - l.from) ≡ across delimited l.s l.i (l.to - l.i)
