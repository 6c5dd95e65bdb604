use mathlib.Core.Path.{◌≡◌}
use Prim.Native.Nat.{◌+◌, ◌≤◌}
use Rattle.player.specs.Loads.{load_between}
use Rattle.player.proofs.loads.load_between.Given as goal

abbrev pub invariant-loop-p : goal.invariant-loop-p
invariant-loop-p l = (l.load + load_between l.s l.p l.j ≡ load_between l.s l.i l.j) × (load_between l.s l.i l.j ≤ 2048)
