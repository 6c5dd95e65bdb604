use native.Mathlib.Omega.{arith}
use Prim.Native.Nat.{ℕ}
use lib.ListN.{length-replicate}
use Rattle.scopes.proofs.Slots.{blank_new}
use Rattle.scopes.proofs.NextPlace.{ends_of}
use Rattle.scopes.proofs.scope_faults.Goals as goal

pub enter_all-requires : goal.enter_all-requires
enter_all-requires c = blank_new 4096 (omega arith)

pub pass-requires : goal.pass-requires
pass-requires c = ends_of _ _ c.requires

pub returns-then-enter_all : goal.returns-then-enter_all
returns-then-enter_all c t h = c.pass.ensures t (record { holds = h; keeps = c.enter_all.ensures.keeps c.if-enter_all.true t h })

pub enter_all-requires-2 : goal.enter_all-requires-2
enter_all-requires-2 c = blank_new 65792 (omega arith)

pub pass-requires-2 : goal.pass-requires-2
pass-requires-2 c = ends_of _ _ c.requires

pub returns : goal.returns
returns c t h = c.pass-2.ensures t
    (record { holds = h; keeps = c.enter_all-2.ensures.keeps (c.enter_all-2.ensures.all (omega (arith, c.enter_all-2.auto.marks, length-replicate {A = ℕ} 65792 0))) t h })
