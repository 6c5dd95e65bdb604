use native.Mathlib.Omega.{arith}
use lib.Seq.{take_all}
use Rattle.cows.specs.Format.{byte}
use Rattle.scopes.proofs.Uses.{tuple-start, tuple-turn}
use Rattle.scopes.proofs.Directory.tuple_fault.Goals as goal

pub returns-then-c-gt4 : goal.returns-then-c-gt4
unfolding byte
returns-then-c-gt4 c p q ws v h e = absurd (omega (arith, h.few, h.count, c.from-c.ensures))

pub loop-i-init : goal.loop-i-init
unfolding byte
loop-i-init c p q ws v h e = tuple-start p q ws

pub loop-i-preserved : goal.loop-i-preserved
unfolding byte
loop-i-preserved c p q ws v h e =
    tuple-turn _ _ _ ws _ c.loop-i.i p q v h e (omega (arith, h.count, c.from-c.ensures)) _ _ _ _ (c.loop-i.invariant p q ws v h e) c.word_at.ensures c.use_fault.ensures c.max-worst.ensures

pub returns : goal.returns
unfolding byte
returns c p q ws v h e = rw (take_all c.loop-i.i ws (omega (arith, h.count, c.from-c.ensures))) at (c.loop-i.invariant p q ws v h e)
