use mathlib.Core.Path.{ap, sym}
use native.Mathlib.Omega.{arith}
use Rattle.records.specs.Answers.{found_of}
use Rattle.overlaps.proofs.Overlapping.{overlap-stop, overlap-turn, overlap-end}
use Rattle.overlaps.proofs.first_overlap.Goals as goal

pub returns-then-any_overlap : goal.returns-then-any_overlap
returns-then-any_overlap c = sym (ap found_of (overlap-stop _ _ _ c.loop-i.invariant (omega arith) c.from-p.ensures c.any_overlap.ensures c.any_overlap-in-loop-i.ensures c.if-any_overlap.true))

pub loop-i-preserved : goal.loop-i-preserved
loop-i-preserved c = overlap-turn _ _ _ c.loop-i.invariant (omega arith) c.from-p.ensures c.any_overlap.ensures c.any_overlap-in-loop-i.ensures c.if-any_overlap.false

pub returns : goal.returns
returns c = sym (ap found_of (overlap-end _ _ _ c.loop-i.invariant (omega arith) (omega arith)))
