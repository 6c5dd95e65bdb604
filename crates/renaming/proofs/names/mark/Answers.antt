use mathlib.Core.Path.{sym}
use Rattle.cows.proofs.Basics.{never}
use Rattle.renaming.proofs.Occurring.{marking_turn, marking_stop, marking_end, marked_term}
use Rattle.renaming.proofs.names.mark.Goals as goal

pub returns-then-not-mark_record : goal.returns-then-not-mark_record
returns-then-not-mark_record c = (marking_stop _ _ _ _ _ c.loop-i.invariant c.loop-i-test.true c.mark_record.ensures c.if-not-mark_record.true, λ e. never e)

pub loop-i-preserved : goal.loop-i-preserved
loop-i-preserved c = marking_turn _ _ _ _ _ c.loop-i.invariant c.loop-i-test.true c.mark_record.ensures c.if-not-mark_record.false

pub returns : goal.returns
returns c = let (f, e) = marking_end _ _ _ _ _ c.loop-i.invariant c.loop-i-test.false in
    (f, λ q t taken h m. rw (← e) (marked_term _ t h _ taken (sym f) m))
