-- What a ready record says, by its kind.
use native.Mathlib.Omega.{arith}
use Rattle.assigning.proofs.ByKind.{kill-behind, noted-kill, noted-receive, noted-none}
use Rattle.assigning.proofs.note.Goals as goal

pub overflow_sub-behind : goal.overflow_sub-behind
overflow_sub-behind c = let p = c.requires in (kill-behind _ p.term p.holds _ p.place c.if-kind-eq-KILL.true _ c.word_at.ensures _ (c.behind.ensures p.term p.holds) p.within).0

pub bounds-cast-behind : goal.bounds-cast-behind
bounds-cast-behind c = let p = c.requires in
    let b = kill-behind _ p.term p.holds _ p.place c.if-kind-eq-KILL.true _ c.word_at.ensures _ (c.behind.ensures p.term p.holds) p.within in
    omega (arith, p.room)

pub returns-then-kind-eq-KILL : goal.returns-then-kind-eq-KILL
returns-then-kind-eq-KILL c t h = noted-kill _ t h _ c.requires.place c.if-kind-eq-KILL.true _ c.word_at.ensures _ (c.behind.ensures t h) _

pub returns-then-kind-ne-RECEIVE : goal.returns-then-kind-ne-RECEIVE
returns-then-kind-ne-RECEIVE c t h = noted-none _ t h _ c.requires.place c.if-kind-eq-KILL.false c.if-kind-ne-RECEIVE.true _

pub returns : goal.returns
returns c t h = noted-receive _ t h _ c.requires.place c.if-kind-ne-RECEIVE.false _
