use native.Mathlib.Omega.{arith}
use Rattle.scopes.proofs.Slots.{page_full, page_new}
use Rattle.scopes.proofs.give_page.Goals as goal

pub returns-then-room-top : goal.returns-then-room-top
returns-then-room-top c = λ marks e g.
    page_full _ _ _ _ _ (omega arith) c.from-p.ensures g c.if-pages-p-ne0.false (omega arith)

pub returns : goal.returns
returns c = λ marks e g.
    page_new _ _ _ _ _ (omega arith) c.from-p.ensures g c.if-pages-p-ne0.false (omega arith)
