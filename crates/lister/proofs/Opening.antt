-- From the check of the table to the list of open moves on bytes (specs/Listing): one law for each answer.
use mathlib.Core.Path.{◌≡◌, refl, ap, ◌∙◌}
use mathlib.Core.Logic.{◌≢◌}
use mathlib.Core.List.{List}
use Prim.Native.Nat.{ℕ}
use lib.ListN.{length}
use Rattle.cows.specs.Basics.{Result, refuse, accept, ◌>>=◌}
use Rattle.cows.specs.Terms.{Term}
use Rattle.cows.specs.Tables.{judge}
use Rattle.cows.proofs.Basics.{accept-bind}
use Rattle.tables.specs.declared.Reply.{Reply}
use Rattle.tables.specs.Verdict.{Checked}
use Rattle.stepper.proofs.Stepping.{Read}
use Rattle.opening.specs.Opening.{judge_open, open_reply, open_buffer}
use Rattle.lister.specs.Listing.{listing, Answered, Opened}

-- 1 to 7: a refused table
pub table_unopened : (s ends list : List ℕ) (r : Reply) → Checked s ends r → r.answer ≢ 0 → Opened s list list r
unfolding judge_open ◌>>=◌ open_reply open_buffer
table_unopened s ends list r h z = go (judge s) refl
  where
    go : (x : Result Term) → judge s ≡ x → Opened s list list r
    go (refuse n p) e = record { replies = h.reply ∙ rw e; output = rw e }
    go (accept t) e = absurd (z (ap (λ (q : Reply). q.answer) h.reply ∙ rw e))

-- a well-formed one
pub read_opened : (s ends list after : List ℕ) (r : Reply) (q : Read s ends) → Answered (listing q.term (length list)) list after r → Opened s list after r
unfolding judge_open listing
read_opened s ends list after r q h =
    let e = accept-bind (judge s) (λ t. listing t (length list)) q.term q.judged in
    record { replies = h.replies ∙ rw e; output = h.output ∙ rw e }
