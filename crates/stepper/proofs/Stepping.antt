-- From the check of the table to the step on bytes (specs/Replies): one law for each answer. And the answers to a result, whatever gave it.
use mathlib.Core.Path.{◌≡◌, refl, sym, ap, ◌∙◌}
use mathlib.Core.Logic.{◌≢◌}
use mathlib.Core.List.{List}
use mathlib.Core.Option.{Option}
use Prim.Native.Nat.{ℕ, ◌<◌}
use native.Mathlib.Omega.{arith}
use lib.ListN.{length, get_or}
use Rattle.cows.specs.Basics.{Result, refuse, accept, ◌>>=◌}
use Rattle.cows.specs.Terms.{Term, size}
use Rattle.cows.specs.Format.{AreBytes}
use Rattle.cows.specs.Tables.{judge}
use Rattle.cows.specs.Moves.{Move}
use Rattle.cows.specs.Step.{read_move, step_term, judge_step, reply_to, written, step_reply, step_output}
use Rattle.cows.proofs.Basics.{accept-bind}
use Rattle.cows.proofs.Format.{length-encode}
use Rattle.cows.proofs.Tables.{judge-encode, judge-within}
use Rattle.cows.proofs.Bounds.{below-judge}
use Rattle.ways.specs.Known.{Table, Known, is_accepted, WellFormed}
use Rattle.tables.specs.declared.Reply.{Reply}
use Rattle.tables.specs.Verdict.{refusal, check_reply, Checked}
use Rattle.stepper.specs.Replies.{reply_of, Answers, Stepped}

-- what the reply to a check tells of the judgement
module _ (s : List ℕ) (r : Reply) (h : r ≡ check_reply (judge s)) where
  pub check_refuses : r.answer ≢ 0 → (n : ℕ) × (p : ℕ) × (judge s ≡ refuse n p) × (r ≡ refusal n p)
  check_refuses z = go (judge s) refl
    where
      go : (x : Result Term) → judge s ≡ x → (n : ℕ) × (p : ℕ) × (judge s ≡ refuse n p) × (r ≡ refusal n p)
      go (refuse n p) e = (n, p, e, h ∙ rw e)
      go (accept t) e = absurd (z (ap (λ q. q.answer) h ∙ rw e))

  pub check_accepts : r.answer ≡ 0 → (t : Term) × (judge s ≡ accept t) × (r.records ≡ size t)
  check_accepts z = go (judge s) refl
    where
      go : (x : Result Term) → judge s ≡ x → (t : Term) × (judge s ≡ accept t) × (r.records ≡ size t)
      go (refuse n p) e =
          let k = rw e at (below-judge 2049 (omega arith) s) in
          let q = rw e at (sym (ap (λ q. q.answer) h) ∙ z) in
          absurd (omega (arith, k.0))
      go (accept t) e = (t, e, ap (λ q. q.records) h ∙ rw e)

-- 1 to 7: a refused table
pub table_refused : (s ends m out : List ℕ) (r : Reply) → Checked s ends r → r.answer ≢ 0 → Stepped s m out out r
unfolding step_reply step_output judge_step ◌>>=◌ reply_to written
table_refused s ends m out r h z = let (n, p, e, q) = check_refuses s r h.reply z in record { replies = q ∙ rw e; output = rw e }

-- an accepted table is the table of a term
pub record Read (s ends : List ℕ) : Type 0 where
  pub term : Term
  pub judged : judge s ≡ accept term
  pub table : Table s ends term

pub table_read : (s ends : List ℕ) (r : Reply) → AreBytes s → Checked s ends r → r.answer ≡ 0 → Read s ends
table_read s ends r b h z =
    let (t, e, _) = check_accepts s r h.reply z in
    let w = judge-within s t b e in
    record { term = t; judged = e; table = record { holds = record { is = sym (judge-encode s t b e); right = w.right }; within = w; end = h.end z } }

-- the bytes of an accepted table, and the ends that were found
pub checked_known : (s ends : List ℕ) (r : Reply) → ((i : ℕ) → get_or s i 0 < 256) → Checked s ends r → r.answer ≡ 0 → WellFormed s ends
checked_known s ends r b h z = record { bytes = b; accepted = ap is_accepted (check_accepts s r h.reply z).1; end = h.end z }

pub table_known : (s ends : List ℕ) (t : Term) → Table s ends t → Known s ends
table_known s ends t h = record { term = t; table = h; whole = omega (arith, ap length h.holds.is, length-encode t); few = h.end.few; room = h.end.room }

pub read_known : (s ends : List ℕ) → Read s ends → Known s ends
read_known s ends q = table_known s ends q.term q.table

pub read_stepped : (s ends m out after : List ℕ) (r : Reply) (q : Read s ends) (v : Option Move) → v ≡ read_move m → Answers (step_term q.term v (length out)) out after r → Stepped s m out after r
unfolding step_reply step_output judge_step
read_stepped s ends m out after r q v read h =
    let e = accept-bind (judge s) (λ t. step_term t (read_move m) (length out)) q.term q.judged in
    record { replies = h.replies ∙ (rw (e, read)); output = h.output ∙ (rw (e, read)) }

-- a refusal, and what it leaves
pub refused_answers : {x : Result Term} {out : List ℕ} {r : Reply} (n p : ℕ) → x ≡ refuse n p → r ≡ refusal n p → Answers x out out r
unfolding reply_to written
refused_answers n p e q = record { replies = q ∙ rw e; output = rw e }

-- the same judgement has the same answers
pub answers_as : {x y : Result Term} {out after : List ℕ} {r : Reply} → x ≡ y → Answers y out after r → Answers x out after r
answers_as {out = out} e h = record { replies = h.replies ∙ ap (λ z. reply_of (reply_to z)) (sym e); output = h.output ∙ ap (λ z. written z out) (sym e) }
