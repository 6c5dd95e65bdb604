-- What a step answers and leaves in the output: document 01's reply as the code has it.
use Rattle.std.specs.Prelude.{◌≡◌, ◌≢◌, cond, List, ℕ, ◌*◌, ◌≤◌, ltb, Ok, Err}
use Rattle.std.specs.Prelude as rust
use Rattle.cows.specs.Basics.{Result, refuse, accept}
use Rattle.cows.specs.Terms.{Term}
use Rattle.cows.specs.Step.{reply_to, written, step_reply, step_output}
use Rattle.cows.specs.Step as meaning
use Rattle.plans.specs.declared.Plan.{Plan}
use Rattle.plans.specs.declared.Refusal.{Refusal}
use Rattle.plans.specs.Plans.{refusal_of}
use Rattle.tables.specs.declared.Reply.{Reply}
use Rattle.tables.specs.Verdict.{refusal}

-- a reply, as the code has it
abbrev pub reply_of : meaning.Reply → Reply
reply_of r = record { answer = r.answer; place = r.place; records = r.records }

-- the reply to a judgement, with room for so many bytes: 21 if the successor's records do not fit
abbrev pub reply_in : ℕ → Result ℕ → Reply
reply_in room (refuse n p) = refusal n p
reply_in room (accept n) = cond (ltb room (16 * n)) (refusal 21 0) (record { answer = 0; place = 0; records = n })

-- the number of records of an allowed move's successor, or the refusal
abbrev pub records_of : rust.Result Plan Refusal → Result ℕ
records_of (Ok p) = accept p.records
records_of (Err r) = refusal_of r

-- An allowed move goes on if its successor fits so many bytes; else it has the reply to what it was judged, which is no 0.
abbrev pub Fitting : rust.Result Plan Refusal → ℕ → rust.Result Plan Reply → Type 0
Fitting judged room (Ok p) = (judged ≡ Ok p) × (16 * p.records ≤ room)
Fitting judged room (Err r) = (r ≡ reply_in room (records_of judged)) × (r.answer ≢ 0)

-- The reply r and every byte of the output are those of a result.
pub record Answers (x : Result Term) (out after : List ℕ) (r : Reply) : Type 0 where
  pub replies : r ≡ reply_of (reply_to x)
  pub output : after ≡ written x out

-- What a step on any bytes gives.
pub record Stepped (table m out after : List ℕ) (r : Reply) : Type 0 where
  pub replies : r ≡ reply_of (step_reply table m out)
  pub output : after ≡ step_output table m out
