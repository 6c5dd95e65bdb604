-- Demand 2 as one theorem about whatever meets the equations of a step (`Stepped`); `step` promises both. And what 12 and its place say (2026-02), and
-- what a time move is told (2026-04).
use mathlib.Core.Path.{◌≡◌, refl, sym, ap, ◌∙◌}
use mathlib.Core.Logic.{◌≢◌, ◌↔◌}
use mathlib.Core.List.{List}
use Prim.Native.Nat.{ℕ, ◌≤◌}
use native.Mathlib.Omega.{arith}
use lib.ListN.{length}
use Rattle.cows.specs.Basics.{Result, refuse, accept}
use Rattle.cows.specs.Terms.{Term}
use Rattle.cows.specs.Format.{AreBytes}
use Rattle.cows.specs.Step.{judge_step, reply_to, written, step_reply, step_output}
use Rattle.cows.specs.Accepts.{Accepts}
use Rattle.cows.specs.Allows.{Elapsed}
use Rattle.cows.specs.Mismatched.{Mismatched}
use Rattle.cows.specs.Timed.{ProposesTime}
use Rattle.cows.proofs.Theorems.{step_accepted, answer_zero, one_accepted, accepted-within, refused_untouched, mismatch_told, time-goes_on, no-time-told}
use Rattle.tables.specs.declared.Reply.{Reply}
use Rattle.stepper.specs.Replies.{reply_of, Stepped}
use Rattle.stepper.specs.Demand.{Demand2}

module _ (table m out after : List ℕ) (r : Reply) (bytes : AreBytes table) (stepped : Stepped table m out after r) where
  -- the answer is that of the definition
  same_answer : r.answer ≡ (step_reply table m out).answer
  same_answer = ap (λ (x : Reply). x.answer) stepped.replies

  judged : (s : Term) → Accepts table m (length out) s → judge_step table m (length out) ≡ accept s
  judged s a = (step_accepted table m (length out) s bytes).1 a

  no_records : (x : Result Term) → (reply_to x).answer ≢ 0 → (reply_to x).records ≡ 0
  unfolding reply_to
  no_records (refuse n p) z = refl
  no_records (accept s) z = absurd (z refl)

  replied : (s : Term) → judge_step table m (length out) ≡ accept s → r ≡ reply_of (reply_to (accept s))
  unfolding step_reply
  replied s e = stepped.replies ∙ rw e

  output : (s : Term) → judge_step table m (length out) ≡ accept s → after ≡ written (accept s) out
  unfolding step_output
  output s e = stepped.output ∙ rw e

  differs : r.answer ≢ 0 → (step_reply table m out).answer ≢ 0
  differs z e = z (same_answer ∙ e)

  refused : r.answer ≢ 0 → (r.records ≡ 0) × (after ≡ out)
  unfolding step_reply
  refused z =
      (ap (λ (x : Reply). x.records) stepped.replies ∙ no_records (judge_step table m (length out)) (differs z), stepped.output ∙ refused_untouched table m out (differs z))

  pub demand_2 : Demand2 table m out after r
  unfolding reply_to written
  demand_2 = record {
    accepted = (
      (λ e. let (s, j) = (answer_zero table m out).0 (sym same_answer ∙ e) in (s, (step_accepted table m (length out) s bytes).0 j)),
      λ p. same_answer ∙ (answer_zero table m out).1 (p.0, judged p.0 p.1),
    );
    one = one_accepted table m (length out);
    formed = accepted-within table m (length out);
    replied = λ s a. replied s (judged s a);
    written = λ s a. output s (judged s a);
    refused = refused;
  }

  -- both promises of a step
  pub promised : Stepped table m out after r × Demand2 table m out after r
  promised = (stepped, demand_2)

  -- a refusal is replied, and what is replied is that refusal
  told : (n p : ℕ) → 1 ≤ n → (r ≡ record { answer = n; place = p; records = 0 }) ↔ (judge_step table m (length out) ≡ refuse n p)
  unfolding step_reply reply_to
  told n p l = ((λ e. go (judge_step table m (length out)) (sym stepped.replies ∙ e)), λ e. stepped.replies ∙ rw e)
    where
      go : (x : Result Term) → reply_of (reply_to x) ≡ record { answer = n; place = p; records = 0 } → x ≡ refuse n p
      go (refuse k q) e = let i : k ≡ n = ap (λ (y : Reply). y.answer) e in let j : q ≡ p = ap (λ (y : Reply). y.place) e in rw (i, j)
      go (accept s) e = absurd (let i : 0 ≡ n = ap (λ (y : Reply). y.answer) e in omega arith)

  -- 12 at n is replied exactly where a live receive and a live invoke differ, and n is the lowest number in which they do
  pub mismatch_replied : (n : ℕ) → (r ≡ record { answer = 12; place = n; records = 0 }) ↔ Mismatched table m n
  mismatch_replied n =
      let (back, on) = told 12 n (omega arith) in
      let (from, to) = mismatch_told table m (length out) n bytes in ((λ e. from (back e)), λ x. on (to x))

  -- 17 is replied exactly to a time of 0 on a well-formed table, at place 0
  pub no-time_replied : (p : ℕ) → (r ≡ record { answer = 17; place = p; records = 0 }) ↔ (ProposesTime table m 0 × (p ≡ 0))
  no-time_replied p =
      let (back, on) = told 17 p (omega arith) in
      let (from, to) = no-time-told table m (length out) p bytes in ((λ e. from (back e)), λ x. on (to x))

  -- any other time goes on, if the output is as long as the table: it is accepted, and what is written is the table with every live wait lowered
  pub time_replied : (d : ℕ) (x : ProposesTime table m d) → 1 ≤ d → length table ≤ length out
      → (s : Term) × (r ≡ reply_of (reply_to (accept s))) × (after ≡ written (accept s) out) × Elapsed d x.term s
  time_replied d x h l = let (s, e, k) = time-goes_on table m (length out) d x h l in (s, replied s e, output s e, k)
