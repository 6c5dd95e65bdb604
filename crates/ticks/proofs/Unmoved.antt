-- Ticks as the code takes them (specs/Unmoved): where no move is made the judgement is the definition's, with one law for each return. And both promises of `tick`.
use Rattle.std.proofs.Common.{◌≡◌, ℕ, ◌*◌, ◌<◌, ◌≤◌, true, false, ltb, leb, ◌≢◌, List, length, take, drop, sym, refl, ap, ◌∙◌, subst, arith, ltb-false, ltb-true, lt-ltb, le-leb, leb-true}
use lib.Seq.{take-length}
use Rattle.std.specs.Prelude.{Option, Some, None}
use Rattle.cows.specs.Basics.{Result, refuse, accept, place_if, ◌>>=◌, ◌>>◌, forbid}
use Rattle.cows.specs.Terms.{Term, size}
use Rattle.cows.specs.Format.{AreBytes}
use Rattle.cows.specs.Tables.{judge}
use Rattle.cows.specs.Step.{fitted, reply_to, written}
use Rattle.cows.specs.Papers.{time}
use Rattle.cows.proofs.Basics.{clash, bool_case, eq_case, and_true, true_and}
use Rattle.records.specs.Rewrites.{put}
use Rattle.tables.specs.declared.Reply.{Reply}
use Rattle.tables.specs.Verdict.{refusal, check_reply}
use Rattle.stepper.specs.Replies.{Answers, Stepped}
use Rattle.stepper.proofs.Stepping.{check_refuses, check_accepts, refused_answers, answers_as}
use Rattle.stepper.proofs.Moved.{put-encode}
use Rattle.ticks.specs.Ticks.{rollover, gone_back, longest_time, judge_elapsed}
use Rattle.ticks.specs.Claims.{ClockGoes, Ticked, TicksClaims}
use Rattle.ticks.specs.Unmoved.{is_time, refused_with, judge_unmoved}
use Rattle.ticks.proofs.Claims.{judge_formed, formed_length, no_room_fitted, room_fitted, elapsed_ticked, step_ticked, promised}

-- no tick, or more than a move's time: the judgement is that of the number
pub unmoved_elapsed : (table : List ℕ) (d room : ℕ) → is_time d ≡ false → judge_elapsed table d room ≡ judge_unmoved (refused_with d) table room
unfolding judge_elapsed judge_unmoved ◌>>=◌ ◌>>◌ forbid place_if
unmoved_elapsed table d room h = go (judge table) refl
  where
    go : (x : Result Term) → judge table ≡ x → judge_elapsed table d room ≡ judge_unmoved (refused_with d) table room
    go (refuse n p) e = rw e
    go (accept t) e =
        bool_case _ (leb gone_back d) (λ b. rw (e, b))
        (λ b. bool_case _ (ltb longest_time d) (λ l. rw (e, b, l))
        (λ l. eq_case _ d 0 (λ z. rw (e, z)) (λ z. clash (true_and (lt-ltb 0 d (omega (arith, z))) (le-leb d longest_time (ltb-false longest_time d l))) h)))

-- no answer, so none
pub missing : (n : Option ℕ) → ((m : ℕ) → n ≢ Some m) → n ≡ None
missing None h = refl
missing (Some m) h = absurd (h m refl)

module _ (table : List ℕ) (n : Option ℕ) (out : List ℕ) (checked : Reply) (h : checked ≡ check_reply (judge table)) where
  -- 1 to 7
  pub table_unmoved : checked.answer ≢ 0 → Answers (judge_unmoved n table (length out)) out out checked
  unfolding judge_unmoved ◌>>=◌
  table_unmoved z = let (m, p, e, q) = check_refuses table checked h z in refused_answers m p (rw e) q

  module _ (bytes : AreBytes table) (z : checked.answer ≡ 0) where
    -- the ticks' own
    pub refused_unmoved : (m : ℕ) → n ≡ Some m → (r : Reply) → r ≡ refusal m 0 → Answers (judge_unmoved n table (length out)) out out r
    unfolding judge_unmoved ◌>>=◌
    refused_unmoved m k r q = let (t, e, _) = check_accepts table checked h z in refused_answers m 0 (rw (e, k)) q

    module _ (k : n ≡ None) where
      unmoved_fitted : (t : Term) → judge table ≡ accept t → judge_unmoved n table (length out) ≡ fitted (length out) t
      unfolding judge_unmoved ◌>>=◌
      unmoved_fitted t e = rw (e, k)

      -- 21
      pub short_unmoved : length out < length table → (r : Reply) → r ≡ refusal 21 0 → Answers (judge_unmoved n table (length out)) out out r
      short_unmoved l r q =
          let (t, e, _) = check_accepts table checked h z in
          let x = judge_formed table t bytes e in
          refused_answers 21 0 (unmoved_fitted t e ∙ no_room_fitted t x.within (length out) (omega (arith, formed_length x))) q

      -- the table as it came
      pub handed_unmoved : length table ≤ length out → (after : List ℕ) → after ≡ put out 0 (take (length table) (drop 0 table)) → Answers (judge_unmoved n table (length out)) out after (record { answer = 0; place = 0; records = checked.records })
      unfolding reply_to written
      handed_unmoved l after w =
          let (t, e, i) = check_accepts table checked h z in
          let x = judge_formed table t bytes e in
          let s : 16 * size t ≤ length out = omega (arith, formed_length x) in
          answers_as (unmoved_fitted t e ∙ room_fitted t x.within (length out) s)
          (record { replies = ap (λ (m : ℕ). record { answer = 0; place = 0; records = m }) i; output = w ∙ (ap (put out 0) (take-length table ∙ sym x.table_of) ∙ put-encode out t s) })

-- the time of a move has 16 bits
pub time_fits : (d : ℕ) → is_time d ≡ true → d ≤ longest_time
time_fits d h = leb-true d longest_time (and_true (ltb 0 d) (leb d longest_time) h).1

-- What `tick` answers: by the step, or where no move is made.
module _ (table : List ℕ) (earlier later d : ℕ) (out after : List ℕ) (r : Reply) (early : earlier < rollover) (g : ClockGoes earlier d later) where
  pub moved_promised : (m : List ℕ) → m ≡ time d → is_time d ≡ true → Stepped table m out after r → Ticked table earlier later out after r × TicksClaims table earlier later out after r
  moved_promised m e h s =
      let (a, _) = and_true (ltb 0 d) (leb d longest_time) h in
      promised table earlier later out after r early (step_ticked table earlier later out after r early d g (ltb-true 0 d a) (time_fits d h) (subst (λ m. Stepped table m out after r) e s))

  pub unmoved_promised : (n : Option ℕ) → n ≡ refused_with d → is_time d ≡ false → Answers (judge_unmoved n table (length out)) out after r
      → Ticked table earlier later out after r × TicksClaims table earlier later out after r
  unmoved_promised n e h a =
      promised table earlier later out after r early
      (elapsed_ticked table earlier later out after r early d g (answers_as (unmoved_elapsed table d (length out) h ∙ ap (λ k. judge_unmoved k table (length out)) (sym e)) a))
