-- The request's claims (specs/Claims) hold of whatever meets the equations of the definition, and what meets the claims meets the equations.
use Rattle.std.proofs.Common.{◌≡◌, ℕ, ◌*◌, ◌<◌, ◌≤◌, List, ◌++◌, length, drop, sym, refl, ap, ◌∙◌, subst, arith, le-ltb, lt-ltb}
use Rattle.cows.specs.Basics.{Result, refuse, accept, place_if, ◌>>◌, forbid}
use Rattle.cows.specs.Terms.{Term, size}
use Rattle.cows.specs.Format.{AreBytes}
use Rattle.cows.specs.Tables.{judge}
use Rattle.cows.specs.Within.{Within}
use Rattle.cows.specs.Step.{fitted, judge_step, reply_to, written, step_reply, step_output}
use Rattle.cows.specs.Papers.{time}
use Rattle.cows.proofs.Basics.{eq_case, lt_case}
use Rattle.cows.proofs.Format.{length-encode}
use Rattle.cows.proofs.Tables.{judge-encode, judge-within, within-judge}
use Rattle.plans.proofs.Planning.{within_limits}
use Rattle.tables.specs.declared.Reply.{Reply}
use Rattle.stepper.specs.Replies.{Answers, Stepped}
use Rattle.stepper.proofs.Stepping.{answers_as}
use Rattle.ticks.specs.Ticks.{rollover, gone_back, longest_time, ticks_between, judge_elapsed, judge_ticks, ticks_reply, ticks_output}
use Rattle.ticks.specs.Claims.{ClockGoes, WellFormed, Ticked, RefusedWith, TicksClaims}
use Rattle.ticks.proofs.Clock.{between-goes, goes-between}
use Rattle.ticks.proofs.Judging.{table_elapsed, back_elapsed, long_elapsed, none_elapsed, time_elapsed}

-- a term within the limits, with room for so many bytes: 21, or it is accepted
module _ (t : Term) (w : Within t) (room : ℕ) where
  pub no_room_fitted : room < 16 * size t → fitted room t ≡ refuse 21 0
  unfolding fitted place_if ◌>>◌ forbid
  no_room_fitted h = rw (within_limits t w.small w.shallow, lt-ltb room (16 * size t) h)

  pub room_fitted : 16 * size t ≤ room → fitted room t ≡ accept t
  unfolding fitted place_if ◌>>◌ forbid
  room_fitted h = rw (within_limits t w.small w.shallow, le-ltb room (16 * size t) h)

-- a well-formed table is accepted, and an accepted one is well formed
formed_judge : {table : List ℕ} (x : WellFormed table) → judge table ≡ accept x.term
formed_judge x = ap judge (sym x.table_of) ∙ within-judge x.term x.within

abbrev pub judge_formed : (table : List ℕ) (t : Term) → AreBytes table → judge table ≡ accept t → WellFormed table
judge_formed table t b e = record { term = t; within = judge-within table t b e; table_of = judge-encode table t b e }

pub formed_length : {table : List ℕ} (x : WellFormed table) → length table ≡ 16 * size x.term
formed_length x = ap length (sym x.table_of) ∙ length-encode x.term

module _ (table : List ℕ) (earlier later : ℕ) (out after : List ℕ) (r : Reply) where
  -- the answers to the judgement are those of the definition
  ticked_answers : Ticked table earlier later out after r → Answers (judge_ticks table earlier later (length out)) out after r
  unfolding ticks_reply ticks_output
  ticked_answers h = record { replies = h.replies; output = h.output }

  answers_ticked : Answers (judge_ticks table earlier later (length out)) out after r → Ticked table earlier later out after r
  unfolding ticks_reply ticks_output
  answers_ticked h = record { replies = h.replies; output = h.output }

  -- of a judgement that is known
  pub answers_of : (x : Result Term) → judge_ticks table earlier later (length out) ≡ x → Ticked table earlier later out after r → Answers x out after r
  answers_of x e h = answers_as (sym e) (ticked_answers h)

  pub ticked_of : (x : Result Term) → judge_ticks table earlier later (length out) ≡ x → Answers x out after r → Ticked table earlier later out after r
  ticked_of x e h = answers_ticked (answers_as e h)

  refused_of : (n p : ℕ) → judge_ticks table earlier later (length out) ≡ refuse n p → Ticked table earlier later out after r → RefusedWith n p out after r
  unfolding reply_to written
  refused_of n p e h = let a = answers_of (refuse n p) e h in record { replies = a.replies; output = a.output }

  of_refused : (n p : ℕ) → judge_ticks table earlier later (length out) ≡ refuse n p → RefusedWith n p out after r → Ticked table earlier later out after r
  unfolding reply_to written
  of_refused n p e h = ticked_of (refuse n p) e (record { replies = h.replies; output = h.output })

  -- the step's answers are those to its judgement
  stepped_answers : (m : List ℕ) → Stepped table m out after r → Answers (judge_step table m (length out)) out after r
  unfolding step_reply step_output
  stepped_answers m h = record { replies = h.replies; output = h.output }

  answers_stepped : (m : List ℕ) → Answers (judge_step table m (length out)) out after r → Stepped table m out after r
  unfolding step_reply step_output
  answers_stepped m h = record { replies = h.replies; output = h.output }

  -- the table as it came
  abbrev HandedOn : WellFormed table → Type 0
  HandedOn x = (r ≡ record { answer = 0; place = 0; records = size x.term }) × (after ≡ table ++ drop (length table) out)

  came : (x : WellFormed table) → written (accept x.term) out ≡ table ++ drop (length table) out
  unfolding written
  came x = rw (x.table_of, formed_length x)

  of_handed : (x : WellFormed table) → judge_ticks table earlier later (length out) ≡ accept x.term → HandedOn x → Ticked table earlier later out after r
  unfolding reply_to
  of_handed x e (q, o) = ticked_of (accept x.term) e (record { replies = q; output = o ∙ sym (came x) })

  handed_of : (x : WellFormed table) → judge_ticks table earlier later (length out) ≡ accept x.term → Ticked table earlier later out after r → HandedOn x
  unfolding reply_to
  handed_of x e h = let a = answers_of (accept x.term) e h in (a.replies, a.output ∙ came x)

  module _ (early : earlier < rollover) where
    -- the judgement by how far the clock has gone
    by_clock : (d : ℕ) → ClockGoes earlier d later → judge_ticks table earlier later (length out) ≡ judge_elapsed table d (length out)
    unfolding judge_ticks
    by_clock d g = ap (λ n. judge_elapsed table n (length out)) (sym (goes-between early g))

    none_room : (x : WellFormed table) → ClockGoes earlier 0 later → length table ≤ length out → judge_ticks table earlier later (length out) ≡ accept x.term
    none_room x g l = by_clock 0 g ∙ none_elapsed table 0 (length out) x.term (formed_judge x) refl ∙ room_fitted x.term x.within (length out) (omega (arith, formed_length x))

    none_short : WellFormed table → ClockGoes earlier 0 later → length out < length table → judge_ticks table earlier later (length out) ≡ refuse 21 0
    none_short x g l = by_clock 0 g ∙ none_elapsed table 0 (length out) x.term (formed_judge x) refl ∙ no_room_fitted x.term x.within (length out) (omega (arith, formed_length x))

    pub claims : Ticked table earlier later out after r → TicksClaims table earlier later out after r
    unfolding judge_ticks
    claims h = record {
      table_first = λ n p e. refused_of n p (table_elapsed table _ (length out) n p e) h;
      went_back = λ d x g l. refused_of 23 0 (by_clock d g ∙ back_elapsed table d (length out) x.term (formed_judge x) l) h;
      too_long = λ d x g l k. refused_of 24 0 (by_clock d g ∙ long_elapsed table d (length out) x.term (formed_judge x) l k) h;
      no_room = λ x g l. refused_of 21 0 (none_short x g l) h;
      handed_on = λ x g l. handed_of x (none_room x g l) h;
      timed = λ d g l k. answers_stepped (time d) (answers_of _ (by_clock d g ∙ time_elapsed table d (length out) l k) h);
    }

    -- both promises of `tick`
    pub promised : Ticked table earlier later out after r → Ticked table earlier later out after r × TicksClaims table earlier later out after r
    promised h = (h, claims h)

    module _ (d : ℕ) (g : ClockGoes earlier d later) where
      pub elapsed_ticked : Answers (judge_elapsed table d (length out)) out after r → Ticked table earlier later out after r
      elapsed_ticked h = ticked_of _ (by_clock d g) h

      -- 1 to 65,535 ticks, by the step
      pub step_ticked : 1 ≤ d → d ≤ longest_time → Stepped table (time d) out after r → Ticked table earlier later out after r
      step_ticked l k h = ticked_of _ (by_clock d g ∙ time_elapsed table d (length out) l k) (stepped_answers (time d) h)

      -- what meets the claims meets the equations
      by_claims : TicksClaims table earlier later out after r → (x : Result Term) → judge table ≡ x → AreBytes table → Ticked table earlier later out after r
      by_claims c (refuse n p) e b = of_refused n p (by_clock d g ∙ table_elapsed table d (length out) n p e) (c.table_first n p e)
      by_claims c (accept t) e b =
          let x = judge_formed table t b e in
          lt_case _ d gone_back
          (λ k. lt_case _ longest_time d
          (λ l. of_refused 24 0 (by_clock d g ∙ long_elapsed table d (length out) t e l k) (c.too_long d x g l k))
          (λ l. eq_case _ d 0
          (λ z. let f = subst (λ n. ClockGoes earlier n later) z g in
          lt_case _ (length out) (length table)
          (λ s. of_refused 21 0 (none_short x f s) (c.no_room x f s))
          (λ s. of_handed x (none_room x f s) (c.handed_on x f s)))
          (λ z. step_ticked (let y : 1 ≤ d = omega (arith, z) in y) l (c.timed d g (omega (arith, z)) l))))
          (λ k. of_refused 23 0 (by_clock d g ∙ back_elapsed table d (length out) t e k) (c.went_back d x g k))

pub claims_ticked : (table : List ℕ) (earlier later : ℕ) (out after : List ℕ) (r : Reply) → AreBytes table → earlier < rollover → later < rollover
    → TicksClaims table earlier later out after r → Ticked table earlier later out after r
claims_ticked table earlier later out after r b h k c =
    by_claims table earlier later out after r h (ticks_between earlier later) (between-goes h k) c (judge table) refl b
