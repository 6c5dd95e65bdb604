-- What the request says of the reply and the output, case by case, by how far the clock has gone: no difference of readings, and no judgement of them.
use Rattle.std.specs.Prelude.{◌≡◌, ℕ, ◌+◌, ◌%◌, ◌<◌, ◌≤◌, List, ◌++◌, length, drop}
use Rattle.cows.specs.Basics.{refuse}
use Rattle.cows.specs.Terms.{Term, size}
use Rattle.cows.specs.Format.{encode}
use Rattle.cows.specs.Tables.{judge}
use Rattle.cows.specs.Within.{Within}
use Rattle.cows.specs.Papers.{time}
use Rattle.tables.specs.declared.Reply.{Reply}
use Rattle.tables.specs.Verdict.{refusal}
use Rattle.stepper.specs.Replies.{reply_of, Stepped}
use Rattle.ticks.specs.Ticks.{rollover, gone_back, longest_time, ticks_reply, ticks_output}

-- A clock that shows `earlier` shows `later` when d ticks have passed, which is less than a round.
pub record ClockGoes (earlier d later : ℕ) : Type 0 where
  pub less : d < rollover
  pub shows : (d + earlier) % rollover ≡ later

-- The table is that of a term within the limits.
pub record WellFormed (table : List ℕ) : Type 0 where
  pub term : Term
  pub within : Within term
  pub table_of : encode term ≡ table

-- The reply and every byte of the output are those of the definition.
pub record Ticked (table : List ℕ) (earlier later : ℕ) (out after : List ℕ) (r : Reply) : Type 0 where
  pub replies : r ≡ reply_of (ticks_reply table earlier later out)
  pub output : after ≡ ticks_output table earlier later out

-- a refusal, which leaves the output as it was
pub record RefusedWith (n p : ℕ) (out after : List ℕ) (r : Reply) : Type 0 where
  pub replies : r ≡ refusal n p
  pub output : after ≡ out

-- The request's claims. A refused table; on a well-formed one 23, 24, and for no tick the table as it came, or 21; and for 1 to 65,535 ticks the reply and the output of
-- the step whose move is that time, on any bytes.
pub record TicksClaims (table : List ℕ) (earlier later : ℕ) (out after : List ℕ) (r : Reply) : Type 0 where
  pub table_first : (n p : ℕ) → judge table ≡ refuse n p → RefusedWith n p out after r
  pub went_back : (d : ℕ) → WellFormed table → ClockGoes earlier d later → gone_back ≤ d → RefusedWith 23 0 out after r
  pub too_long : (d : ℕ) → WellFormed table → ClockGoes earlier d later → longest_time < d → d < gone_back → RefusedWith 24 0 out after r
  pub no_room : WellFormed table → ClockGoes earlier 0 later → length out < length table → RefusedWith 21 0 out after r
  pub handed_on : (x : WellFormed table) → ClockGoes earlier 0 later → length table ≤ length out
      → (r ≡ record { answer = 0; place = 0; records = size x.term }) × (after ≡ table ++ drop (length table) out)
  pub timed : (d : ℕ) → ClockGoes earlier d later → 1 ≤ d → d ≤ longest_time → Stepped table (time d) out after r
