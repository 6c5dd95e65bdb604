-- The theorems of 2026-05, each with a one-line proof that cites where it is shown.
use Rattle.std.proofs.Common.{◌≡◌, ℕ, ◌+◌, ◌*◌, ◌%◌, ◌<◌, ◌≤◌, List, length, take, sym, ap, ◌∙◌}
use Rattle.cows.specs.Basics.{All, ◌>>=◌}
use Rattle.cows.specs.Terms.{Term}
use Rattle.cows.specs.Format.{AreBytes, encode}
use Rattle.cows.specs.Allows.{Elapsed}
use Rattle.cows.specs.Step.{judge_step}
use Rattle.cows.specs.Papers.{time}
use Rattle.tables.specs.declared.Reply.{Reply}
use Rattle.stepper.specs.Replies.{Stepped}
use Rattle.ticks.specs.Ticks.{rollover, longest_time, ticks_between, judge_elapsed, judge_ticks, ticks_reply, ticks_output}
use Rattle.ticks.specs.Claims.{ClockGoes, Ticked, TicksClaims}
use Rattle.ticks.specs.Readings.{tick_through, last_reading, ticks_through}
use Rattle.ticks.proofs.Clock.{between-goes, goes-between, between_moved}
use Rattle.ticks.proofs.Claims.{claims, claims_ticked}
use Rattle.ticks.proofs.Adding.{elapsed_sum, time-sum, through_sum, replied_sum, stepped_sum}

-- 1. The later reading less the earlier, by remainder, is how far the clock has gone, and nothing else is.
pub clock_goes : (earlier later : ℕ) → earlier < rollover → later < rollover → ClockGoes earlier (ticks_between earlier later) later
clock_goes earlier later h k = between-goes h k

pub clock_one : (earlier d later : ℕ) → earlier < rollover → ClockGoes earlier d later → d ≡ ticks_between earlier later
clock_one earlier d later h g = goes-between h g

-- 2. What meets the definition's equations meets the request's claims, and the other way round.
pub ticked_claims : (table : List ℕ) (earlier later : ℕ) (out after : List ℕ) (r : Reply) → earlier < rollover → Ticked table earlier later out after r → TicksClaims table earlier later out after r
ticked_claims table earlier later out after r h t = claims table earlier later out after r h t

pub claims_definition : (table : List ℕ) (earlier later : ℕ) (out after : List ℕ) (r : Reply) → AreBytes table → earlier < rollover → later < rollover
    → TicksClaims table earlier later out after r → Ticked table earlier later out after r
claims_definition table earlier later out after r b h k c = claims_ticked table earlier later out after r b h k c

-- 3. Two readings and the same two moved on by any number of ticks, rolled over or not, give the same reply and the same output.
pub moved_on : (table : List ℕ) (earlier later n room : ℕ) → earlier < rollover → later < rollover
    → judge_ticks table ((earlier + n) % rollover) ((later + n) % rollover) room ≡ judge_ticks table earlier later room
unfolding judge_ticks
moved_on table earlier later n room h k = ap (λ d. judge_elapsed table d room) (between_moved earlier later n h k)

pub moved_on_replied : (table : List ℕ) (earlier later n : ℕ) (out after after' : List ℕ) (r r' : Reply) → earlier < rollover → later < rollover
    → Ticked table earlier later out after r → Ticked table ((earlier + n) % rollover) ((later + n) % rollover) out after' r' → (r ≡ r') × (after ≡ after')
unfolding ticks_reply ticks_output
moved_on_replied table earlier later n out after after' r r' h k t t' =
    let e = moved_on table earlier later n (length out) h k in (t.replies ∙ (rw⁻¹ e (sym t'.replies)), t.output ∙ (rw⁻¹ e (sym t'.output)))

-- 4. Time adds up: time a and then time b is time a + b, of what is left of each record, and of the step, on any table with any room, refusals included. (Over 65,535 the sum
-- has no six bytes.) Readings one after the other give what one reading over them gives, where they are at most 65,535 ticks apart. The two that end in -replied are of what
-- `step` and `tick` return and leave: the second is called on what the first, accepted, left at the start of its output.
pub elapsed_adds_up : (a b : ℕ) (t s u : Term) → Elapsed a t s → Elapsed b s u → Elapsed (a + b) t u
elapsed_adds_up a b t s u h k = elapsed_sum h k

pub time-adds_up : (table : List ℕ) (a b room : ℕ) → AreBytes table → 1 ≤ a → 1 ≤ b
    → (judge_step table (time a) room >>= λ s. judge_step (encode s) (time b) room) ≡ judge_step table (time (a + b)) room
time-adds_up table a b room bytes h k = time-sum table a b room bytes h k

pub ticks_add_up : (table : List ℕ) (earlier : ℕ) (readings : List ℕ) (room : ℕ) → AreBytes table → earlier < rollover → All (λ n. n < rollover) readings
    → ticks_through earlier readings ≤ longest_time → tick_through table earlier readings room ≡ judge_ticks table earlier (last_reading earlier readings) room
ticks_add_up table earlier readings room bytes h hs l = through_sum table earlier readings room bytes h hs l

pub time-adds_up_replied : (table : List ℕ) (a b : ℕ) (out middle out' after : List ℕ) (r r' : Reply) → AreBytes table → 1 ≤ a → 1 ≤ b → a + b ≤ longest_time
    → Stepped table (time a) out middle r → r.answer ≡ 0 → Stepped (take (16 * r.records) middle) (time b) out' after r' → Stepped table (time (a + b)) out' after r'
time-adds_up_replied table a b out middle out' after r r' bytes h k l x z y = stepped_sum table a b out middle out' after r r' bytes h k l x z y

pub ticks_add_up_replied : (table : List ℕ) (first second third : ℕ) (out middle out' after : List ℕ) (r r' : Reply) → AreBytes table → first < rollover → second < rollover → third < rollover
    → ticks_between first second + ticks_between second third ≤ longest_time → Ticked table first second out middle r → r.answer ≡ 0 → Ticked (take (16 * r.records) middle) second third out' after r'
    → Ticked table first third out' after r'
ticks_add_up_replied table first second third out middle out' after r r' bytes f g k l h z h' = replied_sum table first second third out middle out' after r r' bytes f g k l h z h'
