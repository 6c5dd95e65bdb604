-- Readings that are computed (2026-05): the clock, each refusal before those that come behind it, and what is left of the table.
use Rattle.std.specs.Prelude.{ℕ, Bool, ◌&&◌, T, List, [], ◌∷◌}
use Rattle.cows.specs.Basics.{every, same_list, Result, refuse, accept}
use Rattle.cows.specs.Terms.{Term}
use Rattle.cows.specs.Format.{encode}
use Rattle.cows.specs.Step.{Reply, reply_to}
use Rattle.cows.specs.Run.{reply_bytes}
use Rattle.cows.specs.Papers.{◌∣◌, 𝟘, wait_for, rep, says, open_all}
use Rattle.ticks.specs.Ticks.{judge_ticks, open_ticks}

-- A table, two readings and room; the reply, and the table that is left.
pub record TwoReadings : Type 0 where
  pub table : List ℕ
  pub earlier : ℕ
  pub later : ℕ
  pub room : ℕ
  pub reply : Reply
  pub left : List ℕ

abbrev leaves : Result Term → List ℕ
leaves (refuse n p) = []
leaves (accept t) = encode t

abbrev right_answer : TwoReadings → Result Term → Bool
right_answer c x = same_list (reply_bytes (reply_to x ∷ [])) (reply_bytes (c.reply ∷ [])) && same_list (leaves x) c.left

abbrev right_readings : TwoReadings → Bool
right_readings c = right_answer c (judge_ticks c.table c.earlier c.later c.room)

-- on a table of one wait, which then holds so much; and one that is refused
abbrev waits : (holds earlier later room then : ℕ) → TwoReadings
waits i e l room j = record { table = encode (wait_for i 𝟘); earlier = e; later = l; room = room; reply = says 0 0 2; left = encode (wait_for j 𝟘) }

abbrev told : (table : List ℕ) → (earlier later room answer place : ℕ) → TwoReadings
told b e l room n p = record { table = b; earlier = e; later = l; room = room; reply = says n p 0; left = [] }

abbrev wait12 : List ℕ
wait12 = encode (wait_for 12 𝟘)

pub tick_samples : List TwoReadings
tick_samples =
    -- the clock, before it rolls over and as it does
    waits 12 4 14 32 2
    ∷ waits 12 4294967290 4 32 2
    ∷ waits 12 4294967295 0 32 11
    -- no tick: the table as it came, which is no time of 0
    ∷ waits 12 0 0 32 12
    ∷ waits 12 4294967295 4294967295 40 12
    ∷ told wait12 7 7 31 21 0
    -- 1 and 65,535 are times, and 65,536 is 24; 23 from 2,147,483,648 on
    ∷ waits 12 4 5 32 11
    ∷ waits 65535 4 65539 32 0
    ∷ told wait12 4 65540 32 24 0
    ∷ told wait12 4 2147483651 32 24 0
    ∷ told wait12 4 2147483652 32 23 0
    ∷ told wait12 4 3 32 23 0
    -- the table's refusals first, and 21 last
    ∷ told [] 4 3 32 1 0
    ∷ told (1 ∷ wait12) 4 65540 32 1 0
    ∷ told [] 4 4 32 1 0
    ∷ told wait12 4 3 0 23 0
    ∷ told wait12 4 65540 31 24 0
    ∷ told wait12 4 5 31 21 0
    -- as time does it: a wait under a replication stays
    ∷ record { table = encode (wait_for 3 𝟘 ∣ rep (wait_for 3 𝟘)); earlier = 4294967295; later = 1; room = 99; reply = says 0 0 6; left = encode (wait_for 1 𝟘 ∣ rep (wait_for 3 𝟘)) }
    ∷ []

pub tick_samples_right : T (every right_readings tick_samples)
unfolding open_all open_ticks tick_samples
tick_samples_right = tt
