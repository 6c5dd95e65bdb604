-- The clock: the difference of two readings by remainder (specs/Ticks) and how far the clock has gone from one to the other (specs/Claims: ClockGoes) are one number. It
-- stays as it is when both readings move on, and adds up.
use Rattle.std.proofs.Common.{◌≡◌, ℕ, ◌+◌, ◌%◌, ◌<◌, sym, arith}
use Rattle.ticks.specs.Ticks.{rollover, ticks_between}
use Rattle.ticks.specs.Claims.{ClockGoes}

module _ {earlier later : ℕ} (h : earlier < rollover) where
  pub between-goes : later < rollover → ClockGoes earlier (ticks_between earlier later) later
  unfolding ticks_between
  between-goes k = record { less = omega arith; shows = omega arith }

  pub goes-between : {d : ℕ} → ClockGoes earlier d later → d ≡ ticks_between earlier later
  unfolding ticks_between
  goes-between g = omega (arith, g.less, g.shows)

-- one way after another
goes_on : (earlier later last a b : ℕ) → (a + earlier) % rollover ≡ later → (b + later) % rollover ≡ last → (a + b + earlier) % rollover ≡ last
goes_on earlier later last a b e f = omega (arith, e, f)

pub between_moved : (earlier later n : ℕ) → earlier < rollover → later < rollover → ticks_between ((earlier + n) % rollover) ((later + n) % rollover) ≡ ticks_between earlier later
unfolding ticks_between
between_moved earlier later n h k = omega arith

pub between-sum : (earlier later last : ℕ) → earlier < rollover → later < rollover → last < rollover → ticks_between earlier later + ticks_between later last < rollover
    → ticks_between earlier last ≡ ticks_between earlier later + ticks_between later last
between-sum earlier later last h k l s =
    let f = between-goes {later = later} h k in
    let g = between-goes {later = last} k l in
    sym (goes-between h (record { less = s; shows = goes_on earlier later last _ _ f.shows g.shows }))
