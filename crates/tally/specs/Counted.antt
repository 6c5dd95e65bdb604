-- Tallies as the code has them, and added; that the sums fit, and how far the counts are after so many moves.
use Rattle.std.specs.Prelude.{ℕ, ◌+◌, ◌*◌, ◌<◌, ◌≤◌, ◌^◌}
use Rattle.cows.specs.Limits.{max_records}
use Rattle.cows.specs.Run as meaning
use Rattle.tally.specs.declared.Tally.{Tally}

-- a tally, as the code has it
abbrev pub tally_of : meaning.Tally → Tally
tally_of c = record { communications = c.communications; kills = c.kills; timeouts = c.timeouts; copied = c.copied }

-- Two tallies added.
unfoldable pub sum_of : Tally → Tally → Tally
sum_of c d = record { communications = c.communications + d.communications; kills = c.kills + d.kills; timeouts = c.timeouts + d.timeouts; copied = c.copied + d.copied }

-- Each of the sums fits.
pub record SumsFit (c d : Tally) : Type 0 where
  pub communications_fit : c.communications + d.communications < 2 ^ 32
  pub kills-fit : c.kills + d.kills < 2 ^ 32
  pub timeouts_fit : c.timeouts + d.timeouts < 2 ^ 32
  pub copied_fits : c.copied + d.copied < 2 ^ 32

-- The counts of i moves at most, none of which copied more than the load of a whole table.
pub record Small (c : Tally) (i : ℕ) : Type 0 where
  pub communications_small : c.communications ≤ i
  pub kills_small : c.kills ≤ i
  pub timeouts_small : c.timeouts ≤ i
  pub copied_small : c.copied ≤ max_records * i
