-- Demand 3, of what play returns and leaves: refused whole exactly where document 01 gives 19 or 21; else the night book's replies, last table and
-- tally, and the inequality between them and the start.
use Rattle.std.specs.Prelude.{◌≡◌, List, ◌++◌, ℕ, ◌+◌, ◌*◌, ◌-◌, ◌/◌, ◌≤◌, ◌<◌, length, drop, replicate}
use Rattle.cows.specs.Limits.{max_bytes, max_list_bytes}
use Rattle.cows.specs.Basics.{accept}
use Rattle.cows.specs.Terms.{Term, size}
use Rattle.cows.specs.Format.{encode}
use Rattle.cows.specs.Tables.{judge}
use Rattle.cows.specs.Load.{load}
use Rattle.cows.specs.Run.{RunState, start, run, replies, reply_bytes, moves_of}
use Rattle.tally.specs.Counted.{tally_of}
use Rattle.player.specs.declared.Played.{Played}
use Rattle.player.specs.Nights.{refused_with}

-- The night book, fed the start table and the list: its table and tally at the end.
unfoldable pub book : Term → List ℕ → RunState
book t moves = run (start t) (moves_of moves)

-- Nothing is played: the refusal, a tally of zeros, and both buffers as they were.
pub record Refused (n : ℕ) (out after slots after' : List ℕ) (p : Played) : Type 0 where
  pub reply : p ≡ refused_with n 0
  pub output : after ≡ out
  pub slots_are : after' ≡ slots

-- All is played as in the book: play's own reply, the replies in order, the last table, the tally; the last table is well formed; and twice the
-- meetings, the stops, the expiries and the load left are at most the load at the start and the load copied.
pub record Followed (t : Term) (moves out after slots after' : List ℕ) (p : Played) : Type 0 where
  pub reply : p.reply ≡ record { answer = 0; place = 0; records = size (book t moves).table }
  pub replied : after' ≡ reply_bytes (replies (start t) (moves_of moves)) ++ drop (6 * (length moves / 6)) slots
  pub last : after ≡ encode (book t moves).table ++ replicate (max_bytes - 16 * size (book t moves).table) 0 ++ drop max_bytes out
  pub tallied : p.tally ≡ tally_of (book t moves).tally
  pub formed : judge (encode (book t moves).table) ≡ accept (book t moves).table
  pub bound : 2 * p.tally.communications + p.tally.kills + p.tally.timeouts + load (book t moves).table ≤ load t + p.tally.copied

-- From the table of t.
pub record Demand3 (t : Term) (moves out after slots after' : List ℕ) (p : Played) : Type 0 where
  pub too_long : max_list_bytes < length moves → Refused 19 out after slots after' p
  pub short_output : length moves ≤ max_list_bytes → length out < max_bytes → Refused 21 out after slots after' p
  pub short_slots : length moves ≤ max_list_bytes → length slots < 6 * (length moves / 6) → Refused 21 out after slots after' p
  pub else_played : length moves ≤ max_list_bytes → max_bytes ≤ length out → 6 * (length moves / 6) ≤ length slots → Followed t moves out after slots after' p
