-- What the list of open moves needs, and what is answered and left in its buffer.
use Rattle.std.specs.Prelude.{◌≡◌, List, ℕ, ◌+◌, ◌*◌, ◌≤◌, ltb, length}
use Rattle.cows.specs.Basics.{place_if, Result, accept, ◌>>◌, forbid}
use Rattle.cows.specs.Terms.{Term}
use Rattle.cows.specs.Moves.{Move}
use Rattle.tables.specs.declared.Reply.{Reply}
use Rattle.ways.specs.Known.{Table}
use Rattle.stepper.specs.Replies.{reply_of}
use Rattle.roles.specs.declared.Role.{Role}
use Rattle.roles.specs.declared.Role.TheVariants as role
use Rattle.entries.specs.Entries.{places_of}
use Rattle.meetings.specs.declared.Survey.{Survey}
use Rattle.opening.specs.Opening.{open_moves, judge_open, open_reply, open_buffer}

-- a buffer of so many bytes has room for all open moves of the table
abbrev pub Enough : Survey → ℕ → Type 0
Enough x room = (t : Term) → Table x.table.bytes.now x.table.ends.now t → 6 * length (open_moves t) ≤ room

-- how many of the first n places have a role in a move of their own
abbrev pub alone_in : List Role → ℕ → ℕ
alone_in cast n = length (places_of cast role.Kill n) + length (places_of cast role.Timeout n) + length (places_of cast role.Unfold n) + length (places_of cast role.Extrude n)

-- the open moves of a term, with room for so many bytes: 22
unfoldable pub listing : Term → ℕ → Result (List Move)
listing t room = do
  forbid 22 (place_if (ltb room (6 * length (open_moves t))) (length (open_moves t)))
  accept (open_moves t)

-- The reply r and every byte of the list are those of a result.
pub record Answered (x : Result (List Move)) (list after : List ℕ) (r : Reply) : Type 0 where
  pub replies : r ≡ reply_of (open_reply x)
  pub output : after ≡ open_buffer x list

-- So they are those of the list of the table, whatever term it holds.
abbrev pub Listed : (x : Survey) (list after : List ℕ) → Reply → Type 0
Listed x list after r = (t : Term) → Table x.table.bytes.now x.table.ends.now t → Answered (listing t (length list)) list after r

-- What `open` gives on any bytes.
pub record Opened (table list after : List ℕ) (r : Reply) : Type 0 where
  pub replies : r ≡ reply_of (open_reply (judge_open table (length list)))
  pub output : after ≡ open_buffer (judge_open table (length list)) list
