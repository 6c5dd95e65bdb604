-- The meetings of a term, and what their list needs and leaves.
use Rattle.std.specs.Prelude.{◌≡◌, Bool, true, cond, List, [], map, ℕ, ◌+◌, ◌*◌, ◌<◌, length, get_or}
use Rattle.cows.specs.Terms.{Term, size}
use Rattle.cows.specs.Format.{word}
use Rattle.cows.specs.Moves.{Move, Communicate}
use Rattle.records.specs.Rewrites.{put}
use Rattle.roles.specs.Roles.{behind_of, sending, meets}
use Rattle.opening.specs.Opening.{up_from, filter, each, six_byte_form}

-- 13, from the side of the invokes: `sent` has for each of the four slots the place behind the delimitation of what is sent there, or 0.
abbrev pub Sent : List ℕ → Term → List ℕ → Type 0
Sent s t sent = (b i : ℕ) → b < size t → i < 4 → sending t b ≡ true → get_or sent (4 * b + i) 0 ≡ behind_of t (word s (16 * b + (6 + 2 * i)))

-- the meetings of the receive at place a, and all, by a then b
unfoldable pub meetings_at : Term → ℕ → List Move
meetings_at t a = map (Communicate a) (filter (meets t a) (up_from 0 (size t)))

unfoldable pub meetings_of : Term → List Move
meetings_of t = each (meetings_at t) (up_from 0 (size t))

-- The moves ms are listed behind m others, written or counted, and nothing else has changed.
pub record Lists (writes : Bool) (out : List ℕ) (m : ℕ) (ms : List Move) (after : List ℕ) (count : ℕ) : Type 0 where
  pub number : count ≡ m + length ms
  pub is : after ≡ put out (6 * m) (cond writes (each six_byte_form ms) [])

-- So are all meetings of t.
abbrev pub MeetingsIn : (t : Term) (writes : Bool) (out : List ℕ) (m : ℕ) (after : List ℕ) (count : ℕ) → Type 0
MeetingsIn t writes out m after count = Lists writes out m (meetings_of t) after count
