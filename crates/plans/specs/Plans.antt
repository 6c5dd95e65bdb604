-- What judging a move answers, with document 01's number and place for each case, and what writing its successor asks and gives.
use Rattle.std.specs.Prelude.{◌≡◌, List, ℕ, ◌*◌, ◌≤◌, length}
use Rattle.cows.specs.Basics.{place_if, Result, refuse, accept, ◌>>=◌, ◌>>◌, forbid}
use Rattle.cows.specs.Terms.{Term, size}
use Rattle.cows.specs.Format.{encode}
use Rattle.cows.specs.Step.{over_limits}
use Rattle.records.specs.Rewrites.{put}
use Rattle.ways.specs.Known.{Table, Known}
use Rattle.std.specs.Prelude as rust
use Rattle.std.specs.Prelude.{Ok, Err}
use Rattle.plans.specs.declared.Refusal.{Refusal}
use Rattle.plans.specs.declared.Refusal.TheVariants.{Unread, Absent, Differs, Apart, Held, Looser, Unripe, Timeless, Stuck, Large}
use Rattle.plans.specs.declared.Plan.{Plan}

-- the refusal, by its number and its place
abbrev pub refusal_of : {A : Type 0} → Refusal → Result A
refusal_of Unread = refuse 10 0
refusal_of (Absent p) = refuse 11 p
refusal_of (Differs p) = refuse 12 p
refusal_of (Apart p) = refuse 13 p
refusal_of (Held p) = refuse 14 p
refusal_of (Looser p) = refuse 15 p
refusal_of (Unripe p) = refuse 16 p
refusal_of Timeless = refuse 17 0
refusal_of (Stuck p) = refuse 18 p
refusal_of (Large p) = refuse 20 0

-- the number of records of the successor, or the refusal
abbrev pub result_of : rust.Result ℕ Refusal → Result ℕ
result_of (Ok n) = accept n
result_of (Err r) = refusal_of r

-- 20 behind a move's own refusals; the records of what is left
unfoldable pub limited : Result Term → Result ℕ
limited m = do
  s ← m
  forbid 20 (place_if (over_limits s) 0)
  accept (size s)

-- The plan of an allowed move says how many records its successor has, and where the table changes.
pub record Allowed (m : Result Term) (place : ℕ) (p : Plan) : Type 0 where
  pub judged : accept p.records ≡ limited m
  pub place_is : p.from ≡ place

-- The refusal of a move is that of its result; where its successor is over the limits, it has the place from which on the table would change.
pub record Refused (m : Result Term) (place : ℕ) (r : Refusal) : Type 0 where
  pub judged : refusal_of r ≡ limited m
  pub place_is : (s : Term) → m ≡ accept s → r ≡ Large place

-- What judging a move gives: its plan, or the refusal.
abbrev pub Planned : Result Term → ℕ → rust.Result Plan Refusal → Type 0
Planned m place (Ok p) = Allowed m place p
Planned m place (Err r) = Refused m place r

-- What writing asks: the move m is allowed on the table, its plan's place is at hand, and the output has room.
pub record Asks (m : Term → Result Term) (place : Term → ℕ) (s ends : List ℕ) (from : ℕ) (out : List ℕ) : Type 0 where
  pub known : Known s ends
  pub successor : Term
  pub accepted : m known.term ≡ accept successor
  pub place_is : from ≡ place known.term
  pub room : 16 * size successor ≤ length out

-- What it gives: the successor from the output's start, and every byte behind it as it was.
abbrev pub Gives : (Term → Result Term) → (s ends out after : List ℕ) → Type 0
Gives m s ends out after = (t r : Term) → Table s ends t → m t ≡ accept r → after ≡ put out 0 (encode r)
