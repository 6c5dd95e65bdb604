-- A communication as it is judged, part by part: the parties, what they are asked, and what the plan needs.
use Rattle.std.specs.Prelude.{◌≡◌, List, ℕ, ◌+◌, ◌-◌}
use Rattle.cows.specs.Basics.{accept}
use Rattle.cows.specs.Terms.{Term, Action, size}
use Rattle.cows.specs.Places.{way_to, sub}
use Rattle.cows.specs.Moves.{fit, communicate_at}
use Rattle.ways.specs.Known.{Known}
use Rattle.ways.specs.Ways.{start_of, LiveAt}
use Rattle.std.specs.Prelude as rust
use Rattle.std.specs.Prelude.{Ok, Err}
use Rattle.matching.specs.Matching.{fit_of, ActionAt}
use Rattle.plans.specs.declared.Refusal.{Refusal}
use Rattle.plans.specs.Plans.{refusal_of}

-- A live receive stands at place a and a live invoke at place b.
pub record BothLive (s : List ℕ) (a b : ℕ) (t : Term) : Type 0 where
  pub receive : LiveAt s t a 3
  pub invoke : LiveAt s t b 2

-- The receive and the invoke match, and bind l variables.
abbrev pub BothMatch : (s : List ℕ) (a b l : ℕ) → Type 0
BothMatch s a b l = (q m : Action) → ActionAt s a q → ActionAt s b m → Ok l ≡ fit_of (fit q m)

-- The two may meet and bind l variables, and so many records are left; or the refusal.
pub record Meetable (t : Term) (a b l : ℕ) : Type 0 where
  pub after : Term
  pub accepted : communicate_at t a b ≡ accept after
  pub count : size after + l + size (sub t (start_of a (way_to t a))) ≡ size t + (size (sub t a) - 1)

abbrev pub Settles : (t : Term) (a b : ℕ) → rust.Result ℕ Refusal → Type 0
Settles t a b (Ok l) = Meetable t a b l
Settles t a b (Err r) = communicate_at t a b ≡ refusal_of r

-- What the plan needs: a live receive of a known table, and an invoke that it may meet.
pub record Continues (s ends : List ℕ) (a from l : ℕ) : Type 0 where
  pub known : Known s ends
  pub live : LiveAt s known.term a 3
  pub start : from ≡ start_of a (way_to known.term a)
  pub sender : ℕ
  pub meets : Meetable known.term a sender l
