-- What the test of scopes knows of a meeting: what the parties bind, and that the invoke uses the value.
use Rattle.std.specs.Prelude.{◌≡◌, true, ℕ}
use Rattle.cows.specs.Basics.{member}
use Rattle.cows.specs.Terms.{Term, leaf, under, Action, value, variable, below, uses, receive_of, invoke_of}
use Rattle.cows.specs.Places.{sub}
use Rattle.cows.specs.Moves.{Substitution, binds, fit}

-- A value v that the record at place b uses.
pub record Sends (v : ℕ) (t : Term) (b : ℕ) : Type 0 where
  pub sent : value v ≡ true
  pub used : member v (uses (sub t b)) ≡ true

-- A receive at place a and an invoke at place b, and what the two bind.
pub record MatchedParties (a b : ℕ) (t : Term) (σ : Substitution) : Type 0 where
  pub receive : Action
  pub invoke : Action
  pub receives : sub t a ≡ under (receive_of receive) (below (sub t a))
  pub invokes : sub t b ≡ leaf (invoke_of invoke)
  pub fits : fit receive invoke ≡ binds σ

-- One slot: if w is a variable, then v is a value that is sent.
abbrev pub SlotSends : (w v : ℕ) (t : Term) (b : ℕ) → Type 0
SlotSends w v t b = variable w ≡ true → Sends v t b
