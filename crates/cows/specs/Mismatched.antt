-- 12 as relations (2026-02): each number for itself, and when a step tells which. Nothing is searched for, and the function that finds the number is not mentioned.
use Rattle.std.specs.Prelude.{◌≡◌, ◌≢◌, true, false, List, ◌∷◌, ℕ, ◌+◌, ◌≤◌, length}
use mathlib.Core.Option.{some}
use lib.ListN.{get_elem?}
use Rattle.cows.specs.Basics.{any}
use Rattle.cows.specs.Terms.{Term, leaf, under, Action, variable, receive_of, invoke_of}
use Rattle.cows.specs.Format.{encode}
use Rattle.cows.specs.Within.{Within}
use Rattle.cows.specs.Proposed.{Communicate}
use Rattle.cows.specs.Allows.{StandsLive}
use Rattle.cows.specs.Step.{read_move}

-- In slot i a pattern asks for a value, and another is sent.
pub record ValuesDiffer (pattern tuple : List ℕ) (i : ℕ) : Type 0 where
  pub asked : ℕ
  pub sent : ℕ
  pub asked_at : get_elem? pattern i ≡ some asked
  pub sent_at : get_elem? tuple i ≡ some sent
  pub no-variable : variable asked ≡ false
  pub other : asked ≢ sent

-- In what the receive r and the invoke m differ: 0, a variable of m, in its endpoint or its tuple, is unset; 1, the endpoints differ; 2, the tuples' counts;
-- 3 to 6, the values in the first to the fourth slot.
pub data Unlike (r m : Action) : ℕ → Type 0 where
  unset : any variable (m.partner ∷ m.operation ∷ m.tuple) ≡ true → Unlike r m 0
  partner : r.partner ≢ m.partner → Unlike r m 1
  operation : r.operation ≢ m.operation → Unlike r m 1
  count : length r.tuple ≢ length m.tuple → Unlike r m 2
  slot : (i : ℕ) → ValuesDiffer r.tuple m.tuple i → Unlike r m (3 + i)

-- the lowest number of which P holds
pub record Lowest (P : ℕ → Type 0) (n : ℕ) : Type 0 where
  pub applies : P n
  pub least : (i : ℕ) → P i → n ≤ i

-- The bytes m propose a meeting, on the table of a term within the limits, of a live receive and a live invoke, and n is the lowest number in which they differ.
pub record Mismatched (table m : List ℕ) (n : ℕ) : Type 0 where
  pub term : Term
  pub within : Within term
  pub table_of : encode term ≡ table
  pub a : ℕ
  pub b : ℕ
  pub reads : read_move m ≡ some (Communicate a b)
  pub receive : Action
  pub body : Term
  pub invoke : Action
  pub receiver : StandsLive term a (under (receive_of receive) body)
  pub sender : StandsLive term b (leaf (invoke_of invoke))
  pub lowest : Lowest (Unlike receive invoke) n
