-- 13 by places: how far a receive reaches. And what the steps of the list know of a receive, of a pair and of a walk along a chain.
use Rattle.std.specs.Prelude.{◌≡◌, Bool, true, cond, ◌&&◌, List, ℕ, ◌+◌, ◌-◌, ◌*◌, ◌/◌, ◌%◌, ◌≤◌, ◌<◌, min, max, leb, ltb, eqb, length, get_or}
use Rattle.cows.specs.Limits.{max_records}
use Rattle.cows.specs.Terms.{Term, variable}
use Rattle.cows.specs.Format.{word}
use Rattle.records.specs.Holds.{Holds}
use Rattle.ways.specs.Known.{Table}
use Rattle.roles.specs.declared.Role.{Role}
use Rattle.roles.specs.declared.Role.TheVariants.{Receiver}
use Rattle.roles.specs.Roles.{role_at, behind_of, sending, receiving}
use Rattle.roles.specs.Played.{Played, Fewest}
use Rattle.chains.specs.Chains.{class_at, BySender}
use Rattle.meetings.specs.declared.Reach.{Reach}
use Rattle.meetings.specs.Meetings.{Sent}

-- There is a term in the table; its numbers are small.
pub record Tabled (s : List ℕ) : Type 0 where
  pub term : Term
  pub holds : Holds s term
  pub few : length s / 16 ≤ max_records

-- the first k numbers of `sent`, four for each place, are those that it is to have (specs/Meetings, Sent)
abbrev pub SentTo : List ℕ → Term → List ℕ → ℕ → Type 0
SentTo s t sent k = (j : ℕ) → j < k → sending t (j / 4) ≡ true → get_or sent j 0 ≡ behind_of t (word s (16 * (j / 4) + (6 + 2 * (j % 4))))

-- the place behind the delimitation of an atom of a pattern, if it is a variable, or 0
unfoldable pub reach_low : Term → ℕ → ℕ
reach_low t w = cond (variable w) (behind_of t w) 0

-- where the delimitation before place p ends, and what the place behind that of a value is below; with no delimitation no bound
abbrev pub reach_end : (ends : List ℕ) (n p : ℕ) → ℕ
reach_end ends n p = cond (eqb p 0) n (get_or ends (p - 1) 0)

abbrev pub reach_top : ℕ → ℕ
reach_top p = cond (eqb p 0) 65536 p

-- x is the reach of a receive whose variables have these places
pub record Reaching (ends : List ℕ) (n p0 p1 p2 p3 : ℕ) (x : Reach) : Type 0 where
  pub low : x.low ≡ max (max p0 p1) (max p2 p3)
  pub end : x.end ≡ min (min (reach_end ends n p0) (reach_end ends n p1)) (min (reach_end ends n p2) (reach_end ends n p3))
  pub top0 : get_or x.top 0 0 ≡ reach_top p0
  pub top1 : get_or x.top 1 0 ≡ reach_top p1
  pub top2 : get_or x.top 2 0 ≡ reach_top p2
  pub top3 : get_or x.top 3 0 ≡ reach_top p3

abbrev pub ReachOf : (s ends : List ℕ) (t : Term) (a : ℕ) (x : Reach) → Type 0
ReachOf s ends t a x =
    Reaching ends (length s / 16) (reach_low t (word s (16 * a + 6))) (reach_low t (word s (16 * a + 8))) (reach_low t (word s (16 * a + 10))) (reach_low t (word s (16 * a + 12))) x

-- an invoke at place b is in reach, by the places of what it sends
abbrev pub reach_test : (x : Reach) (b q0 q1 q2 q3 : ℕ) → Bool
reach_test x b q0 q1 q2 q3 = leb x.low b && ltb b x.end && ltb q0 (get_or x.top 0 0) && ltb q1 (get_or x.top 1 0) && ltb q2 (get_or x.top 2 0) && ltb q3 (get_or x.top 3 0)

-- A receive and an invoke that may be parties, and what is known for their test.
pub record Facing (s ends fewest sent : List ℕ) (a b : ℕ) (x : Reach) (t : Term) : Type 0 where
  pub table : Table s ends t
  pub reach : ReachOf s ends t a x
  pub numbers : Fewest t fewest
  pub scopes : Sent s t sent
  pub receiver : receiving t a ≡ true
  pub sender : sending t b ≡ true

-- The walk of the receive at place a: `first` is the first of the chain of its class.
pub record Along (s ends : List ℕ) (a first : ℕ) (next : List ℕ) : Type 0 where
  pub cast : List Role
  pub heads : List ℕ
  pub played : Played s ends cast
  pub senders : BySender s cast heads next
  pub placed : a < length s / 16
  pub receiver : role_at cast a ≡ Receiver
  pub at : first ≡ get_or heads (class_at s a) 0
