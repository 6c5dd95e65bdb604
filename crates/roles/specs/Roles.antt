-- Roles: what a record says by itself of the moves that are open (request 2026-01), as one role for each place.
use Rattle.std.specs.Prelude.{not, ◌≡◌, Bool, false, cond, ◌&&◌, ◌||◌, List, [], ◌∷◌, ℕ, zero, suc, ◌+◌, ◌-◌, ◌<◌, min, max, leb, ltb, eqb, length, get_or}
use mathlib.Core.Option.{Option, none, some}
use Rattle.cows.specs.Limits.{max_records, max_depth, max_slots}
use Rattle.cows.specs.Basics.{every, found_with, found, only, first_from}
use Rattle.cows.specs.Terms.{nil, kill, invoke, receive, wait, protection, delimitation, replication, Term, Action, size, depth, kills, invokes, prefixed, receives, waits, delimits, replicates, delimits_at, label}
use Rattle.cows.specs.Kinds.{Node, basic, prefix, join, root}
use Rattle.cows.specs.Places.{inside, left_of, right_of, Way, Spot, spot_at, way_to, sub, first}
use Rattle.cows.specs.Active.{live, ready}
use Rattle.roles.specs.declared.Role.{Role}
use Rattle.roles.specs.declared.Role.TheVariants.{Idle, Kill, Timeout, Unfold, Extrude, Sender, Receiver, Rival, Holder}
use Rattle.cows.specs.Moves.{Matching, binds, differs, closed_action, fit, in_scope, ready_kill, held_back}

-- What the live record at place n says, if it is of the kind.
unfoldable pub seen : {A : Type 0} → (Term → Option A) → Term → ℕ → Option A
seen look t n = only (ltb n (size t) && live (way_to t n)) (look (sub t n))

-- 14 for one party: nothing holds back place c.
unfoldable pub unheld : Term → ℕ → Bool
unheld t c = not (found (first (held_back c c) t))

-- The record at place n delimits a label of which a ready kill stands in the table.
unfoldable pub holding : Term → ℕ → Bool
holding t n = found_with (λ k. found (first (ready_kill k) t)) (prefixed delimits (sub t n))

-- 14 in one walk: the furthest end of such records among the first c places.
unfoldable pub furthest : (ℕ → Bool) → (ℕ → ℕ) → ℕ → ℕ
furthest f end zero = 0
furthest f end (suc k) = cond (f k) (max (furthest f end k) (end k)) (furthest f end k)

unfoldable pub held_until : Term → ℕ → ℕ
held_until t c = furthest (holding t) (λ n. n + size (sub t n)) c

-- 15: how many variables a ready receive binds that fits the invoke m; for any other record a number above that of every tuple. The fewest among the first k
-- places, and among all.
abbrev pub unfit : ℕ
unfit = suc max_slots

unfoldable pub bound_by : Matching → ℕ
bound_by (binds σ) = length σ
bound_by (differs d) = unfit

unfoldable pub bound_at : Action → Option Action → ℕ
bound_at m none = unfit
bound_at m (some r) = bound_by (fit r m)

unfoldable pub ready_bound : Action → Spot → ℕ
ready_bound m z = bound_at m (only (ready z.way) (prefixed receives z.here))

unfoldable pub fewest_below : (ℕ → ℕ) → ℕ → ℕ
fewest_below f zero = unfit
fewest_below f (suc k) = min (fewest_below f k) (f k)

unfoldable pub fewest_bound : Term → Action → ℕ
fewest_bound t m = fewest_below (λ n. ready_bound m (spot_at t n)) (size t)

-- The place behind the first of the places i to n - 1 that passes, or 0; that behind the delimitation of an atom.
unfoldable pub after : Option ℕ → ℕ
after none = 0
after (some q) = suc q

unfoldable pub first_of : (ℕ → Bool) → ℕ → ℕ → ℕ
first_of f n i = after (first_from f i (n - i))

unfoldable pub behind_of : Term → ℕ → ℕ
behind_of t a = first_of (λ n. delimits_at a (sub t n)) (size t) 0

-- 20 by depth: the term at place n reaches the greatest depth; the one beside it does.
unfoldable pub full : Term → ℕ → Bool
full t n = eqb (length (way_to t n) + depth (sub t n)) max_depth

unfoldable pub beside : Way → Option Term
beside [] = none
beside (inside u ∷ w) = none
beside (left_of j r ∷ w) = some r
beside (right_of j s ∷ w) = some s

unfoldable pub crowded : Term → ℕ → Bool
crowded t n = found_with (λ s. eqb (length (way_to t n) + depth s) max_depth) (beside (way_to t n))

-- The roles of a record. In a move of its own: a kill, an expiry, an unfolding whose result is not too large, a floating of a value or a variable from a place
-- other than the root. In a meeting: a live invoke without variables and a live receive, neither held back. Against a meeting: a ready receive.
unfoldable pub firing : Term → ℕ → Bool
firing t n = found (seen kills t n)

unfoldable pub expiring : Term → ℕ → Bool
expiring t n = found_with (λ i. eqb i 0) (seen (prefixed waits) t n)

unfoldable pub repeating : Term → ℕ → Bool
repeating t n = found (seen (prefixed replicates) t n) && leb (size t + size (sub t n)) max_records

unfoldable pub floating : Term → ℕ → Bool
floating t n = found_with (λ d. not (label d)) (seen (prefixed delimits) t n) && ltb 0 n

unfoldable pub sending : Term → ℕ → Bool
sending t n = found_with closed_action (seen invokes t n) && unheld t n

unfoldable pub receiving : Term → ℕ → Bool
receiving t n = found (seen (prefixed receives) t n) && unheld t n

unfoldable pub rivalling : Term → ℕ → Bool
rivalling t n = ready (way_to t n) && found (prefixed receives (sub t n))

-- Places a and b meet: a live receive at a and a live invoke at b fit, the variables bound are in scope (13), neither is held back (14), and no ready receive
-- that fits binds fewer (15).
unfoldable pub meets_by : Term → ℕ → ℕ → Action → Matching → Bool
meets_by t a b m (binds σ) = every (in_scope t a b) σ && (unheld t a && (unheld t b && eqb (length σ) (fewest_bound t m)))
meets_by t a b m (differs d) = false

unfoldable pub meets_as : Term → ℕ → ℕ → Option Action → Option Action → Bool
meets_as t a b none y = false
meets_as t a b (some r) none = false
meets_as t a b (some r) (some m) = meets_by t a b m (fit r m)

unfoldable pub meets : Term → ℕ → ℕ → Bool
meets t a b = meets_as t a b (seen (prefixed receives) t a) (seen invokes t b)

-- a number for each role
abbrev pub number_of_role : Role → ℕ
number_of_role Idle = 0
number_of_role Kill = 1
number_of_role Timeout = 2
number_of_role Unfold = 3
number_of_role Extrude = 4
number_of_role Sender = 5
number_of_role Receiver = 6
number_of_role Rival = 7
number_of_role Holder = 8

-- a and b are one role
abbrev pub is_role : Role → Role → Bool
is_role a b = eqb (number_of_role a) (number_of_role b)

-- the role at a place; no place has one yet
abbrev pub role_at : List Role → ℕ → Role
role_at roles n = get_or roles n Idle

abbrev pub Unassigned : List Role → Type 0
Unassigned roles = (n : ℕ) → role_at roles n ≡ Idle

abbrev pub role_if : Bool → Role → Role
role_if b r = cond b r Idle

-- What is known after the ready records: which delimitations hold back, and which receives are rivals.
unfoldable pub ready_role : Term → ℕ → Role
ready_role t n = cond (holding t n) Holder (role_if (rivalling t n) Rival)

-- The role of a live record, by what stands there.
unfoldable pub live_role : Term → ℕ → Node → Role
live_role t n (basic nil) = Idle
live_role t n (basic (kill k)) = Kill
live_role t n (basic (invoke p o ws)) = role_if (unheld t n && closed_action (record { partner = p; operation = o; tuple = ws })) Sender
live_role t n (prefix (receive p o ws)) = cond (unheld t n) Receiver Rival
live_role t n (prefix (wait i)) = role_if (eqb i 0) Timeout
live_role t n (prefix protection) = Idle
live_role t n (prefix (delimitation d)) = cond (label d) (ready_role t n) (role_if (ltb 0 n) Extrude)
live_role t n (prefix replication) = role_if (leb (size t + size (sub t n)) max_records) Unfold
live_role t n (join j) = Idle

unfoldable pub role_of : Term → ℕ → Role
role_of t n = cond (live (way_to t n)) (live_role t n (root (sub t n))) (ready_role t n)

-- An unfolding or a floating that would be too deep has no role.
unfoldable pub deepens : Term → ℕ → Role → Bool
deepens t n r = (is_role r Unfold && full t n) || (is_role r Extrude && crowded t n)

unfoldable pub open_role : Term → ℕ → Role
open_role t n = cond (deepens t n (role_of t n)) Idle (role_of t n)

-- `roles` has these for every place of t.
abbrev pub Cast : Term → List Role → Type 0
Cast t roles = (n : ℕ) → n < size t → role_at roles n ≡ open_role t n
