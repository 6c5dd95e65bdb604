-- Pairs that meet (roles, specs/Roles, meets): their parties, the class that these share, and the test by what the two bind.
use mathlib.Core.Path.{◌≡◌, ap}
use mathlib.Core.Bool.{true, false, not, ◌&&◌}
use mathlib.Core.List.{List}
use mathlib.Core.Option.{some}
use Prim.Native.Nat.{ℕ}
use lib.Dec.{eqb}
use lib.ListN.{length}
use Rattle.cows.specs.Basics.{every, found_with, found}
use Rattle.cows.specs.Terms.{Term, leaf, under, Action, receive_of, invoke_of, invokes, prefixed, receives, below}
use Rattle.cows.specs.Places.{sub}
use Rattle.cows.specs.Moves.{Substitution, Mismatch, binds, differs, closed_action, fit, in_scope}
use Rattle.cows.specs.Allows.{StandsLive}
use Rattle.cows.proofs.Basics.{and_true, true_and, found_some, holds_some}
use Rattle.cows.proofs.Stands.{looks, invokes_is, wanted-live}
use Rattle.cows.proofs.Meeting.{fit_fits}
use Rattle.ways.specs.Known.{Table}
use Rattle.matching.specs.Matching.{ActionAt}
use Rattle.matching.proofs.Parties.{receive_ends, invoke_ends}
use Rattle.criteria.proofs.Meetings.{pair_has}
use Rattle.roles.specs.Roles.{seen, unheld, fewest_bound, sending, receiving, meets_by, meets_as, meets}
use Rattle.chains.specs.Chains.{class_at}
use Rattle.criteria.proofs.Seen.{seen-wanted, seen-prefix}

-- What a receive and an invoke have that may be a party.
pub record Receiver (t : Term) (a : ℕ) : Type 0 where
  pub receive : Action
  pub receives : seen (prefixed receives) t a ≡ some receive
  pub free : unheld t a ≡ true

pub record Sender (t : Term) (b : ℕ) : Type 0 where
  pub invoke : Action
  pub invokes : seen invokes t b ≡ some invoke
  pub closed : closed_action invoke ≡ true
  pub free : unheld t b ≡ true

pub receiver_has : (t : Term) (a : ℕ) → receiving t a ≡ true → Receiver t a
unfolding receiving
receiver_has t a e =
    let (f, u) = and_true (found (seen (prefixed receives) t a)) _ e in
    let (r, x) = found_some (seen (prefixed receives) t a) f in
    record { receive = r; receives = x; free = u }

pub sender_has : (t : Term) (b : ℕ) → sending t b ≡ true → Sender t b
unfolding sending
sender_has t b e =
    let (f, u) = and_true (found_with closed_action (seen invokes t b)) _ e in
    let (m, y, c) = holds_some closed_action (seen invokes t b) f in
    record { invoke = m; invokes = y; closed = c; free = u }

module _ (t : Term) (n : ℕ) where
  pub receiver_stands : (x : Receiver t n) → StandsLive t n (under (receive_of x.receive) (below (sub t n)))
  receiver_stands x = seen-prefix receives receive_of (λ u. (looks u).receiving) t n x.receive x.receives

  pub sender_stands : (y : Sender t n) → StandsLive t n (leaf (invoke_of y.invoke))
  sender_stands y = wanted-live invokes t n y.invoke (leaf (invoke_of y.invoke)) (invokes_is (sub t n) y.invoke) (seen-wanted invokes t n y.invoke y.invokes)

  pub receiver_ends : (s ends : List ℕ) → Table s ends t → (x : Receiver t n) → ActionAt s n x.receive
  receiver_ends s ends h x = let l = receiver_stands x in receive_ends s t n h.holds l.at.placed x.receive _ l.at.stands

  pub sender_ends : (s ends : List ℕ) → Table s ends t → (y : Sender t n) → ActionAt s n y.invoke
  sender_ends s ends h y = let l = sender_stands y in invoke_ends s t n h.holds l.at.placed y.invoke l.at.stands

-- What a pair that meets has.
record Pairing (t : Term) (a b : ℕ) : Type 0 where
  pub receiver : Receiver t a
  pub sender : Sender t b
  pub pairs : Substitution
  pub fits : fit receiver.receive sender.invoke ≡ binds pairs

module _ (t : Term) (a b : ℕ) where
  meets_has : meets t a b ≡ true → Pairing t a b
  unfolding meets closed_action
  meets_has e =
      let p = pair_has t a b (seen (prefixed receives) t a) (seen invokes t b) e in
      record {
        receiver = record { receive = p.receive; receives = p.receives; free = p.receiver };
        sender = record { invoke = p.invoke; invokes = p.invokes; closed = ap not (fit_fits p.receive p.invoke p.pairs p.fits).closed; free = p.sender };
        pairs = p.pairs;
        fits = p.fits;
      }

  -- its places are a receive and an invoke that may be parties
  pub meets-receives : meets t a b ≡ true → receiving t a ≡ true
  unfolding receiving found
  meets-receives e = let x = (meets_has e).receiver in rw x.receives x.free

  pub meets-sends : meets t a b ≡ true → sending t b ≡ true
  unfolding sending found_with
  meets-sends e = let y = (meets_has e).sender in rw y.invokes (true_and y.closed y.free)

  -- on one endpoint, so in one class
  pub meets_class : (s ends : List ℕ) → Table s ends t → meets t a b ≡ true → class_at s b ≡ class_at s a
  unfolding class_at
  meets_class s ends h e =
      let p = meets_has e in
      let f = fit_fits p.receiver.receive p.sender.invoke p.pairs p.fits in
      let x = receiver_ends t a s ends h p.receiver in
      let y = sender_ends t b s ends h p.sender in
      rw (x.partner, x.operation, y.partner, y.operation, f.partner, f.operation)

  -- the test of two that may be parties
  module _ (x : Receiver t a) (y : Sender t b) where
    pub meets-binds : (σ : Substitution) → fit x.receive y.invoke ≡ binds σ → meets t a b ≡ (every (in_scope t a b) σ && eqb (length σ) (fewest_bound t y.invoke))
    unfolding meets meets_as meets_by
    meets-binds σ f = rw (x.receives, y.invokes, f, x.free, y.free)

    pub meets-differs : (d : Mismatch) → fit x.receive y.invoke ≡ differs d → meets t a b ≡ false
    unfolding meets meets_as meets_by
    meets-differs d f = rw (x.receives, y.invokes, f)
