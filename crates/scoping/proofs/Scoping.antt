-- Refusal 13 for a whole meeting, slot by slot.
use mathlib.Core.Path.{◌≡◌, refl, subst}
use mathlib.Core.Bool.{true, false, ◌&&◌}
use mathlib.Core.List.{List}
use Prim.Native.Nat.{ℕ, zero, suc, ◌+◌, ◌*◌, ◌<◌}
use lib.Dec.{eqb}
use lib.ListN.{get_or}
use borrow.Author.Tests.{eq-eqb}
use Rattle.cows.specs.Basics.{any, every, member}
use Rattle.cows.specs.Terms.{Term, size, value, variable, datum, uses, uses_basic}
use Rattle.cows.specs.Format.{word}
use Rattle.cows.specs.Within.{Right}
use Rattle.cows.specs.Allows.{Matches, empty, takes, equals}
use Rattle.cows.specs.Moves.{Substitution, in_scope}
use Rattle.cows.proofs.Basics.{never, clash, and_true, or_left, or_right, or_false}
use Rattle.cows.proofs.Sets.{datum-value}
use Rattle.cows.proofs.Stands.{right_at}
use Rattle.cows.proofs.Meeting.{Fits, fit_fits}
use Rattle.records.specs.Holds.{Holds}
use Rattle.matching.specs.Matching.{slot_test, ActionAt}
use Rattle.matching.proofs.Matches.{matches_every}
use Rattle.matching.proofs.Parties.{receive_ends, invoke_ends}
use Rattle.scoping.specs.Scopes.{MatchedParties, SlotSends}

-- what a variable takes is a value of the tuple sent
slot_sent : {ws vs : List ℕ} {σ : Substitution} → Matches ws vs σ → every datum vs ≡ true → any variable vs ≡ false → (i : ℕ) → variable (get_or ws i 0) ≡ true
    → (value (get_or vs i 0) ≡ true) × (member (get_or vs i 0) vs ≡ true)
unfolding every any member variable
slot_sent empty d n i e = never e
slot_sent (takes {v = v} {vs = vs} x m) d n zero e =
    (datum-value v (and_true (datum v) (every datum vs) d).0 (or_false (variable v) (any variable vs) n).0, or_left (eqb v v) _ (eq-eqb v v refl))
slot_sent (takes {v = v} {vs = vs} x m) d n (suc i) e =
    let (f, k) = slot_sent m (and_true (datum v) (every datum vs) d).1 (or_false (variable v) (any variable vs) n).1 i e in
    (f, or_right (eqb (get_or vs i 0) v) _ k)
slot_sent (equals x m) d n zero e = clash e x
slot_sent (equals {v = v} {vs = vs} x m) d n (suc i) e =
    let (f, k) = slot_sent m (and_true (datum v) (every datum vs) d).1 (or_false (variable v) (any variable vs) n).1 i e in
    (f, or_right (eqb (get_or vs i 0) v) _ k)

module _ (s : List ℕ) (a b : ℕ) (t : Term) (σ : Substitution) (holds : Holds s t) (place-a : a < size t) (place-b : b < size t) (h : MatchedParties a b t σ) where
  fitted : Fits h.receive h.invoke σ
  fitted = fit_fits h.receive h.invoke σ h.fits

  ends_a : ActionAt s a h.receive
  ends_a = receive_ends s t a holds place-a h.receive _ h.receives

  ends_b : ActionAt s b h.invoke
  ends_b = invoke_ends s t b holds place-b h.invoke h.invokes

  -- a slot of the two tuples
  slot : (i : ℕ) (w v : ℕ) → w ≡ get_or h.receive.tuple i 0 → v ≡ get_or h.invoke.tuple i 0 → SlotSends w v t b
  unfolding any uses uses_basic member
  slot i w v ew ev e =
      let m = h.invoke in
      let r = subst Right h.invokes (right_at t b holds.right) in
      let c = (or_false (variable m.operation) _ (or_false (variable m.partner) _ fitted.closed).1).1 in
      let (f, u) = slot_sent fitted.matches r.2.1 c i (rw ew at e) in
      record {
        sent = rw ev f;
        used = rw (ev, h.invokes) (or_right (eqb (get_or m.tuple i 0) m.partner) _ (or_right (eqb (get_or m.tuple i 0) m.operation) _ u));
      }

  -- so the four slots say it of every pair
  pub every_in_scope : every (in_scope t a b) σ ≡ (
      slot_test (in_scope t a b) (word s (16 * a + 6)) (word s (16 * b + 6)) && (slot_test (in_scope t a b) (word s (16 * a + 8)) (word s (16 * b + 8))
      && (slot_test (in_scope t a b) (word s (16 * a + 10)) (word s (16 * b + 10)) && slot_test (in_scope t a b) (word s (16 * a + 12)) (word s (16 * b + 12)))))
  every_in_scope =
      rw (ends_a.slot0, ends_a.slot1, ends_a.slot2, ends_a.slot3, ends_b.slot0, ends_b.slot1, ends_b.slot2, ends_b.slot3)
      (matches_every (in_scope t a b) fitted.matches ends_a.few)

  pub slots : SlotSends (word s (16 * a + 6)) (word s (16 * b + 6)) t b × SlotSends (word s (16 * a + 8)) (word s (16 * b + 8)) t b
      × SlotSends (word s (16 * a + 10)) (word s (16 * b + 10)) t b × SlotSends (word s (16 * a + 12)) (word s (16 * b + 12)) t b
  slots =
      (slot 0 _ _ ends_a.slot0 ends_b.slot0, slot 1 _ _ ends_a.slot1 ends_b.slot1, slot 2 _ _ ends_a.slot2 ends_b.slot2, slot 3 _ _ ends_a.slot3 ends_b.slot3)
