-- Refusal 13 by the places that a receive reaches (specs/Reaching), slot by slot.
use mathlib.Core.Path.{◌≡◌, refl, sym, ap, subst, ◌∙◌}
use mathlib.Core.Bool.{Bool, true, false, cond, not, ◌&&◌, ◌||◌}
use mathlib.Core.List.{List, [], ◌∷◌}
use Prim.Native.Nat.{ℕ, zero, suc, ◌+◌, ◌-◌, ◌*◌, ◌/◌, ◌≤◌, ◌<◌}
use native.Mathlib.Omega.{arith}
use native.Mathlib.Nat.{add-zero}
use lib.Dec.{leb, ltb, eqb, leb-suc-suc}
use lib.ListN.{length, get_or, get_or-eq_default}
use borrow.Author.Tests.{ltb-true, lt-ltb, leb-true, le-leb, eq-eqb, ne_eqb}
use Rattle.cows.specs.Basics.{any, every, member}
use Rattle.cows.specs.Terms.{Term, size, value, variable, datum, bindable, uses, uses_basic, uses_prefix}
use Rattle.cows.specs.Places.{way_to, sub, encloses, enclosed}
use Rattle.cows.specs.Format.{word}
use Rattle.cows.specs.Within.{Right}
use Rattle.cows.specs.Moves.{Substitution, binds, fit, in_scope}
use Rattle.cows.proofs.Basics.{clash, lt_case, and_true, true_and, same_test, or_left, or_right, or_false}
use Rattle.cows.proofs.Sets.{datum-value}
use Rattle.cows.proofs.Stands.{right_at, scoped_at}
use Rattle.cows.proofs.Reach.{enclosed_reaches}
use Rattle.cows.proofs.Meeting.{Fits, fit_fits, matches_lengths}
use Rattle.records.specs.Holds.{Holds}
use Rattle.ways.specs.Known.{Table, Known}
use Rattle.ways.proofs.KnownTables.{table_size, table_ended}
use Rattle.matching.specs.Matching.{slot_test}
use Rattle.matching.proofs.Matches.{matches_every}
use Rattle.scoping.proofs.InScope.{bound_used}
use Rattle.roles.specs.Roles.{behind_of, sending}
use Rattle.chains.proofs.Chaining.{first_most}
use Rattle.criteria.proofs.Scopes.{behind-some, behind-none, scope_places}
use Rattle.meetings.specs.declared.Reach.{Reach}
use Rattle.meetings.specs.Meetings.{Sent}
use Rattle.meetings.specs.Reaching.{reach_low, reach_end, reach_top, Reaching, ReachOf, reach_test}
use Rattle.meetings.proofs.Pairs.{Receiver, Sender, receiver_stands, sender_stands, receiver_ends, sender_ends}

-- no delimitation is behind the last place
pub behind_most : (t : Term) (a : ℕ) → behind_of t a ≤ size t
unfolding behind_of
behind_most t a = first_most _ (size t) 0

low_most : (t : Term) (w : ℕ) → reach_low t w ≤ size t
unfolding reach_low
low_most t w = go (variable w)
  where
    go : (b : Bool) → cond b (behind_of t w) 0 ≤ size t
    go true = behind_most t w
    go false = omega arith

pub low_few : (s ends : List ℕ) (k : Known s ends) (w r : ℕ) → ((t : Term) → Holds s t → r ≡ reach_low t w) → r ≤ length ends
low_few s ends k w r f = omega (arith, f k.term k.table.holds, low_most k.term w, table_size s ends k.term k.table, k.room)

-- one slot is in reach: p and q are the places of what stands there in the pattern and in the message
abbrev slot_reach : (ends : List ℕ) (n b p q : ℕ) → Bool
slot_reach ends n b p q = leb p b && ltb b (reach_end ends n p) && ltb q (reach_top p)

slot-true : (ends : List ℕ) (n b p q : ℕ) → slot_reach ends n b p q ≡ true → (p ≤ b) × (b < reach_end ends n p) × (q < reach_top p)
slot-true ends n b p q e =
    let (f, g) = and_true (leb p b && ltb b (reach_end ends n p)) _ e in
    let (h, k) = and_true (leb p b) _ f in
    (leb-true p b h, ltb-true b (reach_end ends n p) k, ltb-true q (reach_top p) g)

true-slot : (ends : List ℕ) (n b p q : ℕ) → p ≤ b → b < reach_end ends n p → q < reach_top p → slot_reach ends n b p q ≡ true
true-slot ends n b p q h k l = true_and (true_and (le-leb p b h) (lt-ltb b (reach_end ends n p) k)) (lt-ltb q (reach_top p) l)

-- four slots are in reach
reach_four : (ends : List ℕ) (n p0 p1 p2 p3 : ℕ) (x : Reach) → Reaching ends n p0 p1 p2 p3 x → (b q0 q1 q2 q3 : ℕ)
    → reach_test x b q0 q1 q2 q3 ≡ (slot_reach ends n b p0 q0 && (slot_reach ends n b p1 q1 && (slot_reach ends n b p2 q2 && slot_reach ends n b p3 q3)))
reach_four ends n p0 p1 p2 p3 x r b q0 q1 q2 q3 =
    same_test
    (λ e.
    let (e₅, h₃) = and_true (leb x.low b && ltb b x.end && ltb q0 (get_or x.top 0 0) && ltb q1 (get_or x.top 1 0) && ltb q2 (get_or x.top 2 0)) _ e in
    let (e₄, h₂) = and_true (leb x.low b && ltb b x.end && ltb q0 (get_or x.top 0 0) && ltb q1 (get_or x.top 1 0)) _ e₅ in
    let (e₃, h₁) = and_true (leb x.low b && ltb b x.end && ltb q0 (get_or x.top 0 0)) _ e₄ in
    let (e₂, h₀) = and_true (leb x.low b && ltb b x.end) _ e₃ in
    let (l, k) = and_true (leb x.low b) _ e₂ in
    let low = leb-true x.low b l in
    let end = ltb-true b x.end k in
    let t₀ = ltb-true q0 (get_or x.top 0 0) h₀ in
    let t₁ = ltb-true q1 (get_or x.top 1 0) h₁ in
    let t₂ = ltb-true q2 (get_or x.top 2 0) h₂ in
    let t₃ = ltb-true q3 (get_or x.top 3 0) h₃ in
    true_and (true-slot ends n b p0 q0 (omega (arith, r.low)) (omega (arith, r.end)) (omega (arith, r.top0)))
    (true_and (true-slot ends n b p1 q1 (omega (arith, r.low)) (omega (arith, r.end)) (omega (arith, r.top1)))
    (true_and (true-slot ends n b p2 q2 (omega (arith, r.low)) (omega (arith, r.end)) (omega (arith, r.top2)))
    (true-slot ends n b p3 q3 (omega (arith, r.low)) (omega (arith, r.end)) (omega (arith, r.top3))))))
    (λ e.
    let (s₀, e₁) = and_true (slot_reach ends n b p0 q0) _ e in
    let (s₁, e₂) = and_true (slot_reach ends n b p1 q1) _ e₁ in
    let (s₂, s₃) = and_true (slot_reach ends n b p2 q2) _ e₂ in
    let h₀ = slot-true ends n b p0 q0 s₀ in
    let h₁ = slot-true ends n b p1 q1 s₁ in
    let h₂ = slot-true ends n b p2 q2 s₂ in
    let h₃ = slot-true ends n b p3 q3 s₃ in
    true_and (true_and (true_and (true_and (true_and (le-leb x.low b (omega (arith, r.low))) (lt-ltb b x.end (omega (arith, r.end))))
    (lt-ltb q0 (get_or x.top 0 0) (omega (arith, r.top0)))) (lt-ltb q1 (get_or x.top 1 0) (omega (arith, r.top1)))) (lt-ltb q2 (get_or x.top 2 0) (omega (arith, r.top2)))) (lt-ltb q3 (get_or x.top 3 0) (omega (arith, r.top3))))

-- What an action uses: a slot of a tuple that is used has one of its atoms, and a variable stands only in such a slot.
slot-member : (vs : List ℕ) (i : ℕ) → i < length vs → member (get_or vs i 0) vs ≡ true
unfolding member any
slot-member [] i l = absurd (omega arith)
slot-member (v ∷ vs) zero l = or_left (eqb v v) _ (eq-eqb v v refl)
slot-member (v ∷ vs) (suc i) l = or_right (eqb (get_or vs i 0) v) _ (slot-member vs i (omega arith))

slot-datum : (vs : List ℕ) (i : ℕ) → i < length vs → every datum vs ≡ true → any variable vs ≡ false → value (get_or vs i 0) ≡ true
unfolding every any
slot-datum [] i l d n = absurd (omega arith)
slot-datum (v ∷ vs) zero l d n = datum-value v (and_true (datum v) (every datum vs) d).0 (or_false (variable v) (any variable vs) n).0
slot-datum (v ∷ vs) (suc i) l d n = slot-datum vs i (omega arith) (and_true (datum v) (every datum vs) d).1 (or_false (variable v) (any variable vs) n).1

slot_used : (ws : List ℕ) (i : ℕ) → variable (get_or ws i 0) ≡ true → i < length ws
unfolding variable
slot_used ws i e = lt_case (i < length ws) i (length ws) (λ l. l) (λ l. clash e (ap variable (get_or-eq_default ws 0 l)))

-- The table of t, a receive and an invoke that may be parties, and what they bind.
module _ (s ends : List ℕ) (t : Term) (h : Table s ends t) (a b : ℕ) (x : Receiver t a) (y : Sender t b) where
  abbrev la : a < size t
  la = (receiver_stands t a x).at.placed

  abbrev lb : b < size t
  lb = (sender_stands t b y).at.placed

  -- a variable of the pattern is inside its delimitation
  around : (i : ℕ) → variable (get_or x.receive.tuple i 0) ≡ true → enclosed (get_or x.receive.tuple i 0) (way_to t a) ≡ true
  unfolding any uses uses_prefix member
  around i e =
      let r = x.receive in
      let w = get_or r.tuple i 0 in
      let u : member w (uses (sub t a)) ≡ true = rw (receiver_stands t a x).at.stands (or_right (eqb w r.partner) _ (or_right (eqb w r.operation) _ (slot-member r.tuple i (slot_used r.tuple i e)))) in
      bound_used bindable _ (uses (sub t a)) w (scoped_at bindable t a h.within.formed.closed) u (or_left (variable w) _ e)

  module _ (σ : Substitution) (f : fit x.receive y.invoke ≡ binds σ) where
    fitted : Fits x.receive y.invoke σ
    fitted = fit_fits x.receive y.invoke σ f

    -- what it takes is a value that the invoke uses
    sent : (i : ℕ) → variable (get_or x.receive.tuple i 0) ≡ true → (value (get_or y.invoke.tuple i 0) ≡ true) × (member (get_or y.invoke.tuple i 0) (uses (sub t b)) ≡ true)
    unfolding any uses uses_basic member
    sent i e =
        let m = y.invoke in
        let v = get_or m.tuple i 0 in
        let l : i < length m.tuple = omega (arith, slot_used x.receive.tuple i e, matches_lengths fitted.matches) in
        let r = subst Right (sender_stands t b y).at.stands (right_at t b h.within.right) in
        let c = (or_false (variable m.operation) _ (or_false (variable m.partner) _ fitted.closed).1).1 in
        (slot-datum m.tuple i l r.2.1 c, rw (sender_stands t b y).at.stands (or_right (eqb v m.partner) _ (or_right (eqb v m.operation) _ (slot-member m.tuple i l))))

    -- 13 in one slot
    slot_scope : (i : ℕ) → slot_test (in_scope t a b) (get_or x.receive.tuple i 0) (get_or y.invoke.tuple i 0)
        ≡ slot_reach ends (length s / 16) b (reach_low t (get_or x.receive.tuple i 0)) (behind_of t (get_or y.invoke.tuple i 0))
    unfolding reach_low encloses
    slot_scope i = go (variable w) refl
      where
        w : ℕ
        w = get_or x.receive.tuple i 0

        v : ℕ
        v = get_or y.invoke.tuple i 0

        taken : variable w ≡ true → (p : ℕ) → behind_of t w ≡ p → in_scope t a b (w, v) ≡ slot_reach ends (length s / 16) b p (behind_of t v)
        taken e zero z = let (q, l, d, m) = enclosed_reaches t w a la (around i e) in clash d (behind-none t w z q (omega (arith, la)))
        taken e (suc p) z =
            let (u, m) = sent i e in
            let k : suc p - 1 ≡ p = omega arith in
            scope_places t h.within a b w v p lb (around i e) u m z
            ∙ rw (ne_eqb (suc p) 0 (λ q. omega arith), k, table_ended s ends t h p (behind-some t w p z).0, leb-suc-suc (behind_of t v) p)

        go : (k : Bool) → variable w ≡ k → (not k || in_scope t a b (w, v)) ≡ slot_reach ends (length s / 16) b (cond k (behind_of t w) 0) (behind_of t v)
        go true e = taken e (behind_of t w) refl
        go false e = sym (true-slot ends (length s / 16) b 0 (behind_of t v) (omega arith) (omega (arith, lb, table_size s ends t h)) (omega (arith, behind_most t v, h.within.small)))

    -- 13 for all that is bound
    pub scopes_reach : (r : Reach) (sent : List ℕ) → ReachOf s ends t a r → Sent s t sent → sending t b ≡ true
        → every (in_scope t a b) σ ≡ reach_test r b (get_or sent (4 * b) 0) (get_or sent (4 * b + 1) 0) (get_or sent (4 * b + 2) 0) (get_or sent (4 * b + 3) 0)
    scopes_reach r l e k z =
        let i = receiver_ends t a s ends h x in
        let o = sender_ends t b s ends h y in
        let q0 : get_or l (4 * b) 0 ≡ behind_of t (word s (16 * b + 6)) = rw (add-zero (4 * b)) at (k b 0 lb (omega arith) z) in
        matches_every (in_scope t a b) fitted.matches i.few
        ∙ (rw (slot_scope 0, slot_scope 1, slot_scope 2, slot_scope 3)
        (sym (rw (q0, k b 1 lb (omega arith) z, k b 2 lb (omega arith) z, k b 3 lb (omega arith) z, o.slot0, o.slot1, o.slot2, o.slot3)
        (reach_four ends (length s / 16) _ _ _ _ r (rw (i.slot0, i.slot1, i.slot2, i.slot3) at e) b _ _ _ _))))
