-- Demand 2 in accepted moves: a ready kill holds back the meetings in its scope, the receive that binds fewest variables goes first,
-- and a kill halts what stands parallel to it inside its scope. What halting leaves.
use mathlib.Core.Path.{◌≡◌, sym, ap, subst, ◌∙◌}
use mathlib.Core.Bool.{false}
use mathlib.Core.List.{List, ◌∷◌, ◌++◌}
use Prim.Native.Nat.{ℕ}
use lib.ListN.{length}
use Rattle.cows.specs.Basics.{accept}
use Rattle.cows.specs.Terms.{nil, kill, invoke, receive, delimitation, Term, leaf, under}
use Rattle.cows.specs.Places.{inside, Way, fill, way_to, sub, enclosed}
use Rattle.cows.specs.Within.{Within}
use Rattle.cows.specs.Moves.{Substitution, halt, after_kill, Kill, Communicate, successor}
use Rattle.cows.specs.Allows.{Stands, Meets, Matches, Unheld, Tightest, Halted, Ended}
use Rattle.cows.specs.Load.{load, shielded}
use Rattle.cows.proofs.Places.{fill_spot}
use Rattle.cows.proofs.Meeting.{matches_unique}
use Rattle.cows.proofs.Halting.{halt-halted, halted-halt}
use Rattle.cows.proofs.Load.{halt-halt, load-halt}
use Rattle.cows.proofs.Contexts.{fill-cut}
use Rattle.cows.proofs.Allows.{kill_fires, kill-leaves, communicate_meets}

-- No [k] around either party of an accepted meeting holds a ready kill of k.
pub meeting-unheld : (t s : Term) (a b : ℕ) → Within t → successor t (Communicate a b) ≡ accept s → Unheld t a × Unheld t b
unfolding successor
meeting-unheld t s a b w e =
    let (σ, h, q) = communicate_meets t s a b e in
    (h.receiver_free, h.sender_free)

tightest_met : (t : Term) (a b p o : ℕ) (ws vs : List ℕ) (r : Term) (σ τ : Substitution) → Meets t a b τ
    → sub t a ≡ under (receive p o ws) r → sub t b ≡ leaf (invoke p o vs) → Matches ws vs σ → Tightest t p o vs (length σ)
tightest_met t a b p o ws vs r σ τ h ea eb m =
    let ia : under (receive h.partner h.operation h.pattern) h.body ≡ under (receive p o ws) r = sym h.receiver.at.stands ∙ ea in
    let ib : leaf (invoke h.partner h.operation h.sent) ≡ leaf (invoke p o vs) = sym h.sender.at.stands ∙ eb in
    let ep : h.partner ≡ p = cc in
    let eo : h.operation ≡ o = cc in
    let ew : h.pattern ≡ ws = cc in
    let ev : h.sent ≡ vs = cc in
    rw (ep, eo, ev, matches_unique (rw (ew, ev) at h.matches) m) at h.tightest

-- Where the receive p·o?⟨ws⟩ at a meets the invoke p·o!⟨vs⟩ at b, no ready receive on p·o that matches vs binds fewer variables than ws does.
pub meeting_tightest : (t s : Term) (a b p o : ℕ) (ws vs : List ℕ) (r : Term) (σ : Substitution) → Within t → successor t (Communicate a b) ≡ accept s
    → Stands t a (under (receive p o ws) r) → Stands t b (leaf (invoke p o vs)) → Matches ws vs σ → Tightest t p o vs (length σ)
unfolding successor
meeting_tightest t s a b p o ws vs r σ w e ra ib m =
    let (τ, h, q) = communicate_meets t s a b e in
    tightest_met t a b p o ws vs r σ τ h ra.stands ib.stands m

-- An accepted kill of k: the way to it is v inside its [k] and w outside. Outside nothing changes; inside, what stands parallel to the kill is halted, also
-- where a protection on the way holds the kill.
pub kill_spares : (t s : Term) (a k : ℕ) → Within t → successor t (Kill a) ≡ accept s → Stands t a (leaf (kill k))
    → (v : Way) × (u : Way) × (w : Way) × (way_to t a ≡ v ++ (inside (delimitation k) ∷ w)) × (enclosed k v ≡ false) × Ended v u
    × (t ≡ fill w (under (delimitation k) (fill v (leaf (kill k))))) × (s ≡ fill w (under (delimitation k) (fill u (leaf nil))))
unfolding successor
kill_spares t s a k h e st =
    let (i, l, q) = kill_fires t s a e in
    let same : i ≡ k = cc (l.at.stands, st.stands) in
    let (v, u, w, c, n, d, z) = kill-leaves t a k h (rw same at l) in
    let before = sym (fill_spot t a) ∙ (ap (fill (way_to t a)) st.stands ∙ fill-cut k v w _ c (leaf (kill k))) in
    (v, u, w, c, n, d, before, sym q ∙ (ap (λ j. after_kill j t a) same ∙ z))

-- Halting twice is halting once; what it leaves has the load of what is shielded.
pub halted_twice : {t s : Term} → Halted t s → Halted s s
halted_twice {t} {s} h =
    let e = halted-halt h in
    subst (λ r. Halted r r) (sym e) (subst (Halted (halt t)) (halt-halt t) (halt-halted (halt t)))

pub halted-load : {t s : Term} → Halted t s → load s ≡ shielded t
halted-load {t} h = ap load (halted-halt h) ∙ load-halt t
