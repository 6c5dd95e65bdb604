-- The walk that settles outcomes: outcomes of labels that are not there do nothing, the order of outcomes of different labels is free, and one kill fired is one outcome settled.
use mathlib.Core.Path.{◌≡◌, refl, sym, ap, ◌∙◌}
use mathlib.Core.Logic.{◌≢◌}
use mathlib.Core.Bool.{false, cond}
use mathlib.Core.List.{List, [], ◌∷◌}
use Prim.Native.Nat.{ℕ, ◌≤◌, ◌<◌}
use native.Mathlib.Omega.{arith}
use Rattle.cows.specs.Basics.{All, one_if}
use Rattle.cows.specs.Terms.{Prefix, delimitation, Term, leaf, under, both, size, delimits_atom}
use Rattle.cows.specs.Places.{Frame, inside, left_of, right_of, plug, way_to, frame_delimits, enclosed}
use Rattle.cows.specs.Within.{counts}
use Rattle.cows.proofs.Basics.{bool_case, or_false, not_so}
use Rattle.cows.proofs.Scopes.{all_map}
use Rattle.cows.proofs.CommunicateKeeps.{delimits_one}
use Rattle.joint.specs.Joint.{Outcome, becomes, settle}
use Rattle.joint.proofs.Entering.{enter}
use Rattle.joint.proofs.Firing.{Fired, scope, up, itself, counts_up, fired_counts, enclosed-enter}

-- a label that is not delimited
undelimited : (k : ℕ) (u : Prefix) (t : Term) → counts k (under u t) ≡ 0 → delimits_atom k u ≡ false
undelimited k u t e = not_so (λ h. omega (arith, ap one_if h))

pub settle_skip : (o : Outcome) (os : List Outcome) (t : Term) → counts o.0 t ≡ 0 → settle (o ∷ os) t ≡ settle os t
unfolding settle becomes
settle_skip o os (leaf x) e = refl
settle_skip o os (under u t) e = rw (undelimited o.0 u t e) (ap (λ r. under u (becomes u os r)) (settle_skip o os t (omega arith)))
settle_skip o os (both j s t) e = rw (settle_skip o os s (omega arith), settle_skip o os t (omega arith))

pub settle-none : (t : Term) → settle [] t ≡ t
unfolding settle becomes
settle-none (leaf x) = refl
settle-none (under u t) = ap (under u) (settle-none t)
settle-none (both j s t) = rw (settle-none s, settle-none t)

pub settle_clear : (os : List Outcome) (t : Term) → All (λ (o : Outcome). counts o.0 t ≡ 0) os → settle os t ≡ t
settle_clear [] t h = settle-none t
settle_clear (o ∷ os) t h = settle_skip o os t h.0 ∙ settle_clear os t h.1

-- at a prefix that none of the labels delimits
becomes-none : (u : Prefix) (os : List Outcome) (t : Term) → All (λ (o : Outcome). delimits_atom o.0 u ≡ false) os → becomes u os t ≡ t
unfolding becomes
becomes-none u [] t h = refl
becomes-none u (o ∷ os) t h = rw h.0 (becomes-none u os t h.1)

-- What an outcome must be for another kill to fire before it: its label is not delimited in what that kill leaves, nor around that kill.
abbrev pub Free : Term → Term → ℕ → Outcome → Type 0
Free r t a o = (counts o.0 r ≡ 0) × (enclosed o.0 (way_to t a) ≡ false)

frame_free : (r : Term) (f : Frame) (s : Term) (n : ℕ) → n < size s → (o : Outcome) → Free r (plug f s) (enter f n) o → (frame_delimits o.0 f ≡ false) × Free r s n o
frame_free r f s n l o h =
    let (p, e) = or_false (enclosed o.0 (way_to s n)) (frame_delimits o.0 f) (sym (enclosed-enter o.0 f s n l) ∙ h.1) in
    (e, (h.0, p))

settled_up : (k : ℕ) (r : Term) (os : List Outcome) (f : Frame) (s q : Term) → 1 ≤ counts k s → counts k (plug f s) ≤ 1
    → All (λ (o : Outcome). frame_delimits o.0 f ≡ false) os → settle ((k, r) ∷ os) s ≡ settle os q → settle ((k, r) ∷ os) (plug f s) ≡ settle os (plug f q)
unfolding settle plug frame_delimits
settled_up k r os (inside u) s q c d h e =
    ap (under u)
    (becomes-none u ((k, r) ∷ os) _ (not_so (λ x. omega (arith, ap one_if x)), h) ∙ (e ∙ sym (becomes-none u os _ h)))
settled_up k r os (left_of j t) s q c d h e = rw (e, settle_skip (k, r) os t (omega arith))
settled_up k r os (right_of j t) s q c d h e = rw (e, settle_skip (k, r) os t (omega arith))

settled_scope : (k : ℕ) (r : Term) (os : List Outcome) (s : Term) → All (λ (o : Outcome). delimits_atom o.0 (delimitation k) ≡ false) os → All (λ (o : Outcome). counts o.0 r ≡ 0) os
    → settle ((k, r) ∷ os) (under (delimitation k) s) ≡ settle os (under (delimitation k) r)
unfolding settle becomes
settled_scope k r os s h c =
    rw (itself k) (ap (under (delimitation k)) (sym (becomes-none (delimitation k) os (settle os r) h ∙ settle_clear os r c)))

pub settled : {k : ℕ} {r t q : Term} {a : ℕ} → Fired k r t a q → (os : List Outcome) → counts k t ≤ 1 → All (Free r t a) os → settle ((k, r) ∷ os) t ≡ settle os q
settled {k = k} {r = r} (scope s n l h) os u g =
    unfold plug enter frame_delimits in
    let frees = all_map _ _ (frame_free r (inside (delimitation k)) s n l) os g in
    settled_scope k r os s (all_map _ _ (λ o p. p.0) os frees) (all_map _ _ (λ o p. p.1.0) os frees)
settled {k = k} {r = r} (up f s q n l d) os u g =
    let both-free = all_map _ _ (frame_free r f s n l) os g in
    settled_up k r os f s q (fired_counts d) u (all_map _ _ (λ o p. p.0) os both-free)
    (settled d os (omega (arith, counts_up f s k)) (all_map _ _ (λ o p. p.1) os both-free))

-- Outcomes in another order: two lists that say the same at every prefix leave the same.
abbrev pub Alike : List Outcome → List Outcome → Type 0
Alike os ps = (u : Prefix) (t : Term) → becomes u os t ≡ becomes u ps t

pub alike_settle : (os ps : List Outcome) → Alike os ps → (t : Term) → settle os t ≡ settle ps t
unfolding settle
alike_settle os ps h (leaf x) = refl
alike_settle os ps h (under u t) = ap (under u) (ap (becomes u os) (alike_settle os ps h t) ∙ h u (settle ps t))
alike_settle os ps h (both j s t) = rw (alike_settle os ps h s, alike_settle os ps h t)

pub alike_keep : (o : Outcome) (os ps : List Outcome) → Alike os ps → Alike (o ∷ os) (o ∷ ps)
unfolding becomes
alike_keep o os ps h u t = ap (cond (delimits_atom o.0 u) o.1) (h u t)

-- (a prefix delimits one atom)
pub alike_swap : (o p : Outcome) (os : List Outcome) → o.0 ≢ p.0 → Alike (o ∷ p ∷ os) (p ∷ o ∷ os)
unfolding becomes
alike_swap o p os n u t =
    bool_case _ (delimits_atom o.0 u) (λ h. rw (h, not_so (λ x. n (delimits_one o.0 p.0 u h x)))) (λ h. rw h)
