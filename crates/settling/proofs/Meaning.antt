-- Settling by places (specs/Settling) is the joint successor (joint, specs/Joint), if the places are those of the kills and of their scopes.
use mathlib.Core.Path.{◌≡◌, refl, sym, ap, ◌∙◌}
use mathlib.Core.Bool.{true}
use mathlib.Core.List.{List, [], ◌∷◌, map}
use Prim.Native.Nat.{ℕ, suc, ◌+◌, ◌-◌, ◌<◌}
use native.Mathlib.Omega.{arith}
use lib.Dec.{eqb}
use borrow.Author.Tests.{eqb-true, eq-eqb}
use Rattle.cows.specs.Terms.{Prefix, delimitation, Term, leaf, under, both, size, prefixed, delimits_atom, delimits_at}
use Rattle.cows.specs.Places.{sub}
use Rattle.cows.specs.Within.{Guarded, Within}
use Rattle.cows.specs.Allows.{Stands}
use Rattle.cows.proofs.Basics.{cond_case₂, same_test}
use Rattle.cows.proofs.Places.{size_pos, part_first, part_here, spot_under, spot_left, spot_right}
use Rattle.cows.proofs.Stands.{delimits-atom}
use Rattle.cows.proofs.Reach.{is_delimits_at}
use Rattle.rewriting.specs.Halting.{halt_aside}
use Rattle.rewriting.proofs.Firing.{halt_aside_lem, guarded_at, live-kill}
use Rattle.joint.specs.Joint.{label_at, Outcome, outcome, becomes, settle, after_joint}
use Rattle.joint.specs.Listed.{LiveKill, HasScope}
use Rattle.joint.proofs.Stops.{Stop, live-label, live-stop}
use Rattle.joint.proofs.Scoping.{one_place, stop-below}
use Rattle.joint.proofs.Theorems.{outcome-body}
use Rattle.settling.specs.Settling.{closes, settle_at}

-- qs are the places of the scopes of the kills at the places ps
abbrev pub ScopesOf : Term → (qs ps : List ℕ) → Type 0
ScopesOf t [] [] = Unit {0}
ScopesOf t [] (a ∷ ps) = ⊥
ScopesOf t (q ∷ qs) [] = ⊥
ScopesOf t (q ∷ qs) (a ∷ ps) = HasScope t a q × ScopesOf t qs ps

module _ (t : Term) (w : Within t) where
  -- The scope of a kill, at place p, with body c: the kill is inside it, and leaves c halted along the way to the kill.
  module _ (a p : ℕ) (c : Term) (x : Stop t a) (m : Stands t p (under (delimitation (label_at t a)) c)) where
    pub kill-inside : (p < a) × (a < p + size (under (delimitation (label_at t a)) c))
    kill-inside =
        let (low, high) = stop-below t a p c w x m in
        (low, omega (arith, ap size m.stands))

    leaves : (outcome t a).1 ≡ halt_aside (a - suc p) c
    leaves =
        let (low, high) = kill-inside in
        let g : Guarded c = rw m.stands at (guarded_at t p w.formed.guarded) in
        ap (λ (o : Outcome). o.1) (outcome-body t a p c w x m)
        ∙ (halt_aside_lem c (a - p - 1) (label_at t a) g (live-kill (label_at t a) t a p c w x m low high)
        ∙ ap (λ n. halt_aside n c) (let z : a - p - 1 ≡ a - suc p = omega arith in z))

  -- The record at place p: it is the scope of a kill exactly if it delimits the kill's label; so what becomes of the term below it is the same in both.
  module _ (p : ℕ) (u : Prefix) (c : Term) (l : p < size t) (e : sub t p ≡ under u c) where
    delimits_here : (d : ℕ) → delimits_at d (sub t p) ≡ delimits_atom d u
    unfolding delimits_atom prefixed
    delimits_here d = rw e

    is_scope : (a q : ℕ) → HasScope t a q → eqb p q ≡ delimits_atom (label_at t a) u
    is_scope a q h =
        let k = label_at t a in
        let m : Stands t q (under (delimitation k) h.body) = rw (live-label t a h.live) h.scope in
        same_test
        (λ z. sym (delimits_here k) ∙ is_delimits_at k (sub t p) h.body (ap (sub t) (eqb-true p q z) ∙ m.stands))
        (λ z. eq-eqb p q (sym (one_place t k q p h.body w.formed m l (delimits_here k ∙ z))))

    at_scope : (a : ℕ) → LiveKill t a → delimits_atom (label_at t a) u ≡ true → halt_aside (a - suc p) c ≡ (outcome t a).1
    at_scope a h z =
        sym (leaves a p c (live-stop t a h) (record { placed = l; stands = e ∙ ap (λ v. under v c) (delimits-atom (label_at t a) u z) }))

    closes-becomes : (qs ps : List ℕ) → ScopesOf t qs ps → (r : Term) → closes qs ps p c r ≡ becomes u (map (outcome t) ps) r
    unfolding closes becomes outcome
    closes-becomes [] [] h r = refl
    closes-becomes [] (a ∷ ps) h r = absurd h
    closes-becomes (q ∷ qs) [] h r = absurd h
    closes-becomes (q ∷ qs) (a ∷ ps) h r =
        rw (is_scope a q h.0)
        (cond_case₂ (λ (x y : Term). x ≡ y) (delimits_atom (label_at t a) u) (at_scope a h.0.live) (λ _. closes-becomes qs ps h.1 r))

  -- the same of every part
  settle_part : (qs ps : List ℕ) → ScopesOf t qs ps → (p : ℕ) (r : Term) → p < size t → sub t p ≡ r → settle_at qs ps p r ≡ settle (map (outcome t) ps) r
  unfolding settle_at settle
  settle_part qs ps h p (leaf x) l e = refl
  settle_part qs ps h p (under u c) l e =
      let (k, f, _) = spot_under t p u c l e in
      ap (under u) (closes-becomes p u c l e qs ps h _ ∙ ap (becomes u (map (outcome t) ps)) (settle_part qs ps h (suc p) c k f))
  settle_part qs ps h p (both j s r) l e =
      let (k, f, _) = spot_left t p j s r l e in
      let (m, g, _) = spot_right t p j s r l e in
      rw (settle_part qs ps h (suc p) s k f, settle_part qs ps h (suc p + size s) r m g)

-- So a term settled by the places of the scopes and of the kills is the joint successor.
pub settle_joint : (t : Term) (qs ps : List ℕ) → Within t → ScopesOf t qs ps → settle_at qs ps 0 t ≡ after_joint t ps
unfolding after_joint
settle_joint t qs ps w h = settle_part t w qs ps h 0 t (size_pos t) (part_here t 0 _ (part_first t))
