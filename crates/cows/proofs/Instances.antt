-- What binding leaves, said by contexts (specs/Allows, Instantiated: each [x] r becomes r with x replaced at every record), is what specs/Moves computes
-- (bind), where no atom is delimited twice and each variable bound is delimited.
use mathlib.Core.Path.{◌≡◌, refl, sym, ap, subst, ◌∙◌}
use mathlib.Core.Logic.{◌≢◌}
use mathlib.Core.Bool.{true, false, not, ◌&&◌}
use mathlib.Core.List.{List, [], ◌∷◌}
use Prim.Native.Nat.{ℕ, ◌+◌, ◌≤◌}
use native.Mathlib.Omega.{arith}
use lib.Dec.{eqb}
use borrow.Author.Tests.{eqb-false, eq-eqb, ne_eqb, not-true}
use Rattle.cows.specs.Basics.{any, member, found_with, All, one_if}
use Rattle.cows.specs.Terms.{delimitation, Term, leaf, under, both, variable, delimits, delimits_atom}
use Rattle.cows.specs.Kinds.{distinct}
use Rattle.cows.specs.Places.{Frame, inside, left_of, right_of, plug, Way, fill, way_to, enclosed}
use Rattle.cows.specs.Within.{counts}
use Rattle.cows.specs.Moves.{Substitution, map_atoms, image, instantiate, bind}
use Rattle.cows.specs.Allows.{Matches, empty, takes, equals, AllReach, Instantiated, all_bound, goes}
use Rattle.cows.proofs.Basics.{and_true, or_false}
use Rattle.cows.proofs.Places.{fill_spot, fill_ind}
use Rattle.cows.proofs.Scopes.{one_false, counts-member, counts-plug, counts-fill}
use Rattle.cows.proofs.Mapping.{counts_at}
use Rattle.cows.proofs.Stands.{member-delimited}
use Rattle.cows.proofs.Recordwise.{map_replaced, replaced_map}

-- no atom is delimited twice
abbrev pub Unique : Term → Type 0
Unique t = (a : ℕ) → counts a t ≤ 1

module _ (x v : ℕ) where
  abbrev at : ℕ → ℕ
  at = image ((x, v) ∷ [])

  untouched : (t : Term) → counts x t ≤ 0 → instantiate x v t ≡ t
  unfolding instantiate
  untouched (leaf y) h = refl
  untouched (under u t) h = rw (one_false (delimits_atom x u) (omega arith), untouched t (omega arith))
  untouched (both j s t) h = rw (untouched s (omega arith), untouched t (omega arith))

  plug-instantiate : (f : Frame) (s q : Term) → instantiate x v s ≡ q → 1 ≤ counts x s → counts x (plug f s) ≤ 1 → instantiate x v (plug f s) ≡ plug f q
  unfolding plug instantiate
  plug-instantiate (inside u) s q e l h = rw (one_false (delimits_atom x u) (omega arith), e)
  plug-instantiate (left_of j t) s q e l h = rw (untouched t (omega arith), e)
  plug-instantiate (right_of j t) s q e l h = rw (untouched t (omega arith), e)

  fill-instantiate : (w : Way) (s q : Term) → instantiate x v s ≡ q → 1 ≤ counts x s → counts x (fill w s) ≤ 1 → instantiate x v (fill w s) ≡ fill w q
  unfolding fill
  fill-instantiate [] s q e l h = e
  fill-instantiate (f ∷ w) s q e l h =
      fill-instantiate w (plug f s) (plug f q)
      (plug-instantiate f s q e l (omega (arith, counts-fill w (plug f s) x))) (omega (arith, counts-fill (f ∷ []) s x)) h

  fill-counts : (a n : ℕ) (w : Way) (s r : Term) → counts a r ≡ counts a s + n → counts a (fill w r) ≡ counts a (fill w s) + n
  fill-counts a n w s r e = fill_ind (λ s r. counts a r ≡ counts a s + n) (λ f s r h. counts-plug f s r a n h) w s r e

  -- one delimitation goes
  module _ (w : Way) (r : Term) (once : counts x (fill w (under (delimitation x) r)) ≤ 1) where
    self : one_if (delimits_atom x (delimitation x)) ≡ 1
    unfolding delimits_atom delimits found_with
    self = rw (eq-eqb x x refl)

    no_more_inside : counts x r ≤ 0
    no_more_inside = omega (arith, self, counts-fill w (under (delimitation x) r) x)

    pub instantiate-goes : instantiate x v (fill w (under (delimitation x) r)) ≡ fill w (map_atoms at r)
    instantiate-goes = fill-instantiate w (under (delimitation x) r) (map_atoms at r) (unfold instantiate delimits_atom delimits found_with in rw (eq-eqb x x refl)) (omega (arith, self)) once

    pub counts-goes : (a : ℕ) → counts a (fill w (under (delimitation x) r)) ≡ counts a (fill w (map_atoms at r)) + one_if (eqb a x)
    unfolding delimits_atom delimits found_with
    counts-goes a = fill-counts a (one_if (eqb a x)) w (map_atoms at r) (under (delimitation x) r) (omega (arith, counts_at x v r no_more_inside a))

    pub unique_goes : Unique (fill w (under (delimitation x) r)) → Unique (fill w (map_atoms at r))
    unique_goes h a = omega (arith, h a, counts-goes a)

pub instantiated_bind : {σ : Substitution} {t s : Term} → Unique t → Instantiated σ t s → bind σ t ≡ s
unfolding bind
instantiated_bind h all_bound = refl
instantiated_bind h (goes {x = x} {v = v} {σ = σ} {s = s} w r q k i) =
    let e = replaced_map ((x, v) ∷ []) r q k in
    let u : Unique (fill w q) = subst (λ z. Unique (fill w z)) (sym e) (unique_goes x v w r (h x) h) in
    ap (bind σ) (instantiate-goes x v w r (h x) ∙ ap (fill w) (sym e)) ∙ instantiated_bind u i

-- the variables bound differ, and each is delimited
abbrev pub Other : ℕ → Substitution → Type 0
Other x σ = All (λ (p : ℕ × ℕ). p.0 ≢ x) σ

abbrev pub Distinct : Substitution → Type 0
Distinct [] = Unit {0}
Distinct (p ∷ σ) = Other p.0 σ × Distinct σ

abbrev pub Keyed : Substitution → Term → Type 0
Keyed [] t = Unit {0}
Keyed (p ∷ σ) t = (1 ≤ counts p.0 t) × Keyed σ t

keyed_on : (x : ℕ) (t r : Term) → ((a : ℕ) → counts a t ≡ counts a r + one_if (eqb a x)) → (σ : Substitution) → Other x σ → Keyed σ t → Keyed σ r
keyed_on x t r h [] o k = tt
keyed_on x t r h (p ∷ σ) o k = (omega (arith, h p.0, ap one_if (ne_eqb p.0 x o.0), k.0), keyed_on x t r h σ o.1 k.1)

pub bind_instantiated : (σ : Substitution) (t : Term) → Unique t → Distinct σ → Keyed σ t → Instantiated σ t (bind σ t)
unfolding bind
bind_instantiated [] t u d k = all_bound
bind_instantiated ((x, v) ∷ σ) t u d k =
    let (m, r, st) = member-delimited x t (counts-member x t k.0) in
    let w = way_to t m in
    let e : t ≡ fill w (under (delimitation x) r) = sym (fill_spot t m) ∙ ap (fill w) st.stands in
    let h : Unique (fill w (under (delimitation x) r)) = subst Unique e u in
    let q = map_atoms (image ((x, v) ∷ [])) r in
    let i = bind_instantiated σ (fill w q) (unique_goes x v w r (h x) h) d.1
    (keyed_on x (fill w (under (delimitation x) r)) (fill w q) (counts-goes x v w r (h x)) σ d.0 (subst (Keyed σ) e k.1)) in
    subst (λ z. Instantiated ((x, v) ∷ σ) z (bind σ (instantiate x v z))) (sym e)
    (subst (λ z. Instantiated ((x, v) ∷ σ) (fill w (under (delimitation x) r)) (bind σ z)) (sym (instantiate-goes x v w r (h x)))
    (goes w r q (map_replaced ((x, v) ∷ []) r) i))

-- the variables of a pattern
matches_other : {ws vs : List ℕ} {σ : Substitution} → Matches ws vs σ → (x : ℕ) → member x ws ≡ false → Other x σ
unfolding member any
matches_other empty x e = tt
matches_other (takes {w = w} {ws = ws} q m) x e =
    let (p, r) = or_false (eqb x w) (member x ws) e in
    ((λ z. eqb-false x w p (sym z)), matches_other m x r)
matches_other (equals {v = v} {ws = ws} q m) x e = matches_other m x (or_false (eqb x v) (member x ws) e).1

pub matches_distinct : {ws vs : List ℕ} {σ : Substitution} → Matches ws vs σ → distinct ws ≡ true → Distinct σ
unfolding distinct
matches_distinct empty e = tt
matches_distinct (takes {w = w} {ws = ws} q m) e =
    let (n, d) = and_true (not (variable w && member w ws)) (distinct ws) e in
    (matches_other m w (rw q at (not-true (variable w && member w ws) n)), matches_distinct m d)
matches_distinct (equals {v = v} {ws = ws} q m) e = matches_distinct m (and_true (not (variable v && member v ws)) (distinct ws) e).1

pub reach_keyed : (t : Term) (a b : ℕ) (r : Term) → ((d : ℕ) → enclosed d (way_to t a) ≡ true → 1 ≤ counts d r) → (σ : Substitution) → AllReach t a b σ → Keyed σ r
reach_keyed t a b r h [] k = tt
reach_keyed t a b r h (p ∷ σ) k = (h p.0 k.0.receiver, reach_keyed t a b r h σ k.1)
