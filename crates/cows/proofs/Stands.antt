-- What stands at a place: a property that children inherit holds at every place; a record wanted at a place is one that is live there and of the
-- kind; a search that finds nothing has failed at each record; the delimitations of a term; a used atom is enclosed on the way to its use.
use mathlib.Core.Path.{◌≡◌, refl, sym, ap, subst, ◌∙◌}
use mathlib.Core.Bool.{Bool, true, false, ◌&&◌}
use mathlib.Core.Option.{Option, none, some}
use mathlib.Core.List.{[], ◌∷◌}
use Prim.Native.Nat.{ℕ, zero, suc, ◌+◌, ◌-◌, ◌<◌}
use native.Mathlib.Omega.{arith}
use native.Mathlib.Nat.{zero-add}
use lib.Dec.{ltb, eqb}
use borrow.Author.Tests.{ltb-true, lt-ltb, eqb-true, eq-eqb}
use Rattle.cows.specs.Basics.{any, member, found_with, found, accept}
use Rattle.cows.specs.Terms.{nil, kill, invoke, Prefix, receive, wait, protection, delimitation, replication, Join, Term, leaf, under, both, Action, size, kills, invokes, prefixed, receives, waits, delimits, delimits_atom, replicates, below, uses, optional, binders, invoke_of, receive_of}
use Rattle.cows.specs.Places.{inside, left_of, right_of, Way, Spot, descend, spot_at, way_to, sub, first, frame_delimits, enclosed}
use Rattle.cows.specs.Within.{Right, Bound, Scoped, nowhere}
use Rattle.cows.specs.Active.{live, wanted}
use Rattle.cows.specs.Allows.{Stands, StandsLive}
use Rattle.cows.proofs.Basics.{never, cond_case, and_true, true_and, or_left, or_right, or_case, not_so, same_some, need-accept, need-some, only-some, some-only, found_none, holds_some, member_append}
use Rattle.cows.proofs.Places.{descend_here, descend-left, descend_right, first-none, none_first}

-- what the children of a term inherit from it, every part of it inherits
descend_ind : (P : Term → Type 0) → ((u : Prefix) (t : Term) → P (under u t) → P t) → ((j : Join) (s t : Term) → P (both j s t) → P s × P t)
    → (w : Way) (t : Term) (n : ℕ) → P t → P (descend w t n).here
unfolding descend
descend_ind P f g w (leaf x) n h = h
descend_ind P f g w (under u t) zero h = h
descend_ind P f g w (under u t) (suc n) h = descend_ind P f g (inside u ∷ w) t n (f u t h)
descend_ind P f g w (both j s t) zero h = h
descend_ind P f g w (both j s t) (suc n) h =
    cond_case (λ (z : Spot). P z.here) (ltb n (size s))
    (λ e. descend_ind P f g (left_of j t ∷ w) s n (g j s t h).0) (λ e. descend_ind P f g (right_of j s ∷ w) t (n - size s) (g j s t h).1)

pub sub_ind : (P : Term → Type 0) → ((u : Prefix) (t : Term) → P (under u t) → P t) → ((j : Join) (s t : Term) → P (both j s t) → P s × P t)
    → (t : Term) (n : ℕ) → P t → P (sub t n)
unfolding sub spot_at
sub_ind P f g t n h = descend_ind P f g [] t n h

pub right_at : (t : Term) (n : ℕ) → Right t → Right (sub t n)
right_at = sub_ind Right (λ u t h. h.1) (λ j s t h. h)

-- what each look says of a term
pub kills_is : (s : Term) (k : ℕ) → kills s ≡ some k → s ≡ leaf (kill k)
unfolding kills
kills_is (leaf nil) k e = cc
kills_is (leaf (kill i)) k e = cc
kills_is (leaf (invoke p o ws)) k e = cc
kills_is (under u t) k e = cc
kills_is (both j s t) k e = cc

pub invokes_is : (s : Term) (m : Action) → invokes s ≡ some m → s ≡ leaf (invoke_of m)
unfolding invokes
invokes_is (leaf nil) m e = cc
invokes_is (leaf (kill i)) m e = cc
invokes_is (leaf (invoke p o ws)) m e = ap (λ i. leaf (invoke_of i)) (same_some e)
invokes_is (under u t) m e = cc
invokes_is (both j s t) m e = cc

pub record Looks (u : Prefix) : Type 0 where
  pub receiving : (r : Action) → receives u ≡ some r → u ≡ receive_of r
  pub waiting : (n : ℕ) → waits u ≡ some n → u ≡ wait n
  pub delimiting : (d : ℕ) → delimits u ≡ some d → u ≡ delimitation d
  pub replicating : (i : Unit {0}) → replicates u ≡ some i → u ≡ replication

pub looks : (u : Prefix) → Looks u
unfolding receives waits delimits replicates
looks (receive p o ws) = record { receiving = λ r e. ap receive_of (same_some e); waiting = λ n e. cc; delimiting = λ d e. cc; replicating = λ i e. cc }
looks (wait n) = record { receiving = λ r e. cc; waiting = λ i e. cc; delimiting = λ d e. cc; replicating = λ i e. cc }
looks protection = record { receiving = λ r e. cc; waiting = λ n e. cc; delimiting = λ d e. cc; replicating = λ i e. cc }
looks (delimitation c) = record { receiving = λ r e. cc; waiting = λ n e. cc; delimiting = λ d e. cc; replicating = λ i e. cc }
looks replication = record { receiving = λ r e. cc; waiting = λ n e. cc; delimiting = λ d e. cc; replicating = λ i e. refl }

pub delimits-atom : (d : ℕ) (u : Prefix) → delimits_atom d u ≡ true → u ≡ delimitation d
unfolding delimits_atom
delimits-atom d u e =
    let (c, is, q) = holds_some (eqb d) (delimits u) e in
    (looks u).delimiting d (is ∙ ap some (sym (eqb-true d c q)))

pub prefixed_is : {A : Type 0} (f : Prefix → Option A) (g : A → Prefix) → ((u : Prefix) (x : A) → f u ≡ some x → u ≡ g x)
    → (s : Term) (x : A) → prefixed f s ≡ some x → s ≡ under (g x) (below s)
unfolding prefixed below
prefixed_is f g h (leaf y) x e = cc
prefixed_is f g h (under u t) x e = ap (λ v. under v t) (h u x e)
prefixed_is f g h (both j s t) x e = cc

-- a record wanted is of the kind, and live
pub wanted_is : {A : Type 0} (look : Term → Option A) (t : Term) (n : ℕ) (x : A) → wanted look t n ≡ accept x → look (sub t n) ≡ some x
unfolding wanted
wanted_is look t n x e = (only-some (ltb n (size t) && live (way_to t n)) (look (sub t n)) x (need-accept 11 n _ x e)).1

pub wanted-live : {A : Type 0} (look : Term → Option A) (t : Term) (n : ℕ) (x : A) (s : Term) → (look (sub t n) ≡ some x → sub t n ≡ s) → wanted look t n ≡ accept x → StandsLive t n s
unfolding wanted
wanted-live look t n x s is e =
    let (h, k) = only-some (ltb n (size t) && live (way_to t n)) (look (sub t n)) x (need-accept 11 n _ x e) in
    let (p, l) = and_true (ltb n (size t)) (live (way_to t n)) h in
    record { at = record { placed = ltb-true n (size t) p; stands = is k }; live = l }

pub live-wanted : {A : Type 0} (look : Term → Option A) (t : Term) (n : ℕ) (x : A) (s : Term) → look s ≡ some x → StandsLive t n s → wanted look t n ≡ accept x
unfolding wanted
live-wanted look t n x s e l =
    need-some 11 n _ x (some-only _ (look (sub t n)) x (true_and (lt-ltb n (size t) l.at.placed) l.live) (ap look l.at.stands ∙ e))

-- a search and the records
abbrev pub Test : Type 0
Test = ℕ → Spot → Bool

pub first_fails : (f : Test) (t : Term) → first f t ≡ none → (n : ℕ) (s : Term) → Stands t n s → f n (record { way = way_to t n; here = s }) ≡ false
unfolding way_to sub spot_at
first_fails f t e n s h =
    subst (λ r. f n (record { way = way_to t n; here = r }) ≡ false) h.stands (rw zero-add at (first-none f t e n h.placed))

pub fails_first : (f : Test) (t : Term) → ((n : ℕ) → n < size t → f n (record { way = way_to t n; here = sub t n }) ≡ true → ⊥) → first f t ≡ none
unfolding way_to sub spot_at
fails_first f t h = none_first f t (λ n l. rw zero-add (not_so (h n l)))

pub first_found : (f : Test) (t : Term) (n : ℕ) (s : Term) → Stands t n s → f n (record { way = way_to t n; here = s }) ≡ true → found (first f t) ≡ true
first_found f t n s h e = go (found (first f t)) refl
  where
    go : (b : Bool) → found (first f t) ≡ b → b ≡ true
    go true q = refl
    go false q = sym (first_fails f t (found_none (first f t) q) n s h) ∙ e

-- a prefix that passes a test is of the kind looked for
pub prefixed_stands : {A : Type 0} (f : Prefix → Option A) (g : A → Prefix) → ((u : Prefix) (x : A) → f u ≡ some x → u ≡ g x) → (φ : A → Bool) (t : Term) (n : ℕ) → n < size t
    → found_with φ (prefixed f (sub t n)) ≡ true → (x : A) × Stands t n (under (g x) (below (sub t n))) × (φ x ≡ true)
prefixed_stands f g is φ t n p h =
    let (x, e, k) = holds_some φ (prefixed f (sub t n)) h in
    (x, record { placed = p; stands = prefixed_is f g is (sub t n) x e }, k)

-- the places of the children
stands_under : (u : Prefix) (t : Term) (n : ℕ) (r : Term) → Stands t n r → Stands (under u t) (suc n) r
unfolding sub spot_at descend size
stands_under u t n r h = record { placed = omega (arith, h.placed); stands = descend_here (inside u ∷ []) [] t n ∙ h.stands }

stands_left : (j : Join) (s t : Term) (n : ℕ) (r : Term) → Stands s n r → Stands (both j s t) (suc n) r
unfolding sub spot_at size
stands_left j s t n r h = record {
  placed = omega (arith, h.placed);
  stands = ap (λ (z : Spot). z.here) (descend-left [] j s t n h.placed) ∙ (descend_here (left_of j t ∷ []) [] s n ∙ h.stands);
}

stands_right : (j : Join) (s t : Term) (n : ℕ) (r : Term) → Stands t n r → Stands (both j s t) (suc (size s + n)) r
unfolding sub spot_at size
stands_right j s t n r h = record {
  placed = omega (arith, h.placed);
  stands = ap (λ (z : Spot). z.here) (descend_right [] j s t n) ∙ (descend_here (right_of j s ∷ []) [] t n ∙ h.stands);
}

-- an atom is among the binders exactly if its delimitation stands somewhere
abbrev pub Delimited : ℕ → Term → Type 0
Delimited v t = (m : ℕ) × (r : Term) × Stands t m (under (delimitation v) r)

optional_is : (v : ℕ) (o : Option ℕ) → member v (optional o) ≡ true → o ≡ some v
unfolding member any optional
optional_is v none h = never h
optional_is v (some d) h = or_case (some d ≡ some v) (eqb v d) false h (λ e. ap some (sym (eqb-true v d e))) never

pub member-delimited : (v : ℕ) (t : Term) → member v (binders t) ≡ true → Delimited v t
unfolding binders
member-delimited v (leaf x) h = never (unfold member any in h)
member-delimited v (under u t) h =
    or_case (Delimited v (under u t)) (member v (optional (delimits u))) (member v (binders t)) (rw member_append at h)
    (λ e. (0, t, record { placed = unfold size in omega arith; stands = unfold sub spot_at descend in ap (λ p. under p t) ((looks u).delimiting v (optional_is v (delimits u) e)) }))
    (λ e. let (m, r, k) = member-delimited v t e in (suc m, r, stands_under u t m _ k))
member-delimited v (both j s t) h =
    or_case (Delimited v (both j s t)) (member v (binders s)) (member v (binders t)) (rw member_append at h)
    (λ e. let (m, r, k) = member-delimited v s e in (suc m, r, stands_left j s t m _ k))
    (λ e. let (m, r, k) = member-delimited v t e in (suc (size s + m), r, stands_right j s t m _ k))

pub delimited-member : (v : ℕ) (t : Term) (m : ℕ) (r : Term) → Stands t m (under (delimitation v) r) → member v (binders t) ≡ true
unfolding binders
delimited-member v t m r h =
    sub_ind (λ s. member v (binders s) ≡ true → member v (binders t) ≡ true)
    (λ u s f e. f (rw member_append (or_right (member v (optional (delimits u))) (member v (binders s)) e)))
    (λ j s q f. (
      λ e. f (rw member_append (or_left (member v (binders s)) (member v (binders q)) e)),
      λ e. f (rw member_append (or_right (member v (binders s)) (member v (binders q)) e)),
    ))
    t m (λ e. e) (rw h.stands (unfold member any optional delimits in or_left (eqb v v) _ (eq-eqb v v refl)))

-- an atom used at a place, if it is of those that must be enclosed, is enclosed on the way there
scoped_descend : (K : ℕ → Bool) (w : Way) (t : Term) (n : ℕ) → Scoped K (λ a. enclosed a w) t → Bound K (λ a. enclosed a (descend w t n).way) (uses (descend w t n).here)
unfolding descend uses enclosed any frame_delimits
scoped_descend K w (leaf x) n h = h
scoped_descend K w (under u t) zero h = h.0
scoped_descend K w (under u t) (suc n) h = scoped_descend K (inside u ∷ w) t n h.1
scoped_descend K w (both j s t) zero h = tt
scoped_descend K w (both j s t) (suc n) h =
    cond_case (λ (z : Spot). Bound K (λ a. enclosed a z.way) (uses z.here)) (ltb n (size s))
    (λ e. scoped_descend K (left_of j t ∷ w) s n h.0) (λ e. scoped_descend K (right_of j s ∷ w) t (n - size s) h.1)

pub scoped_at : (K : ℕ → Bool) (t : Term) (n : ℕ) → Scoped K nowhere t → Bound K (λ a. enclosed a (way_to t n)) (uses (sub t n))
unfolding way_to sub spot_at enclosed any
scoped_at K t n h = scoped_descend K [] t n h
