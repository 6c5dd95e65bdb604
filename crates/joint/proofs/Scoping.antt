-- Scopes by their places: the delimitation of an atom has one place; two live kills clash exactly if one of their scopes begins inside the other; and what a kill leaves of its
-- scope, by its place in the body.
use mathlib.Core.Path.{◌≡◌, ap, ◌∙◌}
use mathlib.Core.Logic.{◌⊎◌, inl, inr, ⊎_elim}
use mathlib.Core.Bool.{Bool, true, false, ◌&&◌, ◌||◌}
use mathlib.Core.List.{[], ◌∷◌, ◌++◌, map, append_assoc}
use Prim.Native.Nat.{ℕ, suc, ◌+◌, ◌-◌, ◌≤◌, ◌<◌}
use native.Mathlib.Omega.{arith}
use native.Mathlib.Nat.{zero-add}
use lib.Dec.{ltb, leb}
use borrow.Author.Tests.{ltb-true, lt-ltb, leb-true, le-leb}
use Rattle.cows.specs.Basics.{found_with, one_if}
use Rattle.cows.specs.Terms.{nil, delimitation, Term, leaf, under, size, prefixed, delimits, delimits_at, below}
use Rattle.cows.specs.Places.{Frame, inside, plug, Way, fill, Spot, spot_at, way_to, sub, enclosed}
use Rattle.cows.specs.Within.{counts, Formed, Within}
use Rattle.cows.specs.Tables.{again}
use Rattle.cows.specs.Tables as tables
use Rattle.cows.specs.Moves.{halt_beside}
use Rattle.cows.specs.Allows.{Stands}
use Rattle.cows.proofs.Basics.{clash, and_true, true_and, or_false, or_left, or_right, or_case, lt_case, not_so, same_test}
use Rattle.cows.proofs.Places.{first-none, descend_way, descend_here, spot_part, spot_fits, fill_spot}
use Rattle.cows.proofs.Refusals.{formed_first}
use Rattle.cows.proofs.Scopes.{counts-fill, counts-enclosed}
use Rattle.cows.proofs.Reach.{delimits_at_is, is_delimits_at, enclosed_reaches, reaches_enclosed, reach_none, before_none}
use Rattle.joint.specs.Joint.{label_at, halt_scope, outcome}
use Rattle.joint.specs.Joint as joint
use Rattle.joint.specs.Listed.{Covers}
use Rattle.joint.proofs.Entering.{enter, way_enter}
use Rattle.joint.proofs.Firing.{itself, scope_cut}
use Rattle.joint.proofs.Stops.{Stop, stop-enclosed}

-- one place delimits an atom
earlier : (t : Term) (d p q : ℕ) (c : Term) → Formed t → q < size t → p < q → sub t q ≡ under (delimitation d) c → delimits_at d (sub t p) ≡ false
unfolding tables.clash again sub spot_at found_with prefixed delimits
earlier t d p q c f l h e =
    let x = rw zero-add at (first-none (tables.clash t) t (formed_first t f).2 q l) in
    let y = (or_false (again t q (spot_at t q)) _ x).0 in
    reach_none t d q (before_none t d q (rw e at y)) p h

pub one_place : (t : Term) (d p q : ℕ) (c : Term) → Formed t → Stands t p (under (delimitation d) c) → q < size t → delimits_at d (sub t q) ≡ true → p ≡ q
one_place t d p q c f s l h =
    lt_case (p ≡ q) p q
    (λ x. let z = earlier t d p q (below (sub t q)) f l x (delimits_at_is d (sub t q) h) in clash (is_delimits_at d (sub t p) c s.stands) z)
    (λ x. lt_case (p ≡ q) q p (λ y. clash h (earlier t d q p c f s.placed y s.stands)) (λ y. omega arith))

-- An atom is enclosed at a place exactly if that place is below the one of its delimitation.
abbrev pub Below : Term → ℕ → ℕ → Type 0
Below t p b = (p < b) × (b < p + size (sub t p))

enclosed-below : (t : Term) (d p b : ℕ) (c : Term) → Formed t → Stands t p (under (delimitation d) c) → b < size t → enclosed d (way_to t b) ≡ true → Below t p b
enclosed-below t d p b c f s l h =
    let (q, i, x, y) = enclosed_reaches t d b l h in
    let e = one_place t d p q c f s (omega arith) x in
    (omega arith, omega (arith, ap size (ap (sub t) e)))

below-enclosed : (t : Term) (d p b : ℕ) (c : Term) → Stands t p (under (delimitation d) c) → b < size t → Below t p b → enclosed d (way_to t b) ≡ true
below-enclosed t d p b c s l h = reaches_enclosed t d b l (p, h.0, is_delimits_at d (sub t p) c s.stands, h.1)

-- places in a part
sub_in : (t : Term) (p i : ℕ) → p < size t → i < size (sub t p) → sub t (p + i) ≡ sub (sub t p) i
unfolding sub spot_at way_to
sub_in t p i l h = ap (λ (z : Spot). z.here) (unfold spot_at in (spot_part t p l).1 i h) ∙ descend_here (way_to t p) [] (sub t p) i

way_in : (t : Term) (p i : ℕ) → p < size t → i < size (sub t p) → way_to t (p + i) ≡ way_to (sub t p) i ++ way_to t p
unfolding way_to sub spot_at
way_in t p i l h = ap (λ (z : Spot). z.way) (unfold spot_at in (spot_part t p l).1 i h) ∙ descend_way [] (way_to t p) (sub t p) i

nested : (t : Term) (p r : ℕ) → p < size t → Covers t p r → r + size (sub t r) ≤ p + size (sub t p)
nested t p r l h =
    let i : r - p < size (sub t p) = omega (arith, h.0, h.1) in
    let e : sub t r ≡ sub (sub t p) (r - p) = ap (sub t) (let z : r ≡ p + (r - p) = omega (arith, h.0) in z) ∙ sub_in t p (r - p) l i in
    omega (arith, h.0, ap size e, spot_fits (sub t p) (r - p) i)

-- a live kill is below its scope, and below whatever covers that; of two parts with a place below both, one begins in the other
pub stop-below : (t : Term) (a p : ℕ) (c : Term) → Within t → Stop t a → Stands t p (under (delimitation (label_at t a)) c) → Below t p a
stop-below t a p c w x m = enclosed-below t (label_at t a) p a c w.formed m x.at.placed (stop-enclosed t a w x)

covered : (t : Term) (p r b : ℕ) → p < size t → Covers t p r → Below t r b → Below t p b
covered t p r b l h k = (omega (arith, h.0, k.0), omega (arith, nested t p r l h, k.1))

meet : (t : Term) (p r x : ℕ) → Below t p x → Below t r x → Covers t p r ⊎ Covers t r p
meet t p r x h k =
    lt_case (Covers t p r ⊎ Covers t r p) r p (λ l. inr (omega arith, omega (arith, h.0, k.1))) (λ l. inl (l, omega (arith, k.0, h.1)))

-- the place r is that of the record s at place p, or below it
unfoldable pub stands_in : ℕ → Term → ℕ → Bool
stands_in p s r = leb p r && ltb r (p + size s)

in_covers : (t s : Term) (p r : ℕ) → Stands t p s → stands_in p s r ≡ true → Covers t p r
unfolding stands_in
in_covers t s p r m h =
    let (x, y) = and_true (leb p r) (ltb r (p + size s)) h in
    (leb-true p r x, omega (arith, ltb-true r (p + size s) y, ap size m.stands))

covers_in : (t s : Term) (p r : ℕ) → Stands t p s → Covers t p r → stands_in p s r ≡ true
unfolding stands_in
covers_in t s p r m h = true_and (le-leb p r h.0) (lt-ltb r (p + size s) (omega (arith, h.1, ap size m.stands)))

-- 26 as the request words it: two live kills clash exactly if the delimitation of one lies inside, or is the same as, that of the other.
module _ (t : Term) (a b p r : ℕ) (c e : Term) (w : Within t) (x : Stop t a) (y : Stop t b)
    (m : Stands t p (under (delimitation (label_at t a)) c)) (n : Stands t r (under (delimitation (label_at t b)) e)) where
  abbrev s : Term
  s = under (delimitation (label_at t a)) c

  abbrev q : Term
  q = under (delimitation (label_at t b)) e

  pub clash_covers : joint.clash t a b ≡ true → Covers t p r ⊎ Covers t r p
  unfolding joint.clash
  clash_covers h =
      or_case (Covers t p r ⊎ Covers t r p) (enclosed (label_at t a) (way_to t b)) (enclosed (label_at t b) (way_to t a)) h
      (λ k. meet t p r b (enclosed-below t (label_at t a) p b c w.formed m y.at.placed k) (stop-below t b r e w y n))
      (λ k. meet t p r a (stop-below t a p c w x m) (enclosed-below t (label_at t b) r a e w.formed n x.at.placed k))

  pub covers_clash : Covers t p r ⊎ Covers t r p → joint.clash t a b ≡ true
  unfolding joint.clash
  covers_clash (inl h) =
      or_left _ _ (below-enclosed t (label_at t a) p b c m y.at.placed (covered t p r b m.placed h (stop-below t b r e w y n)))
  covers_clash (inr h) =
      or_right (enclosed (label_at t a) (way_to t b)) _ (below-enclosed t (label_at t b) r a e n x.at.placed (covered t r p a n.placed h (stop-below t a p c w x m)))

  pub clash_spans : joint.clash t a b ≡ (stands_in p s r || stands_in r q p)
  clash_spans =
      same_test
      (λ h. ⊎_elim (λ k. or_left _ (stands_in r q p) (covers_in t s p r m k)) (λ k. or_right (stands_in p s r) _ (covers_in t q r p n k)) (clash_covers h))
      (λ h. covers_clash (or_case (Covers t p r ⊎ Covers t r p) (stands_in p s r) (stands_in r q p) h (λ k. inl (in_covers t s p r m k)) (λ k. inr (in_covers t q r p n k))))

-- What a kill leaves of its scope, by the body c of its [k] at place q and the kill's place in c: the way down to it, what is parallel halted.
module _ (t : Term) (a q : ℕ) (c : Term) (w : Within t) (x : Stop t a) (d : Stands t q (under (delimitation (label_at t a)) c)) where
  abbrev k : ℕ
  k = label_at t a

  abbrev i : ℕ
  i = a - q - 1

  way_body : way_to t a ≡ way_to c i ++ (inside (delimitation k) ∷ way_to t q)
  unfolding size plug enter
  way_body =
      let (l, h) = stop-below t a q c w x d in
      let f : Frame = inside (delimitation k) in
      let e : a ≡ q + suc i = omega arith in
      ap (way_to t) e
      ∙ (way_in t q (suc i) d.placed (omega arith)
      ∙ (ap (λ s. way_to s (suc i) ++ way_to t q) d.stands
      ∙ (ap (λ (v : Way). v ++ way_to t q) (way_enter f c i (omega (arith, ap size d.stands))) ∙ append_assoc (way_to c i) (f ∷ []) (way_to t q))))

  unenclosed : enclosed k (way_to c i) ≡ false
  unenclosed = not_so λ h. omega (
    arith,
    ap one_if (itself k),
    ap (counts k) d.stands,
    ap (counts k) (fill_spot t q),
    ap (counts k) (fill_spot c i),
    counts-fill (way_to t q) (sub t q) k,
    counts-enclosed (way_to c i) (sub c i) k h,
    w.formed.unique k,
  )

  pub outcome_is : outcome t a ≡ (k, fill (map halt_beside (way_to c (a - q - 1))) (leaf nil))
  unfolding outcome
  outcome_is = ap (λ (v : Way). (k, fill v (leaf nil))) (ap (halt_scope k) way_body ∙ scope_cut k (way_to c i) (way_to t q) unenclosed)
