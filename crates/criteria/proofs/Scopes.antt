-- Scopes (refusal 13) by places: whether a variable may take a value is told by the places of two delimitations, the variable's and the value's.
use mathlib.Core.Path.{◌≡◌, refl, sym, ap, ◌∙◌}
use mathlib.Core.Bool.{Bool, true, false, not, ◌&&◌, ◌||◌}
use mathlib.Core.Option.{Option, none, some}
use Prim.Native.Nat.{ℕ, zero, suc, ◌+◌, ◌-◌, ◌<◌}
use native.Mathlib.Omega.{arith}
use native.Mathlib.Nat.{zero-add}
use lib.Dec.{ltb, leb}
use borrow.Author.Tests.{ltb-true, lt-ltb, leb-true, le-leb, not-true}
use Rattle.cows.specs.Basics.{member, found, place_if, or_else, first_from}
use Rattle.cows.specs.Terms.{Term, size, value, delimits_at, below, uses, binders}
use Rattle.cows.specs.Places.{way_to, sub, first, encloses, enclosed}
use Rattle.cows.specs.Within.{Within, restricted}
use Rattle.cows.specs.Moves.{outside, in_scope}
use Rattle.cows.proofs.Basics.{clash, bool_case, and_true, true_and, same_test, same_some, not_so, none_found, first_from-none, first_from-below}
use Rattle.cows.proofs.Stands.{first_found, fails_first, member-delimited, delimited-member, scoped_at}
use Rattle.cows.proofs.Reach.{delimits_at_is, is_delimits_at, enclosed_reaches, reaches_enclosed}
use Rattle.ways.proofs.Once.{one_delimitation}
use Rattle.scoping.proofs.InScope.{bound_used}
use Rattle.holding.proofs.HeldBack.{and_where}
use Rattle.roles.specs.Roles.{after, first_of, behind_of}

-- what a search finds passes
found-passes : (f : ℕ → Bool) (n k p : ℕ) → first_from f n k ≡ some p → f p ≡ true
unfolding first_from place_if or_else
found-passes f n zero p e = cc
found-passes f n (suc k) p e = go (f n) refl (found-passes f (suc n) k p) e
  where
    go : (b : Bool) → f n ≡ b → (first_from f (suc n) k ≡ some p → f p ≡ true) → or_else (place_if b n) (first_from f (suc n) k) ≡ some p → f p ≡ true
    go true q r e = ap f (sym (same_some e)) ∙ q
    go false q r e = r e

-- the place before behind_of delimits the atom; where that is 0, no place does
module _ (t : Term) (a : ℕ) where
  abbrev f : ℕ → Bool
  f n = delimits_at a (sub t n)

  behind_is : behind_of t a ≡ after (first_from f 0 (size t))
  unfolding behind_of first_of
  behind_is = let z : size t - 0 ≡ size t = omega arith in rw z

  pub behind-some : (p : ℕ) → behind_of t a ≡ suc p → (p < size t) × (delimits_at a (sub t p) ≡ true)
  unfolding after
  behind-some p e = go (first_from f 0 (size t)) refl (sym behind_is ∙ e)
    where
      go : (o : Option ℕ) → first_from f 0 (size t) ≡ o → after o ≡ suc p → (p < size t) × (f p ≡ true)
      go none q e = absurd (omega arith)
      go (some i) q e =
          let z : i ≡ p = omega arith in
          (omega (arith, first_from-below f 0 (size t) i q), ap f (sym z) ∙ found-passes f 0 (size t) i q)

  pub behind-none : behind_of t a ≡ 0 → (q : ℕ) → q < size t → delimits_at a (sub t q) ≡ false
  unfolding after
  behind-none e q l = go (first_from f 0 (size t)) refl (sym behind_is ∙ e)
    where
      go : (o : Option ℕ) → first_from f 0 (size t) ≡ o → after o ≡ 0 → f q ≡ false
      go none h e = rw zero-add at (first_from-none f 0 (size t) h q l)
      go (some i) h e = absurd (omega arith)

-- an atom's only delimitation stands at place p: it is on the way to place j exactly if p encloses j
module _ (t : Term) (w : Within t) (x p : ℕ) (l : p < size t) (d : delimits_at x (sub t p) ≡ true) where
  enclosed_place : (j : ℕ) → j < size t → enclosed x (way_to t j) ≡ encloses p (sub t p) j
  unfolding encloses
  enclosed_place j m =
      same_test
      (λ e. let (q, h, f, k) = enclosed_reaches t x j m e in
      let z = one_delimitation t w.formed x q p (omega arith) l f d in
      let y : p + size (sub t p) ≡ q + size (sub t q) = rw z in
      true_and (lt-ltb p j (omega arith)) (lt-ltb j (p + size (sub t p)) (omega arith)))
      (λ e. let (h, k) = and_true (ltb p j) _ e in reaches_enclosed t x j m (p, ltb-true p j h, d, ltb-true j (p + size (sub t p)) k))

  -- no delimitation of x stands outside those of v exactly if one of v encloses place p
  outside_place : (v : ℕ) → not (found (first (outside v x) t)) ≡ enclosed v (way_to t p)
  unfolding outside
  outside_place v =
      bool_case (not (found (first (outside v x) t)) ≡ enclosed v (way_to t p)) (enclosed v (way_to t p))
      (λ y. rw y (ap not (none_found (first (outside v x) t) (fails_first (outside v x) t (λ i h z.
      let (e, u) = and_true (delimits_at x (sub t i)) (not (enclosed v (way_to t i))) z in
      let r = one_delimitation t w.formed x i p h l e d in
      clash y (ap (λ j. enclosed v (way_to t j)) (sym r) ∙ not-true _ u))))))
      (λ y. rw y (ap not (first_found (outside v x) t p (sub t p) (record { placed = l; stands = refl }) (true_and d (ap not y)))))

-- 13 for the variable x of the receive at a, delimited at p, and the value v that the invoke at b sends.
module _ (t : Term) (w : Within t) (a b x v p : ℕ) (lb : b < size t) (around : enclosed x (way_to t a) ≡ true)
    (sent : value v ≡ true) (used : member v (uses (sub t b)) ≡ true) (at : behind_of t x ≡ suc p) where
  abbrev lp : p < size t
  lp = (behind-some t x p at).0

  abbrev dp : delimits_at x (sub t p) ≡ true
  dp = (behind-some t x p at).1

  -- two that enclose b: the one before encloses the other
  order : (q : ℕ) → encloses p (sub t p) b ≡ true → encloses q (sub t q) b ≡ true → encloses q (sub t q) p ≡ leb (suc q) p
  unfolding encloses
  order q e k =
      let (i, _) = and_true (ltb p b) _ e in
      let (_, j) = and_true (ltb q b) _ k in
      same_test
      (λ y. le-leb (suc q) p (omega (arith, ltb-true q p (and_true (ltb q p) _ y).0)))
      (λ y. let l = leb-true (suc q) p y in true_and (lt-ltb q p (omega arith)) (lt-ltb p (q + size (sub t q)) (omega (arith, ltb-true p b i, ltb-true b (q + size (sub t q)) j))))

  -- the value's part, where p encloses b
  nested : encloses p (sub t p) b ≡ true → (not (member v (binders t)) || not (found (first (outside v x) t))) ≡ leb (behind_of t v) p
  nested e = go (behind_of t v) refl
    where
      go : (i : ℕ) → behind_of t v ≡ i → (not (member v (binders t)) || not (found (first (outside v x) t))) ≡ leb i p
      go zero h =
          let m : member v (binders t) ≡ false = not_so (λ y. let (q, r, s) = member-delimited v t y in clash (is_delimits_at v (sub t q) r s.stands) (behind-none t v h q s.placed)) in
          rw m (sym (le-leb 0 p (omega arith)))
      go (suc q) h =
          let (lq, dq) = behind-some t v q h in
          let m : member v (binders t) ≡ true = delimited-member v t q (below (sub t q)) (record { placed = lq; stands = delimits_at_is v (sub t q) dq }) in
          let inner : enclosed v (way_to t b) ≡ true = bound_used (restricted t) _ (uses (sub t b)) v (scoped_at (restricted t) t b w.formed.private) used (true_and sent m) in
          let k = sym (enclosed_place t w v q lq dq b lb) ∙ inner in
          rw (m, outside_place t w x p lp dp v) (enclosed_place t w v q lq dq p lp ∙ order q e k)

  pub scope_places : in_scope t a b (x, v) ≡ (encloses p (sub t p) b && leb (behind_of t v) p)
  unfolding in_scope
  scope_places = rw (around, enclosed_place t w x p lp dp b lb) (and_where (encloses p (sub t p) b) nested)
