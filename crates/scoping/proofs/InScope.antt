-- Refusal 13 (cows, specs/Moves, in_scope) by the nearest delimitations on the ways to both parties.
use mathlib.Core.Path.{◌≡◌, refl, sym, ap, subst, ◌∙◌}
use mathlib.Core.Bool.{Bool, true, false, not, ◌||◌}
use mathlib.Core.List.{List, [], ◌∷◌}
use mathlib.Core.Option.{none, some}
use Prim.Native.Nat.{ℕ, ◌<◌}
use native.Mathlib.Omega.{arith}
use lib.Dec.{ltb, eqb}
use borrow.Author.Tests.{lt-ltb, le-ltb, eqb-true}
use Rattle.cows.specs.Basics.{any, member, found}
use Rattle.cows.specs.Terms.{Term, size, delimits_at, below, uses, binders}
use Rattle.cows.specs.Places.{way_to, sub, first, enclosed}
use Rattle.cows.specs.Within.{Within, Bound, restricted}
use Rattle.cows.specs.Moves.{outside, in_scope}
use Rattle.cows.proofs.Basics.{never, clash, bool_case, lt_case, and_none, and_true, not_so, or_case, none_found, true_and}
use Rattle.cows.proofs.Places.{size_pos}
use Rattle.cows.proofs.Stands.{scoped_at, delimited-member, fails_first, first_found}
use Rattle.cows.proofs.Reach.{is_delimits_at, enclosed_reaches, reaches_enclosed}
use Rattle.ways.specs.Ways.{scope_of}
use Rattle.scoping.specs.Scopes.{Sends}
use Rattle.ways.proofs.Starts.{Scope, scope_at, scope_found}
use Rattle.ways.proofs.Once.{one_delimitation}

not-not : (b : Bool) → not (not b) ≡ b
not-not true = refl
not-not false = refl

pub bound_used : (K E : ℕ → Bool) (l : List ℕ) (v : ℕ) → Bound K E l → member v l ≡ true → K v ≡ true → E v ≡ true
unfolding member any
bound_used K E [] v h m k = never m
bound_used K E (a ∷ l) v h m k =
    or_case (E v ≡ true) (eqb v a) (any (eqb v) l) m (λ e. let z = eqb-true v a e in rw z (h.0 (rw z at k))) (λ e. bound_used K E l v h.1 e k)

module _ (v x : ℕ) (t : Term) (a b : ℕ) (w : Within t) (place-a : a < size t) (place-b : b < size t) (h : Sends v t b) where
  enclosed_at : (y c : ℕ) → enclosed y (way_to t c) ≡ found (scope_of y (way_to t c))
  enclosed_at y c = scope_found y (way_to t c)

  pub not_around_a : scope_of x (way_to t a) ≡ none → false ≡ in_scope t a b (x, v)
  unfolding in_scope found
  not_around_a e = rw (enclosed_at x a, e)

  pub not_around_b : scope_of x (way_to t b) ≡ none → false ≡ in_scope t a b (x, v)
  unfolding in_scope found
  not_around_b e = rw (enclosed_at x b, e, and_none (enclosed x (way_to t a)))

  -- both are inside the variable's delimitation
  module _ (p q : ℕ) (ea : scope_of x (way_to t a) ≡ some p) (eb : scope_of x (way_to t b) ≡ some q) where
    rest : in_scope t a b (x, v) ≡ (not (member v (binders t)) || not (found (first (outside v x) t)))
    unfolding in_scope found
    rest = rw (enclosed_at x a, ea, enclosed_at x b, eb)

    around : Scope t b (sub t b) x q
    around = scope_at t b (way_to t b) (sub t b) x q (place-b, refl, refl) eb

    same_place : p ≡ q
    same_place =
        let l = scope_at t a (way_to t a) (sub t a) x p (place-a, refl, refl) ea in
        one_delimitation t w.formed x p q l.inside around.inside (is_delimits_at x (sub t p) _ l.stands) (is_delimits_at x (sub t q) _ around.stands)

    pub not-delimited : scope_of v (way_to t b) ≡ none → true ≡ in_scope t a b (x, v)
    unfolding found
    not-delimited e =
        let f : enclosed v (way_to t b) ≡ false = enclosed_at v b ∙ ap found e in
        let g : restricted t v ≡ false = not_so (λ y. clash (bound_used (restricted t) _ (uses (sub t b)) v (scoped_at (restricted t) t b w.formed.private) h.used y) f) in
        let m : member v (binders t) ≡ false = rw h.sent at g in
        sym (rest ∙ rw m)

    module _ (e : ℕ) (ev : scope_of v (way_to t b) ≡ some e) where
      inner : Scope t b (sub t b) v e
      inner = scope_at t b (way_to t b) (sub t b) v e (place-b, refl, refl) ev

      delimited : member v (binders t) ≡ true
      delimited = delimited-member v t e (below (sub t e)) (record { placed = inner.inside; stands = inner.stands })

      enclosed_q : enclosed v (way_to t q) ≡ ltb e q
      enclosed_q =
          lt_case (enclosed v (way_to t q) ≡ ltb e q) e q
          (λ l. rw (lt-ltb e q l) (reaches_enclosed t v q around.inside (e, l, is_delimits_at v (sub t e) _ inner.stands, omega (arith, around.before, inner.ends, size_pos (sub t b)))))
          (λ l. rw (le-ltb e q l) (not_so (λ y.
          let (i, j, d, m) = enclosed_reaches t v q around.inside y in
          let z = one_delimitation t w.formed v i e (omega (arith, around.inside)) inner.inside d (is_delimits_at v (sub t e) _ inner.stands) in
          omega arith)))

      outside-found : found (first (outside v x) t) ≡ not (ltb e q)
      unfolding outside
      outside-found =
          bool_case (found (first (outside v x) t) ≡ not (ltb e q)) (ltb e q)
          (λ y. rw y (none_found (first (outside v x) t) (fails_first (outside v x) t (λ i l z.
          let (d, o) = and_true (delimits_at x (sub t i)) (not (enclosed v (way_to t i))) z in
          let r = one_delimitation t w.formed x i q l around.inside d (is_delimits_at x (sub t q) _ around.stands) in
          let c : not (enclosed v (way_to t q)) ≡ true = subst (λ j. not (enclosed v (way_to t j)) ≡ true) r o in
          never (rw (enclosed_q, y) at c)))))
          (λ y. rw y (first_found (outside v x) t q (sub t q) (record { placed = around.inside; stands = refl })
          (true_and (is_delimits_at x (sub t q) _ around.stands) (rw (enclosed_q, y)))))

      pub around_both : ltb e p ≡ in_scope t a b (x, v)
      around_both = sym (rest ∙ (rw (delimited, outside-found, same_place) (not-not (ltb e q))))
