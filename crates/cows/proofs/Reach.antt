-- Scopes as intervals of places, for a check of scopes in one pass: the records on the way to a place are those that begin before it and end
-- behind it, so an atom is enclosed at a place exactly if the farthest end of its delimitations before the place lies behind it.
use mathlib.Core.Path.{◌≡◌, refl, sym, ap, ◌∙◌}
use mathlib.Core.Bool.{Bool, true, false, cond}
use mathlib.Core.List.{[], ◌∷◌}
use Prim.Native.Nat.{ℕ, zero, suc, ◌+◌, ◌-◌, ◌≤◌, ◌<◌, max}
use native.Mathlib.Omega.{arith}
use native.Mathlib.Nat.{zero-add}
use lib.Dec.{ltb, eqb}
use borrow.Author.Tests.{ltb-true, lt-ltb, le-ltb, eqb-true, eq-eqb}
use Rattle.cows.specs.Basics.{any, member, found_with}
use Rattle.cows.specs.Terms.{delimitation, Term, under, size, prefixed, delimits, delimits_atom, delimits_at, below, binders}
use Rattle.cows.specs.Places.{inside, Way, Spot, descend, spot_at, way_to, sub, frame_delimits, enclosed}
use Rattle.cows.specs.Tables.{delimited_before}
use Rattle.cows.specs.Records.{reach_of}
use Rattle.cows.proofs.Basics.{clash, cond_case, bool_case, lt_case, or_left, or_right, or_case, not_so, same_test, found_none, none_found, holds_some, first_from-none, none-first_from, any_append}
use Rattle.cows.proofs.Places.{size_pos, descend_way, PartOf, part_inherited, part_first, part_here, spot_part, inherited_spot}
use Rattle.cows.proofs.Stands.{looks, prefixed_is, member-delimited, delimited-member}

pub delimits_at_is : (a : ℕ) (s : Term) → delimits_at a s ≡ true → s ≡ under (delimitation a) (below s)
delimits_at_is a s h =
    let (d, e, k) = holds_some (eqb a) (prefixed delimits s) h in
    prefixed_is delimits delimitation (λ u. (looks u).delimiting) s d e ∙ ap (λ i. under (delimitation i) (below s)) (sym (eqb-true a d k))

pub is_delimits_at : (a : ℕ) (s c : Term) → s ≡ under (delimitation a) c → delimits_at a s ≡ true
unfolding found_with prefixed delimits
is_delimits_at a s c e = rw (e, eq-eqb a a refl)

-- a delimitation of a at a place below j ends behind e
abbrev pub Reaches : Term → ℕ → ℕ → ℕ → Type 0
Reaches t a j e = (q : ℕ) × (q < j) × (delimits_at a (sub t q) ≡ true) × (e < q + size (sub t q))

module _ (t : Term) (a : ℕ) where
  pub reaches_on : (i j e : ℕ) → i ≤ j → Reaches t a i e → Reaches t a j e
  reaches_on i j e h (q, l, d, k) = (q, omega arith, d, k)

  pub reach_some : (j e : ℕ) → e < reach_of t a j → Reaches t a j e
  unfolding reach_of
  reach_some zero e h = absurd (omega arith)
  reach_some (suc j) e h = go (delimits_at a (sub t j)) refl h (λ l. reaches_on j (suc j) e (omega arith) (reach_some j e l))
    where
      go : (b : Bool) → delimits_at a (sub t j) ≡ b → e < cond b (max (reach_of t a j) (j + size (sub t j))) (reach_of t a j) → (e < reach_of t a j → Reaches t a (suc j) e) → Reaches t a (suc j) e
      go true d h f = lt_case (Reaches t a (suc j) e) e (j + size (sub t j)) (λ l. (j, omega arith, d, l)) (λ l. f (omega arith))
      go false d h f = f h

  pub some_reach : (j e : ℕ) → Reaches t a j e → e < reach_of t a j
  unfolding reach_of
  some_reach zero e (q, l, d, k) = absurd (omega arith)
  some_reach (suc j) e (q, l, d, k) =
      lt_case (e < reach_of t a (suc j)) q j
      (λ m. let r = some_reach j e (q, m, d, k) in cond_case (λ n. e < n) (delimits_at a (sub t j)) (λ b. omega arith) (λ b. r))
      (λ m. let z : j ≡ q = omega arith in rw (z, d) (omega arith))

  -- an atom is enclosed at a place exactly if a delimitation of it begins before the place and ends behind it
  abbrev pub Around : ℕ → Spot → Type 0
  Around n z = PartOf t n z × (enclosed a z.way ≡ true → (e : ℕ) → e < n + size z.here → Reaches t a n e)

  pub enclosed_reaches : (j : ℕ) → j < size t → enclosed a (way_to t j) ≡ true → Reaches t a j j
  unfolding way_to enclosed any frame_delimits size
  enclosed_reaches j l h =
      (inherited_spot Around (
        λ o w u s (p, h). (
          (part_inherited t).0 o w u s p,
          λ c e k.
              or_case (Reaches t a (suc o) e) (delimits_atom a u) (enclosed a w) c
              (λ d. let z = part_here t o _ p in (o, omega arith, rw z (unfold prefixed delimits_atom in d), rw z (omega arith)))
              (λ d. reaches_on o (suc o) e (omega arith) (h d e (omega arith))),
        ),
        λ o w i s r (p, h). let (pl, pr) = (part_inherited t).1 o w i s r p in (
          (pl, λ c e k. reaches_on o (suc o) e (omega arith) (h c e (omega arith))),
          (pr, λ c e k. reaches_on o (suc (o + size s)) e (omega arith) (h c e (omega arith))),
        ),
      )
      t (part_first t, λ c. clash c refl) j l).1 h j (omega (arith, size_pos (spot_at t j).here))

  pub inside-enclosed : (w : Way) (c : Term) (i : ℕ) → enclosed a (descend (inside (delimitation a) ∷ w) c i).way ≡ true
  unfolding enclosed any frame_delimits delimits_atom delimits found_with
  inside-enclosed w c i =
      rw (descend_way [] (inside (delimitation a) ∷ w) c i, any_append (frame_delimits a) (descend [] c i).way (inside (delimitation a) ∷ w))
      (or_right (any (frame_delimits a) (descend [] c i).way) _ (or_left (eqb a a) _ (eq-eqb a a refl)))

  pub reaches_enclosed : (j : ℕ) → j < size t → Reaches t a j j → enclosed a (way_to t j) ≡ true
  unfolding way_to sub descend
  reaches_enclosed j l (q, m, d, k) =
      let e : spot_at t j ≡ descend (way_to t q) (sub t q) (suc (j - suc q)) = ap (spot_at t) (let z : j ≡ q + suc (j - suc q) = omega arith in z) ∙ (spot_part t q (omega arith)).1 (suc (j - suc q)) (omega arith) in
      ap (λ (z : Spot). enclosed a z.way) e
      ∙ (ap (λ s. enclosed a (descend (way_to t q) s (suc (j - suc q))).way) (delimits_at_is a (sub t q) d) ∙ inside-enclosed (way_to t q) (below (sub t q)) (j - suc q))

  pub enclosed_reach : (j : ℕ) → j < size t → enclosed a (way_to t j) ≡ ltb j (reach_of t a j)
  enclosed_reach j l =
      same_test (λ h. lt-ltb j (reach_of t a j) (some_reach j j (enclosed_reaches j l h))) (λ h. reaches_enclosed j l (reach_some j j (ltb-true j (reach_of t a j) h)))

  -- the reach is 0 exactly if no place before delimits the atom
  pub reach_none : (j : ℕ) → reach_of t a j ≡ 0 → (q : ℕ) → q < j → delimits_at a (sub t q) ≡ false
  reach_none j h q l = not_so (λ d. let r = some_reach j 0 (q, l, d, omega (arith, size_pos (sub t q))) in omega arith)

  pub none_reach : (j : ℕ) → ((q : ℕ) → q < j → delimits_at a (sub t q) ≡ false) → reach_of t a j ≡ 0
  none_reach j h =
      lt_case (reach_of t a j ≡ 0) 0 (reach_of t a j) (λ l. let (q, m, d, k) = reach_some j 0 l in clash d (h q m)) (λ l. omega arith)

  pub before_none : (j : ℕ) → delimited_before t j a ≡ false → reach_of t a j ≡ 0
  unfolding delimited_before
  before_none j e = none_reach j (λ q l. rw zero-add at (first_from-none (λ m. delimits_at a (sub t m)) 0 j (found_none _ e) q l))

  pub none_before : (j : ℕ) → reach_of t a j ≡ 0 → delimited_before t j a ≡ false
  unfolding delimited_before
  none_before j e = none_found _ (none-first_from (λ m. delimits_at a (sub t m)) 0 j (λ q l. rw zero-add (reach_none j e q l)))

  -- so it says whether a place before delimits the atom, and, at the end, whether any place does
  pub before_reach : (j : ℕ) → delimited_before t j a ≡ ltb 0 (reach_of t a j)
  before_reach j =
      lt_case (delimited_before t j a ≡ ltb 0 (reach_of t a j)) 0 (reach_of t a j)
      (λ l. rw (lt-ltb 0 (reach_of t a j) l) (bool_case (delimited_before t j a ≡ true) (delimited_before t j a) (λ e. e) (λ e. absurd (omega (arith, before_none j e)))))
      (λ l. rw (le-ltb 0 (reach_of t a j) l) (none_before j (omega arith)))

  pub binders_reach : member a (binders t) ≡ ltb 0 (reach_of t a (size t))
  binders_reach =
      same_test
      (λ h. let (m, r, s) = member-delimited a t h in
      lt-ltb 0 (reach_of t a (size t)) (some_reach (size t) 0 (m, s.placed, is_delimits_at a (sub t m) r s.stands, omega (arith, size_pos (sub t m)))))
      (λ h. let (q, l, d, k) = reach_some (size t) 0 (ltb-true 0 (reach_of t a (size t)) h) in
      delimited-member a t q (below (sub t q)) (record { placed = l; stands = delimits_at_is a (sub t q) d }))
