-- Holding back (refusal 14) in one walk: a live place is held back exactly if the furthest end of the delimitations before it that hold lies behind it; and
-- a walk that passes over what is not live knows an end that is as good.
use mathlib.Core.Path.{◌≡◌, refl, sym, ap, subst, ◌∙◌}
use mathlib.Core.Bool.{Bool, true, false, cond, not, ◌&&◌, ◌||◌}
use mathlib.Core.Option.{Option, none, some}
use Prim.Native.Nat.{ℕ, zero, suc, ◌+◌, ◌-◌, ◌≤◌, ◌<◌, max}
use native.Mathlib.Omega.{arith}
use lib.Dec.{ltb, leb}
use borrow.Author.Tests.{ltb-true, lt-ltb, leb-true, le-leb, not-true}
use Rattle.cows.specs.Basics.{found_with, found}
use Rattle.cows.specs.Terms.{Term, size, prefixed, delimits}
use Rattle.cows.specs.Places.{spot_at, way_to, sub, first, encloses}
use Rattle.cows.specs.Within.{Within}
use Rattle.cows.specs.Active.{live}
use Rattle.cows.specs.Moves.{ready_kill, held_back}
use Rattle.cows.proofs.Basics.{clash, and_true, true_and, or_left, or_case, same_test, lt_case, found_none, none_found, holds_some}
use Rattle.cows.proofs.Stands.{first_fails, fails_first}
use Rattle.cows.proofs.Places.{size_pos, spot_fits}
use Rattle.ways.proofs.Parts.{part_ends}
use Rattle.holding.proofs.HeldBack.{held-delimitation, held_none}
use Rattle.roles.specs.Roles.{unheld, holding, furthest, held_until}

-- the furthest end is at least each that counts, and is one of them
module _ (f : ℕ → Bool) (end : ℕ → ℕ) where
  furthest-some : (k n : ℕ) → n < k → f n ≡ true → end n ≤ furthest f end k
  unfolding furthest
  furthest-some zero n h e = absurd (omega arith)
  furthest-some (suc k) n h e = go (f k) refl (λ l. furthest-some k n l e)
    where
      go : (b : Bool) → f k ≡ b → (n < k → end n ≤ furthest f end k) → end n ≤ cond b (max (furthest f end k) (end k)) (furthest f end k)
      go true q r = lt_case (end n ≤ max (furthest f end k) (end k)) n k (λ l. omega (arith, r l)) (λ l. let z : n ≡ k = omega arith in rw z (omega arith))
      go false q r = r (lt_case (n < k) n k (λ l. l) (λ l. let z : n ≡ k = omega arith in clash (ap f (sym z) ∙ e) q))

  some-furthest : (k c : ℕ) → c < furthest f end k → (n : ℕ) × (n < k) × (f n ≡ true) × (c < end n)
  unfolding furthest
  some-furthest zero c h = absurd (omega arith)
  some-furthest (suc k) c h = go (f k) refl (some-furthest k c) h
    where
      more : (n : ℕ) × (n < k) × (f n ≡ true) × (c < end n) → (n : ℕ) × (n < suc k) × (f n ≡ true) × (c < end n)
      more (n, l, e, m) = (n, omega arith, e, m)

      go : (b : Bool) → f k ≡ b → (c < furthest f end k → (n : ℕ) × (n < k) × (f n ≡ true) × (c < end n)) → c < cond b (max (furthest f end k) (end k)) (furthest f end k)
          → (n : ℕ) × (n < suc k) × (f n ≡ true) × (c < end n)
      go true q r h = lt_case ((n : ℕ) × (n < suc k) × (f n ≡ true) × (c < end n)) c (end k) (λ l. (k, omega arith, q, l)) (λ l. more (r (omega arith)))
      go false q r h = more (r h)

module _ (t : Term) (w : Within t) (c : ℕ) (l : c < size t) (v : live (way_to t c) ≡ true) where
  -- the record at place n holds c back if it is a [k] around c and the table has a ready kill of k
  at_label : (n k : ℕ) → prefixed delimits (sub t n) ≡ some k → held_back c c n (spot_at t n) ≡ ((encloses n (sub t n) c || encloses n (sub t n) c) && found (first (ready_kill k) t))
  at_label n k d = held-delimitation t w c c n k l l v v d

  held_before : unheld t c ≡ true → held_until t c ≤ c
  unfolding unheld held_until holding way_to sub encloses
  held_before e =
      lt_case (held_until t c ≤ c) c (held_until t c)
      (λ m. let (n, h, g, u) = some-furthest (holding t) (λ n. n + size (sub t n)) c c m in
      let (k, d, r) = holds_some (λ k. found (first (ready_kill k) t)) (prefixed delimits (sub t n)) g in
      let no = first_fails (held_back c c) t (found_none _ (not-true _ e)) n (sub t n) (record { placed = omega arith; stands = refl }) in
      clash (at_label n k d ∙ true_and (or_left (encloses n (sub t n) c) (encloses n (sub t n) c) (true_and (lt-ltb n c h) (lt-ltb c (n + size (sub t n)) u))) r) no)
      (λ m. m)

  before_held : held_until t c ≤ c → unheld t c ≡ true
  unfolding unheld held_until holding way_to sub encloses found_with
  before_held h =
      ap not (none_found _ (fails_first (held_back c c) t (λ n p e. by n p (prefixed delimits (sub t n)) refl e)))
    where
      by : (n : ℕ) → n < size t → (o : Option ℕ) → prefixed delimits (sub t n) ≡ o → held_back c c n (spot_at t n) ≡ true → ⊥
      by n p none d e = clash e (held_none t c c n d)
      by n p (some k) d e =
          let (i, r) = and_true (encloses n (sub t n) c || encloses n (sub t n) c) _ (sym (at_label n k d) ∙ e) in
          let j : encloses n (sub t n) c ≡ true = or_case (encloses n (sub t n) c ≡ true) (encloses n (sub t n) c) (encloses n (sub t n) c) i (λ q. q) (λ q. q) in
          let (x, y) = and_true (ltb n c) _ j in
          let g : holding t n ≡ true = ap (found_with (λ k. found (first (ready_kill k) t))) d ∙ r in
          omega (arith, ltb-true n c x, ltb-true c (n + size (sub t n)) y, furthest-some (holding t) (λ n. n + size (sub t n)) c n (ltb-true n c x) g)

  -- a live place is not held back exactly if what holds back ends before it
  pub unheld_walk : unheld t c ≡ leb (held_until t c) c
  unheld_walk = same_test (λ e. le-leb (held_until t c) c (held_before e)) (λ e. before_held (leb-true (held_until t c) c e))

-- The walk: the furthest end grows from place to place, over terms that are passed over by no more than their end.
module _ (f : ℕ → Bool) (end : ℕ → ℕ) where
  furthest_more : (k : ℕ) → furthest f end k ≤ furthest f end (suc k)
  unfolding furthest
  furthest_more k = go (f k)
    where
      go : (b : Bool) → furthest f end k ≤ cond b (max (furthest f end k) (end k)) (furthest f end k)
      go true = omega arith
      go false = omega arith

  furthest_up : (k j : ℕ) → furthest f end k ≤ furthest f end (k + j)
  furthest_up k zero = let z : k + 0 ≡ k = omega arith in rw z (omega arith)
  furthest_up k (suc j) = let z : k + suc j ≡ suc (k + j) = omega arith in rw z (omega (arith, furthest_up k j, furthest_more (k + j)))

  furthest_over : (k j b : ℕ) → ((n : ℕ) → k ≤ n → n < k + j → end n ≤ b) → furthest f end (k + j) ≤ max (furthest f end k) b
  furthest_over k zero b h = let z : k + 0 ≡ k = omega arith in rw z (omega arith)
  furthest_over k (suc j) b h =
      lt_case (furthest f end (k + suc j) ≤ max (furthest f end k) b) (max (furthest f end k) b) (furthest f end (k + suc j))
      (λ l. let (n, m, e, u) = some-furthest f end (k + suc j) (max (furthest f end k) b) l in
      lt_case (furthest f end (k + suc j) ≤ max (furthest f end k) b) n k
      (λ x. absurd (omega (arith, furthest-some f end k n x e)))
      (λ x. absurd (omega (arith, h n x m))))
      (λ l. l)

-- A walk has come to place i and knows `held`: it is as good as the furthest end of what holds back, since what was left out ends before i.
pub record Held (t : Term) (i held : ℕ) : Type 0 where
  pub low : held ≤ held_until t i
  pub high : held_until t i ≤ max held i

-- what such a walk knows when it leaves place i
abbrev pub held_past : Term → ℕ → ℕ → ℕ
held_past t i held = cond (holding t i) (max held (i + size (sub t i))) held

module _ (t : Term) (i held : ℕ) (h : Held t i held) where
  pub held_at : leb (held_until t i) i ≡ leb held i
  held_at = same_test (λ e. le-leb held i (omega (arith, h.low, leb-true (held_until t i) i e))) (λ e. le-leb (held_until t i) i (omega (arith, h.high, leb-true held i e)))

  pub held_through : Held t (suc i) (held_past t i held)
  unfolding held_until furthest
  held_through = go (holding t i) refl
    where
      go : (b : Bool) → holding t i ≡ b → Held t (suc i) (cond b (max held (i + size (sub t i))) held)
      go true e =
          let z : held_until t (suc i) ≡ max (held_until t i) (i + size (sub t i)) = rw e in
          record { low = omega (arith, h.low, z); high = omega (arith, h.high, z) }
      go false e =
          let z : held_until t (suc i) ≡ held_until t i = rw e in
          record { low = omega (arith, h.low, z); high = omega (arith, h.high, z) }

  pub held_over : i < size t → Held t (i + size (sub t i)) (held_past t i held)
  unfolding held_until
  held_over l =
      let k = size (sub t i) - 1 in
      let z : i + size (sub t i) ≡ suc i + k = omega (arith, size_pos (sub t i)) in
      let q = held_through in
      subst (λ j. Held t j (held_past t i held)) (sym z)
      (record {
        low = omega (arith, q.low, furthest_up (holding t) (λ n. n + size (sub t n)) (suc i) k);
        high = omega (arith, q.high, z, furthest_over (holding t) (λ n. n + size (sub t n)) (suc i) k (i + size (sub t i)) (λ n u v. part_ends t i n l (omega arith) (omega arith)));
      })
