-- Halting along the way to a kill (specs/Halting): one record of the way, whether it goes on in the first child or in the second.
use mathlib.Core.Path.{◌≡◌, refl}
use mathlib.Core.Logic.{◌≢◌}
use mathlib.Core.List.{List}
use Prim.Native.Nat.{ℕ, suc, ◌+◌, ◌*◌, ◌-◌, ◌/◌, ◌≤◌, ◌<◌}
use native.Mathlib.Omega.{arith}
use lib.ListN.{length, take, drop, get_or}
use borrow.Author.Tests.{lt-ltb, le-ltb}
use Rattle.cows.specs.Terms.{Basic, Term, leaf, under, both, size}
use Rattle.cows.specs.Kinds.{root, children_of}
use Rattle.cows.specs.Format.{encode}
use Rattle.cows.specs.Moves.{halt}
use Rattle.cows.proofs.Format.{length-encode}
use Rattle.records.specs.Rewrites.{put, StandsIn, Rewritable, Rewrites, gone}
use Rattle.records.proofs.StandsIn.{encode-under, encode-both, stands_children, stands_under, stands_left, stands_right}
use Rattle.records.proofs.Rewrites.{Step}
use Rattle.rewriting.specs.Aligned.{Aligned}
use Rattle.rewriting.specs.Halting.{halt_aside, place_in, PlaceOf}
use Rattle.rewriting.proofs.Aligned.{end_placed, first_placed}
use Rattle.rewriting.proofs.Children.{head, first_child, second_child, two_children, one_child}

-- the way ends here
pub aside_here : (n : ℕ) (t : Term) → n ≡ 0 → halt_aside n t ≡ gone t
unfolding halt_aside
aside_here n (leaf x) e = refl
aside_here n (under u t) e = rw e
aside_here n (both j l r) e = rw e

-- The place n, counted from behind the first record, is one of the first child's; it is the place m of the second child.
abbrev pub InFirst : ℕ → Term → Type 0
InFirst n (leaf x) = ⊥
InFirst n (under u t) = Unit {0}
InFirst n (both j l r) = n < size l

abbrev pub InSecond : ℕ → ℕ → Term → Type 0
InSecond n m (leaf x) = ⊥
InSecond n m (under u t) = ⊥
InSecond n m (both j l r) = n ≡ size l + m

pub aside_first : (k n : ℕ) → k ≡ suc n → (t : Term) → InFirst n t → Step (halt_aside k) (halt_aside n) halt (head t) t
unfolding halt_aside root
aside_first k n e (leaf x) h = absurd h
aside_first k n e (under u t) h = rw e (encode-under u (halt_aside n t))
aside_first k n e (both j l r) h = rw (e, lt-ltb n (size l) h) (encode-both j (halt_aside n l) (halt r))

pub aside_second : (k n m : ℕ) → k ≡ suc n → (t : Term) → InSecond n m t → Step (halt_aside k) halt (halt_aside m) (head t) t
unfolding halt_aside root
aside_second k n m e (leaf x) h = absurd h
aside_second k n m e (under u t) h = absurd h
aside_second k n m e (both j l r) h =
    let z : n - size l ≡ m = omega arith in
    rw (e, le-ltb n (size l) (omega arith), z) (encode-both j (halt l) (halt_aside m r))

-- what a branch knows of the term tells its kind
module _ {s : List ℕ} {i : ℕ} where
  first_kind : (n : ℕ) (t : Term) → StandsIn s i t → InFirst n t → 1 ≤ children_of (get_or s i 0)
  first_kind n (leaf x) y h = absurd h
  first_kind n (under u t) y h = omega (arith, stands_children (under u t) y)
  first_kind n (both o l r) y h = omega (arith, stands_children (both o l r) y)

  second_kind : (n m : ℕ) (t : Term) → StandsIn s i t → InSecond n m t → children_of (get_or s i 0) ≡ 2
  second_kind n m (leaf x) y h = absurd h
  second_kind n m (under u t) y h = absurd h
  second_kind n m (both o l r) y h = stands_children (both o l r) y

-- The byte a below the term at byte i: what the calls are asked and what they give.
module _ {s ends : List ℕ} {i a : ℕ} {d : List ℕ} {j : ℕ}
    (r : Rewritable (halt_aside (place_in i a)) s i d j) (b : PlaceOf s ends i a) (apart : a ≢ i) where
  not-leaf : (x : Basic) → StandsIn s i (leaf x) → ⊥
  unfolding size
  not-leaf x y = apart (omega (arith, end_placed b.at (leaf x) y, length-encode (leaf x)))

  further : place_in i a ≡ suc (place_in (i + 16) a)
  further = omega arith

  first-end : (m : Term) → StandsIn s (i + 16) m → 16 * get_or ends ((i + 16) / 16) 0 ≡ i + 16 + length (encode m)
  first-end m y = end_placed (first_placed b.at) m y

  -- a is a place of the first child: the way goes on there, and a second child is halted
  module _ (h : a < 16 * get_or ends ((i + 16) / 16) 0) where
    in_first : (t : Term) → StandsIn s i t → InFirst (place_in (i + 16) a) t
    in_first (leaf x) y = absurd (not-leaf x y)
    in_first (under u t) y = tt
    in_first (both o m q) y = omega (arith, first-end m (stands_left o m q y), length-encode m)

    some : 1 ≤ children_of (get_or s i 0)
    some = first_kind _ r.term r.stands (in_first r.term r.stands)

    step : (t : Term) → InFirst (place_in (i + 16) a) t → Step (halt_aside (place_in i a)) (halt_aside (place_in (i + 16) a)) halt (head t) t
    step = aside_first (place_in i a) (place_in (i + 16) a) further

    pub way_first_asks : {d' : List ℕ} {j' : ℕ} → j' ≡ j + 16 → length d' ≡ length d → Rewritable (halt_aside (place_in (i + 16) a)) s (i + 16) d' j' × PlaceOf s ends (i + 16) a
    way_first_asks at keep = (
      (first_child _ _ halt _ step r b.at in_first some at keep).0,
      record { at = first_placed b.at; from = omega arith; before = h; whole = b.whole },
    )

    module _ {d' e : List ℕ} {j' p q : ℕ} (w : Rewrites (halt_aside (place_in (i + 16) a)) s (i + 16) d' j' e p q) (at : j' ≡ j + 16) where
      pub halt_second_asks : children_of (get_or s i 0) ≡ 2 → length e ≡ length d → Rewritable halt s p e q × Aligned s ends p
      halt_second_asks c keep = second_child _ _ halt _ step r b.at in_first some w at c keep

      pub way_first-both : {e' : List ℕ} {p' q' : ℕ} → children_of (get_or s i 0) ≡ 2 → d' ≡ put d j (take 16 (drop i s)) → Rewrites halt s p e q e' p' q' → Rewrites (halt_aside (place_in i a)) s i d j e' p' q'
      way_first-both c x v = two_children _ _ halt _ step r b.at in_first some w at c x v

      pub way_first_one : children_of (get_or s i 0) ≢ 2 → d' ≡ put d j (take 16 (drop i s)) → Rewrites (halt_aside (place_in i a)) s i d j e p q
      way_first_one c x = one_child _ _ halt _ step r b.at in_first some w at c x

  -- a is a place of the second child, which stands at byte p: the first is halted, and the way goes on in the second
  module _ (h : 16 * get_or ends ((i + 16) / 16) 0 ≤ a) where
    in_second : (p : ℕ) → ((m : Term) → StandsIn s (i + 16) m → p ≡ i + 16 + length (encode m)) → (t : Term) → StandsIn s i t → InSecond (place_in (i + 16) a) (place_in p a) t
    unfolding size
    in_second p at (leaf x) y = absurd (not-leaf x y)
    in_second p at (under u t) y =
        absurd (omega (arith, end_placed b.at (under u t) y, first-end t (stands_under u t y), length-encode (under u t), length-encode t))
    in_second p at (both o m q) y =
        let z = stands_left o m q y in omega (arith, at m z, first-end m z, length-encode m)

    kinds : children_of (get_or s i 0) ≡ 2
    kinds = second_kind _ _ r.term r.stands (in_second _ first-end r.term r.stands)

    rest : (p : ℕ) (t : Term) → InSecond (place_in (i + 16) a) (place_in p a) t → Step (halt_aside (place_in i a)) halt (halt_aside (place_in p a)) (head t) t
    rest p = aside_second (place_in i a) (place_in (i + 16) a) (place_in p a) further

    pub halt-first_asks : {d' : List ℕ} {j' : ℕ} → j' ≡ j + 16 → length d' ≡ length d → Rewritable halt s (i + 16) d' j' × Aligned s ends (i + 16)
    halt-first_asks at keep = first_child _ halt _ _ (rest (16 * get_or ends ((i + 16) / 16) 0)) r b.at (in_second _ first-end) (omega (arith, kinds)) at keep

    module _ {d' e : List ℕ} {j' p q : ℕ} (w : Rewrites halt s (i + 16) d' j' e p q) (at : j' ≡ j + 16) where
      in_rest : (t : Term) → StandsIn s i t → InSecond (place_in (i + 16) a) (place_in p a) t
      in_rest = in_second p (λ m y. (w.done m y).next)

      place_second : Aligned s ends p → (t : Term) → StandsIn s i t → PlaceOf s ends p a
      unfolding size
      place_second l (leaf x) y = absurd (in_rest (leaf x) y)
      place_second l (under u t) y = absurd (in_rest (under u t) y)
      place_second l (both o m v) y =
          let z = stands_left o m v y in
          let n = (w.done m z).next in
          record {
            at = l;
            from = omega (arith, n, first-end m z);
            before = omega (arith, n, end_placed b.at (both o m v) y, end_placed l v (stands_right o m v p n y), length-encode (both o m v), length-encode m, length-encode v);
            whole = b.whole;
          }

      pub way_second_asks : length e ≡ length d → Rewritable (halt_aside (place_in p a)) s p e q × PlaceOf s ends p a
      way_second_asks keep =
          let (x, l) = second_child _ halt _ _ (rest p) r b.at in_rest (omega (arith, kinds)) w at kinds keep in
          (x, place_second l r.term r.stands)

      pub way_second_both : {e' : List ℕ} {p' q' : ℕ} → d' ≡ put d j (take 16 (drop i s)) → Rewrites (halt_aside (place_in p a)) s p e q e' p' q' → Rewrites (halt_aside (place_in i a)) s i d j e' p' q'
      way_second_both x v = two_children _ halt _ _ (rest p) r b.at in_rest (omega (arith, kinds)) w at kinds x v

-- what halting beside the way asks, as its two clauses
pub aside_clauses : {A B : Type 0} → A × B → record { rewritable : A; place_of : B }
aside_clauses h = record { rewritable = h.0; place_of = h.1 }
