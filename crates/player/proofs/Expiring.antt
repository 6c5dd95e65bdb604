-- After a cut (specs/Cutting) the ends are those of the successor: by the sizes of its terms.
use mathlib.Core.Path.{◌≡◌, refl, sym, ap, ◌∙◌}
use mathlib.Core.Logic.{◌⊎◌, inl, inr}
use mathlib.Core.Bool.{cond}
use mathlib.Core.List.{List, [], ◌++◌}
use Prim.Native.Nat.{ℕ, suc, ◌+◌, ◌-◌, ◌≤◌, ◌<◌}
use native.Mathlib.Omega.{arith}
use lib.Dec.{ltb}
use borrow.Author.Tests.{ltb-true, ltb-false, lt-ltb, le-ltb}
use lib.ListN.{length, get_or, get_or-append}
use lib.Seq.{get_or-append-add}
use Rattle.cows.specs.Terms.{Prefix, Term, under, size, below}
use Rattle.cows.specs.Places.{Way, spot_at, descend, way_to, sub}
use Rattle.cows.specs.Records.{ahead}
use Rattle.cows.specs.Moves.{continue}
use Rattle.cows.proofs.Basics.{bool_case}
use Rattle.cows.proofs.Places.{size_pos, fill_spot, descend_here, spot_under, at_part}
use Rattle.cows.proofs.Ways.{length-ahead}
use Rattle.records.specs.Holds.{Holds}
use Rattle.records.specs.Ends.{EndsFrom}
use Rattle.ways.specs.Ways.{start_of}
use Rattle.plans.proofs.Continuing.{Cuts, start, size-body, cuts, continue_at, continue-size}
use Rattle.player.specs.Cutting.{inner_of, outer_of, CutsEnds, EndsCut}
use Rattle.player.proofs.Sizes.{sizes, sizes_at, length_sizes, ahead_sizes, behind_sizes, sizes_fill, length-ahead_sizes, Beside, Around, ahead_or}
use Rattle.player.proofs.Lasting.{Ended, ends_by_places}

-- the prefix u at place a goes, with the whole choice around it at place c
module _ (ends : List ℕ) (t : Term) (z : Ended ends t) (a : ℕ) (u : Prefix) (l : a < size t) (e : sub t a ≡ under u (below (sub t a))) where
  abbrev c : ℕ
  c = start_of a (way_to t a)

  abbrev body : Term
  body = below (sub t a)

  abbrev w : Way
  w = way_to t c

  abbrev old : ℕ
  old = size (sub t c)

  abbrev new : ℕ
  new = size body

  abbrev r : Term
  r = continue t a

  inside_c : c < size t
  inside_c = (start t a u l e).at.0

  place : length (ahead w) ≡ c
  place = length-ahead t c inside_c

  before_is : sizes t ≡ ahead_sizes w old ++ (sizes (sub t c) ++ behind_sizes w)
  before_is = ap sizes (sym (fill_spot t c)) ∙ sizes_fill w (sub t c)

  after_is : sizes r ≡ ahead_sizes w new ++ (sizes body ++ behind_sizes w)
  after_is = ap sizes (continue_at t a u l e) ∙ sizes_fill w body

  long_old : length (ahead_sizes w old) ≡ c
  long_old = length-ahead_sizes w old ∙ place

  long_new : length (ahead_sizes w new) ≡ c
  long_new = length-ahead_sizes w new ∙ place

  -- the sizes ahead of the choice, in the continuation, and behind
  ahead_old : (j : ℕ) → j < c → size (sub t j) ≡ get_or (ahead_sizes w old) j 0
  ahead_old j h = sym (sizes_at t j (omega (arith, inside_c))) ∙ (ap (λ x. get_or x j 0) before_is ∙ get_or-append (ahead_sizes w old) _ 0 j (omega (arith, long_old)))

  ahead-new : (j : ℕ) → j < c → j < size r → size (sub r j) ≡ get_or (ahead_sizes w new) j 0
  ahead-new j h m = sym (sizes_at r j m) ∙ (ap (λ x. get_or x j 0) after_is ∙ get_or-append (ahead_sizes w new) _ 0 j (omega (arith, long_new)))

  within_new : (i : ℕ) → i < new → c + i < size r → size (sub r (c + i)) ≡ size (sub body i)
  within_new i h m =
      let y : c + i ≡ length (ahead_sizes w new) + i = omega (arith, long_new) in
      sym (sizes_at r (c + i) m)
      ∙ (ap (λ x. get_or x (c + i) 0) after_is
      ∙ (ap (λ x. get_or (ahead_sizes w new ++ (sizes body ++ behind_sizes w)) x 0) y
      ∙ (get_or-append-add (ahead_sizes w new) _ i 0 ∙ (get_or-append (sizes body) _ 0 i (omega (arith, length_sizes body)) ∙ sizes_at body i h))))

  within_old : (i : ℕ) → i < new → sub t (suc a + i) ≡ sub body i
  unfolding sub spot_at
  within_old i h =
      let (k, is, v) = spot_under t a u body l e in
      (at_part t (suc a) i body (descend (way_to t (suc a)) body i).way (descend (way_to t (suc a)) body i).here k is h refl).1 ∙ descend_here (way_to t (suc a)) [] body i

  behind-new : (i : ℕ) → c + (new + i) < size r → size (sub r (c + (new + i))) ≡ get_or (behind_sizes w) i 0
  behind-new i m =
      let y : c + (new + i) ≡ length (ahead_sizes w new) + (length (sizes body) + i) = omega (arith, long_new, length_sizes body) in
      sym (sizes_at r (c + (new + i)) m)
      ∙ (ap (λ x. get_or x (c + (new + i)) 0) after_is
      ∙ (ap (λ x. get_or (ahead_sizes w new ++ (sizes body ++ behind_sizes w)) x 0) y ∙ (get_or-append-add (ahead_sizes w new) _ (length (sizes body) + i) 0 ∙ get_or-append-add (sizes body) _ i 0)))

  behind_old : (i : ℕ) → c + (old + i) < size t → size (sub t (c + (old + i))) ≡ get_or (behind_sizes w) i 0
  behind_old i m =
      let y : c + (old + i) ≡ length (ahead_sizes w old) + (length (sizes (sub t c)) + i) = omega (arith, long_old, length_sizes (sub t c)) in
      sym (sizes_at t (c + (old + i)) m)
      ∙ (ap (λ x. get_or x (c + (old + i)) 0) before_is
      ∙ (ap (λ x. get_or (ahead_sizes w old ++ (sizes (sub t c) ++ behind_sizes w)) x 0) y ∙ (get_or-append-add (ahead_sizes w old) _ (length (sizes (sub t c)) + i) 0 ∙ get_or-append-add (sizes (sub t c)) _ i 0)))

  -- the numbers of the cut
  end-at : (j : ℕ) → j < size t → get_or ends j 0 ≡ j + size (sub t j)
  end-at j h = z.places j h

  numbers : (get_or ends a 0 ≡ a + suc new) × (get_or ends c 0 ≡ c + old) × (size r + old ≡ size t + new) × Cuts t a c
  numbers = (end-at a l ∙ ap (λ x. a + x) (size-body t a u l e), end-at c inside_c, omega (arith, continue-size t a u l e, size-body t a u l e), cuts t a u l e)

  gone : (outer_of ends a c + new ≡ old) × (get_or ends a 0 - inner_of a c ≡ c + new) × (new < old)
  gone = let (x, y, _, k) = numbers in let b = size-body t a u l e in (omega (arith, x, y, k, b), omega (arith, x, y, k, b), omega (arith, k, b))

  pub cuts_ends : (n : ℕ) → n ≡ size t → CutsEnds ends n a c
  unfolding Beside Around
  cuts_ends n h = record {
    span = let (x, y, _, v) = numbers in let b = size-body t a u l e in record {
      few = omega (arith, h, z.few);
      low = v.low;
      inside = omega (arith, h);
      room = omega (arith, h, z.room);
      some = omega (arith, x);
      inner = omega (arith, x, y, v, b);
      outer = omega (arith, y, v, h);
    };
    room = omega (arith, h, z.room);
    later = λ k m.
        bool_case _ (ltb k (size t)) (λ q. omega (arith, end-at k (ltb-true k (size t) q)))
        (λ q. omega (arith, z.behind k (ltb-false k (size t) q) (omega (arith, h))));
    around = λ k m q. go k m q (ahead_or w old new k (omega (arith, place)));
  }
    where
      go : (k : ℕ) → k < c → c < get_or ends k 0 → Beside w old new k ⊎ Around w old new k → get_or ends c 0 ≤ get_or ends k 0
      go k m q (inl v) = absurd (omega (arith, end-at k (omega (arith, inside_c)), ahead_old k m, v.1, place))
      go k m q (inr v) = omega (arith, end-at k (omega (arith, inside_c)), ahead_old k m, v.1, place, numbers)

  module _ (n : ℕ) (same : n ≡ size t) (ends' : List ℕ) (h : EndsCut ends n a c ends') where
    places_ahead : (j : ℕ) → j < c → j < size r → get_or ends' j 0 ≡ j + size (sub r j)
    unfolding Beside Around
    places_ahead j m k = h.ahead j m ∙ go (ahead_or w old new j (omega (arith, place)))
      where
        go : Beside w old new j ⊎ Around w old new j → cond (ltb c (get_or ends j 0)) (get_or ends j 0 - outer_of ends a c) (get_or ends j 0) ≡ j + size (sub r j)
        go (inl v) =
            let x = end-at j (omega (arith, inside_c)) in
            let y = ahead_old j m in
            rw (le-ltb c (get_or ends j 0) (omega (arith, x, y, v.1, place))) (omega (arith, x, y, v.0, ahead-new j m k))
        go (inr v) =
            let x = end-at j (omega (arith, inside_c)) in
            let y = ahead_old j m in
            rw (lt-ltb c (get_or ends j 0) (omega (arith, x, y, v.1, place, size_pos (sub t c)))) (omega (arith, x, y, v.0, ahead-new j m k, gone))

    places_within : (j : ℕ) → c ≤ j → j < c + new → j < size r → get_or ends' j 0 ≡ j + size (sub r j)
    places_within j lo hi k =
        let (g, d, _) = gone in
        let (x, y, _, v) = numbers in
        let i = j - c in
        let p : j + inner_of a c ≡ suc a + i = omega (arith, v) in
        let q : c + i ≡ j = omega arith in
        let b : size (sub r j) ≡ size (sub body i) = ap (λ o. size (sub r o)) (sym q) ∙ within_new i (omega arith) (omega arith) in
        let f : get_or ends (j + inner_of a c) 0 ≡ suc a + i + size (sub body i) =
        ap (λ o. get_or ends o 0) p ∙ (end-at (suc a + i) (omega (arith, v, size-body t a u l e)) ∙ ap (λ o. suc a + i + size o) (within_old i (omega arith))) in
        h.within j lo (omega (arith, d)) ∙ omega (arith, f, b, p, v)

    places_behind : (j : ℕ) → c + new ≤ j → j < size r → get_or ends' j 0 ≡ j + size (sub r j)
    places_behind j lo k =
        let (g, d, _) = gone in
        let (x, y, t', v) = numbers in
        let i = j - c - new in
        let p : j + outer_of ends a c ≡ c + (old + i) = omega (arith, g) in
        let q : c + (new + i) ≡ j = omega arith in
        let b : size (sub r j) ≡ get_or (behind_sizes w) i 0 = ap (λ o. size (sub r o)) (sym q) ∙ behind-new i (omega arith) in
        let f : get_or ends (j + outer_of ends a c) 0 ≡ c + (old + i) + get_or (behind_sizes w) i 0 =
        ap (λ o. get_or ends o 0) p ∙ (end-at (c + (old + i)) (omega (arith, t')) ∙ ap (λ o. c + (old + i) + o) (behind_old i (omega (arith, t')))) in
        h.behind j (omega (arith, d)) (omega (arith, g, t')) ∙ omega (arith, f, b, p, g)

    places_last : (j : ℕ) → size r ≤ j → j ≤ size r + 1 → get_or ends' j 0 ≡ size r + 1
    places_last j lo hi =
        let (g, d, _) = gone in
        let (x, y, t', v) = numbers in
        let f = z.behind (j + outer_of ends a c) (omega (arith, g, t')) (omega (arith, g, t')) in
        h.behind j (omega (arith, d, t', v)) (omega (arith, g, t')) ∙ omega (arith, f, g, t')

    pub cut_ends_from : (next : List ℕ) → Holds next r → length ends' ≡ length ends → EndsFrom next ends' 0
    cut_ends_from next o len =
        let (g, d, less) = gone in
        let (x, y, t', v) = numbers in
        ends_by_places next ends' r o (omega (arith, t', less, z.few)) (omega (arith, t', less, len, z.room))
        (λ j k.
        bool_case _ (ltb j c) (λ q. places_ahead j (ltb-true j c q) k)
        (λ q.
        bool_case _ (ltb j (c + new)) (λ p. places_within j (ltb-false j c q) (ltb-true j (c + new) p) k) (λ p. places_behind j (ltb-false j (c + new) p) k)))
        places_last
