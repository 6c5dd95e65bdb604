-- After a floating (extrude, EndsLifted) the ends are those of the successor: by the sizes of its terms.
use mathlib.Core.Path.{◌≡◌, sym, ap, ◌∙◌}
use mathlib.Core.List.{List, ◌∷◌, ◌++◌, append_assoc}
use Prim.Native.Nat.{ℕ, suc, ◌+◌, ◌-◌, ◌≤◌, ◌<◌}
use native.Mathlib.Omega.{arith}
use lib.Dec.{ltb, eqb}
use borrow.Author.Tests.{ltb-true, ltb-false, eqb-true, eqb-false}
use lib.ListN.{length, get_or, length-append, get_or-append}
use lib.Seq.{get_or-append-add}
use Rattle.cows.specs.Terms.{delimitation, Term, under, size}
use Rattle.cows.specs.Places.{plug, sub}
use Rattle.cows.proofs.Basics.{bool_case}
use Rattle.cows.proofs.Places.{spot_fits}
use Rattle.records.specs.Holds.{Holds}
use Rattle.records.specs.Ends.{EndsFrom}
use Rattle.ways.specs.Known.{Table, EndPlaces}
use Rattle.ways.proofs.KnownTables.{table_size, table_ended}
use Rattle.extrude.specs.Extruding.{LiftsEnds, EndsLifted}
use Rattle.extrude.proofs.Judged.{Exchanged}
use Rattle.player.proofs.Sizes.{sizes, sizes_at, length_sizes, plug_size, left_sizes, right_sizes, ahead_sizes, behind_sizes, size-plug, sizes_plug, sizes_fill, plug_more, length-ahead_sizes, length-left_sizes}
use Rattle.player.proofs.Lasting.{behind_last, ends_by_places}

-- The elements of two lists: x goes out behind T, and h comes in ahead of it.
module _ (A T R : List ℕ) (h x : ℕ) where
  abbrev old : List ℕ
  old = A ++ (suc h ∷ (T ++ (x ∷ R)))

  abbrev new : List ℕ
  new = A ++ (suc h ∷ (h ∷ (T ++ R)))

  at_first : (k : ℕ) → k ≤ length A → get_or new k 0 ≡ get_or old k 0
  at_first k l =
      bool_case _ (ltb k (length A))
      (λ e. get_or-append A _ 0 k (ltb-true k (length A) e) ∙ sym (get_or-append A _ 0 k (ltb-true k (length A) e)))
      (λ e.
      let z : k ≡ length A + 0 = omega (arith, ltb-false k (length A) e) in
      ap (λ i. get_or new i 0) z ∙ (get_or-append-add A _ 0 0 ∙ (sym (get_or-append-add A _ 0 0) ∙ ap (λ i. get_or old i 0) (sym z))))

  at_top : (get_or new (length A + 1) 0 ≡ h) × (get_or old (length A) 0 ≡ suc h)
  at_top = (get_or-append-add A _ 1 0, let z : length A ≡ length A + 0 = omega arith in ap (λ i. get_or old i 0) z ∙ get_or-append-add A _ 0 0)

  at_between : (k : ℕ) → length A + 1 < k → k ≤ length A + 1 + length T → get_or new k 0 ≡ get_or old (k - 1) 0
  at_between k lo hi =
      let j = k - length A - 2 in
      let y : k ≡ length A + suc (suc j) = omega arith in
      let z : k - 1 ≡ length A + suc j = omega arith in
      ap (λ i. get_or new i 0) y
      ∙ (get_or-append-add A _ (suc (suc j)) 0
      ∙ (get_or-append T R 0 j (omega arith)
      ∙ (sym (get_or-append T (x ∷ R) 0 j (omega arith)) ∙ (sym (get_or-append-add A _ (suc j) 0) ∙ ap (λ i. get_or old i 0) (sym z)))))

  at_last : (k : ℕ) → length A + 1 + length T < k → get_or new k 0 ≡ get_or old k 0
  at_last k lo =
      let j = k - length A - 2 - length T in
      let y : k ≡ length A + suc (suc (length T + j)) = omega arith in
      let z : k ≡ length A + suc (length T + suc j) = omega arith in
      ap (λ i. get_or new i 0) y
      ∙ (get_or-append-add A _ (suc (suc (length T + j))) 0
      ∙ (get_or-append-add T R j 0
      ∙ (sym (get_or-append-add T (x ∷ R) (suc j) 0) ∙ (sym (get_or-append-add A _ (suc (length T + suc j)) 0) ∙ ap (λ i. get_or old i 0) (sym z)))))

-- the sizes before and after
module _ (t r : Term) (a p : ℕ) (q : Exchanged t r a p) where
  abbrev k : ℕ
  k = size q.inner

  abbrev A : List ℕ
  A = ahead_sizes q.rest (suc (plug_size q.frame k))

  abbrev T : List ℕ
  T = left_sizes q.frame

  abbrev R : List ℕ
  R = sizes q.inner ++ (right_sizes q.frame ++ behind_sizes q.rest)

  before_is : sizes t ≡ old A T R (plug_size q.frame k) (suc k)
  unfolding size sizes
  before_is =
      let u = under (delimitation q.atom) q.inner in
      ap sizes q.was ∙ (sizes_fill q.rest (plug q.frame u) ∙ (rw (size-plug q.frame u, sizes_plug q.frame u, plug_more q.frame k) (simp append_assoc)))

  after_is : sizes r ≡ new A T R (plug_size q.frame k) (suc k)
  unfolding size sizes
  after_is =
      ap sizes q.is
      ∙ (sizes_fill q.rest (under (delimitation q.atom) (plug q.frame q.inner)) ∙ (rw (size-plug q.frame q.inner, sizes_plug q.frame q.inner) (simp append_assoc)))

  places : (length A ≡ p) × (a ≡ suc (p + length T))
  places = (length-ahead_sizes q.rest _ ∙ sym q.above, q.here ∙ (length-left_sizes q.frame q.rest ∙ ap (λ n. suc (n + length T)) (sym q.above)))

  same_size : (size r ≡ size t) × (a < size t)
  same_size =
      let m = length_sizes t in
      let n = length_sizes r in
      let h = plug_size q.frame k in
      let x = ap length before_is ∙ (length-append A (suc h ∷ (T ++ (suc k ∷ R))) ∙ ap (λ i. length A + suc i) (length-append T (suc k ∷ R))) in
      let y = ap length after_is ∙ (length-append A (suc h ∷ (h ∷ (T ++ R))) ∙ ap (λ i. length A + suc (suc i)) (length-append T R)) in
      (omega (arith, m, n, x, y), omega (arith, m, x, places))

  -- lifted, the ends of the one are the ends of the other
  module _ (ends ends' : List ℕ) (places-before : EndPlaces ends t) (h : EndsLifted ends a p ends') where
    ended : (j : ℕ) → j < size t → get_or ends j 0 ≡ j + get_or (old A T R (plug_size q.frame k) (suc k)) j 0
    ended j l = places-before j l ∙ ap (λ x. j + x) (sym (sizes_at t j l) ∙ ap (λ x. get_or x j 0) before_is)

    as_new : (j : ℕ) → j < size r → get_or ends' j 0 ≡ j + get_or (new A T R (plug_size q.frame k) (suc k)) j 0 → get_or ends' j 0 ≡ j + size (sub r j)
    as_new j l e = e ∙ ap (λ x. j + x) (sym (ap (λ x. get_or x j 0) after_is) ∙ sizes_at r j l)

    lifted-new : (j : ℕ) → j < size t → get_or ends' j 0 ≡ j + get_or (new A T R (plug_size q.frame k) (suc k)) j 0
    lifted-new j l =
        let c = plug_size q.frame k in
        bool_case _ (ltb p j)
        (λ e.
        bool_case _ (eqb j (p + 1))
        (λ f.
        let z = eqb-true j (p + 1) f in
        let (m, n) = at_top A T R c (suc k) in
        let y : get_or (new A T R c (suc k)) j 0 ≡ c = ap (λ i. get_or (new A T R c (suc k)) i 0) (z ∙ ap (λ i. i + 1) (sym places.0)) ∙ m in
        let x : get_or (old A T R c (suc k)) p 0 ≡ suc c = ap (λ i. get_or (old A T R c (suc k)) i 0) (sym places.0) ∙ n in
        ap (λ i. get_or ends' i 0) z ∙ (h.top ∙ (ended p (omega (arith, ltb-true p j e)) ∙ omega arith)))
        (λ f.
        bool_case _ (ltb a j)
        (λ g. h.last j (ltb-true a j g) ∙ (ended j l ∙ ap (λ x. j + x) (sym (at_last A T R c (suc k) j (omega (arith, places, ltb-true a j g))))))
        (λ g.
        let lo : p + 1 < j = omega (arith, ltb-true p j e, eqb-false j (p + 1) f) in
        let hi : j ≤ a = ltb-false a j g in
        let y = at_between A T R c (suc k) j (omega (arith, places)) (omega (arith, places)) in
        h.between j lo hi ∙ (ap (λ x. x + 1) (ended (j - 1) (omega arith)) ∙ (omega (arith, y))))))
        (λ e. h.first j (ltb-false p j e) ∙ (ended j l ∙ ap (λ x. j + x) (sym (at_first A T R c (suc k) j (omega (arith, places, ltb-false p j e))))))

  module _ (s ends : List ℕ) (z : Table s ends t) where
    pub lifts_ends : LiftsEnds ends a p
    lifts_ends = record {
      before = omega (arith, places);
      inside = omega (arith, same_size, z.within.small);
      room = omega (arith, same_size, table_size s ends t z, z.end.room);
      small = λ i l. omega (arith, table_ended s ends t z i (omega (arith, same_size)), spot_fits t i (omega (arith, same_size)), z.within.small);
    }

    pub floated_ends : (next ends' : List ℕ) → Holds next r → EndsLifted ends a p ends' → length ends' ≡ length ends → EndsFrom next ends' 0
    floated_ends next ends' o h l =
        let (n, m) = same_size in
        ends_by_places next ends' r o (omega (arith, n, z.within.small)) (omega (arith, n, l, table_size s ends t z, z.end.room))
        (λ j e. as_new ends ends' (table_ended s ends t z) h j e (lifted-new ends ends' (table_ended s ends t z) h j (omega (arith, n))))
        (λ j lo hi. h.last j (omega (arith, n, m)) ∙ (behind_last s ends t z j (omega (arith, n)) (omega (arith, n)) ∙ ap (λ x. x + 1) (sym n)))
