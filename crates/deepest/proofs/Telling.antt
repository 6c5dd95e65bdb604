-- From a record to its children: what is told of the ways to the places whose record above stands before place i (specs/Deepest), one place further.
use mathlib.Core.Path.{◌≡◌, refl, sym, ap, subst, ◌∙◌}
use mathlib.Core.Logic.{◌≢◌}
use mathlib.Core.List.{List, [], ◌∷◌}
use Prim.Native.Nat.{ℕ, ◌+◌, ◌*◌, ◌/◌, ◌≤◌, ◌<◌}
use native.Mathlib.Omega.{arith}
use native.Mathlib.Numerals.{add-one}
use lib.ListN.{length, get_or, set, length-set, length-append}
use lib.Seq.{get_or-set_same, get_or-set_other}
use Rattle.cows.specs.Limits.{max_records, max_depth}
use Rattle.cows.specs.Terms.{Basic, Prefix, Join, Term, leaf, under, both, size, depth, below}
use Rattle.cows.specs.Kinds.{kind_of, children_of}
use Rattle.cows.specs.Places.{Frame, inside, left_of, right_of, plug, Way, way_to, sub}
use Rattle.cows.specs.Records.{At, opens, ahead}
use Rattle.cows.proofs.Basics.{lt_case}
use Rattle.cows.proofs.Places.{size_pos, spot_under, spot_left, spot_right}
use Rattle.cows.proofs.Rows.{children_of_lem, no_child, one_child}
use Rattle.cows.proofs.Format.{length-nodes}
use Rattle.cows.proofs.Ways.{length-ahead, above_at}
use Rattle.records.proofs.StandsIn.{holds_kind}
use Rattle.ways.specs.Known.{Table, Known}
use Rattle.ways.proofs.KnownTables.{way_short}
use Rattle.ways.proofs.KnownTables.{table_size, table_ended, table_inside}
use Rattle.deepest.specs.Deepest.{Heights, side_of, ParentBelow, TellsPlaces, Told, Telling}
use Rattle.deepest.proofs.Heights.{known_standing, height_at, first_place, both_places}

-- The record above a place stands before it.
below_here : (t : Term) (n : ℕ) → n < size t → ParentBelow n (way_to t n)
below_here t n l = go (way_to t n) refl
  where
    go : (w : Way) → way_to t n ≡ w → ParentBelow n w
    go [] e = tt
    go (f ∷ w) e = (above_at t n f w (sub t n) (l, refl, e)).0

-- At the start only the root is told.
tells_start : (f : Way → ℕ) (t : Term) (l : List ℕ) → get_or l 0 0 ≡ f [] → TellsPlaces f t l 0
unfolding ahead
tells_start f t l e n k b = go (way_to t n) refl b
  where
    go : (w : Way) → way_to t n ≡ w → ParentBelow 0 w → get_or l n 0 ≡ f (way_to t n)
    go [] q b = let z : n ≡ 0 = sym (length-ahead t n k) ∙ ap (λ w. length (ahead w)) q in rw (q, z) e
    go (g ∷ w) q b = absurd (omega arith)

module _ (f : Way → ℕ) (t : Term) (i : ℕ) (l : i < size t) where
  -- a child of the record at place i is at no place that is told already
  fresh : (g : Frame) (m n : ℕ) → way_to t m ≡ g ∷ way_to t i → ParentBelow i (way_to t n) → n ≢ m
  fresh g m n e b z = omega (arith, length-ahead t i l, subst (ParentBelow i) (ap (way_to t) z ∙ e) b)

  -- the list changes at the children alone, and there it is right
  tells_turn : (a b : List ℕ) → TellsPlaces f t a i
      → ((n : ℕ) → ParentBelow i (way_to t n) → get_or b n 0 ≡ get_or a n 0)
      → ((g : Frame) (n : ℕ) → n < size t → way_to t n ≡ g ∷ way_to t i → sub t i ≡ plug g (sub t n) → get_or b n 0 ≡ f (g ∷ way_to t i))
      → TellsPlaces f t b (i + 1)
  tells_turn a b h same new n k p = go (way_to t n) refl p
    where
      go : (w : Way) → way_to t n ≡ w → ParentBelow (i + 1) w → get_or b n 0 ≡ f (way_to t n)
      go [] e p = let q : ParentBelow i (way_to t n) = rw e tt in same n q ∙ h n k q
      go (g ∷ w) e p =
          lt_case _ (length (ahead w)) i (λ x. let q : ParentBelow i (way_to t n) = rw e x in same n q ∙ h n k q)
          (λ x.
          let z : length (ahead w) ≡ i = omega arith in
          let (y, d, v) = subst (λ m. At t m w (plug g (sub t n))) z (above_at t n g w (sub t n) (k, refl, e)).2 in
          let q : way_to t n ≡ g ∷ way_to t i = e ∙ ap (λ u. g ∷ u) (sym v) in
          new g n k q d ∙ ap f (sym q))

  -- where it is
  child_place : (g : Frame) (n : ℕ) → n < size t → way_to t n ≡ g ∷ way_to t i → n ≡ i + length (opens g)
  unfolding ahead
  child_place g n k e = sym (length-ahead t n k) ∙ (ap (λ w. length (ahead w)) e ∙ omega (arith, length-append (ahead (way_to t i)) (opens g), length-ahead t i l))

  -- by the children of the record at place i
  tells_none : (a : List ℕ) (x : Basic) → sub t i ≡ leaf x → TellsPlaces f t a i → TellsPlaces f t a (i + 1)
  unfolding plug
  tells_none a x e h = tells_turn a a h (λ n b. refl) new
    where
      new : (g : Frame) (n : ℕ) → n < size t → way_to t n ≡ g ∷ way_to t i → sub t i ≡ plug g (sub t n) → get_or a n 0 ≡ f (g ∷ way_to t i)
      new (inside u) n k w d = absurd (let z : ◌≡◌ {A = ℕ} 0 1 = cc in omega arith)
      new (left_of j r) n k w d = absurd (let z : ◌≡◌ {A = ℕ} 0 1 = cc in omega arith)
      new (right_of j s) n k w d = absurd (let z : ◌≡◌ {A = ℕ} 0 1 = cc in omega arith)

  tells_one : (a : List ℕ) (x : ℕ) (u : Prefix) (c : Term) → sub t i ≡ under u c → i + 1 < length a → x ≡ f (inside u ∷ way_to t i)
      → TellsPlaces f t a i → TellsPlaces f t (set a (i + 1) x) (i + 1)
  unfolding plug opens
  tells_one a x u c e r v h =
      tells_turn a (set a (i + 1) x) h (λ n b. get_or-set_other a (i + 1) n x 0 (fresh (inside u) (i + 1) n (rw add-one (spot_under t i u c l e).2) b)) new
    where
      new : (g : Frame) (n : ℕ) → n < size t → way_to t n ≡ g ∷ way_to t i → sub t i ≡ plug g (sub t n) → get_or (set a (i + 1) x) n 0 ≡ f (g ∷ way_to t i)
      new (inside y) n k w d =
          let z : n ≡ i + 1 = child_place (inside y) n k w in
          let q : u ≡ y = cc in
          rw (z, get_or-set_same a (i + 1) x 0 r, v, q)
      new (left_of j s) n k w d = absurd (let z : ◌≡◌ {A = ℕ} 0 1 = cc in omega arith)
      new (right_of j s) n k w d = absurd (let z : ◌≡◌ {A = ℕ} 0 1 = cc in omega arith)

  tells_two : (a : List ℕ) (x y p : ℕ) (j : Join) (m r : Term) → sub t i ≡ both j m r → p ≡ i + 1 + size m → p < length a
      → x ≡ f (left_of j r ∷ way_to t i) → y ≡ f (right_of j m ∷ way_to t i) → TellsPlaces f t a i → TellsPlaces f t (set (set a (i + 1) x) p y) (i + 1)
  unfolding plug opens
  tells_two a x y p j m r e q b v w h =
      tells_turn a (set (set a (i + 1) x) p y) h
      (λ n z.
      get_or-set_other (set a (i + 1) x) p n y 0 (fresh (right_of j m) p n (rw (q, add-one) (spot_right t i j m r l e).2) z)
      ∙ get_or-set_other a (i + 1) n x 0 (fresh (left_of j r) (i + 1) n (rw add-one (spot_left t i j m r l e).2) z))
      new
    where
      new : (g : Frame) (n : ℕ) → n < size t → way_to t n ≡ g ∷ way_to t i → sub t i ≡ plug g (sub t n) → get_or (set (set a (i + 1) x) p y) n 0 ≡ f (g ∷ way_to t i)
      new (inside u) n k c d = absurd (let z : ◌≡◌ {A = ℕ} 0 1 = cc in omega arith)
      new (left_of o s) n k c d =
          let z : n ≡ i + 1 = child_place (left_of o s) n k c in
          let (jo, rs) : (j ≡ o) × (r ≡ s) = (cc, cc) in
          get_or-set_other (set a (i + 1) x) p n y 0 (λ e. omega (arith, size_pos m)) ∙ rw (z, get_or-set_same a (i + 1) x 0 (omega (arith, size_pos m)), v, jo, rs)
      new (right_of o s) n k c d =
          let (jo, ms) : (j ≡ o) × (m ≡ s) = (cc, cc) in
          let z : n ≡ p = omega (arith, child_place (right_of o s) n k c, length-nodes s, ap size ms) in
          rw (z, get_or-set_same (set a (i + 1) x) p y 0 (rw (length-set a (i + 1) x) b), w, jo, ms)

-- all that is known at place i
pub telling : {s ends heights levels sides : List ℕ} {i : ℕ} → Known s ends → Heights s heights 0 → length s / 16 ≤ length heights → Told s ends levels sides i → i < length s / 16
    → length levels ≡ max_records → length sides ≡ max_records → Telling s ends heights levels sides i
telling k h l t b e f = record { known = k; deep = h; told = t; inside = b; height = l; level = omega (arith, k.few); side = omega (arith, k.few) }

-- What is told of place i itself.
module _ {s ends heights levels sides : List ℕ} {i : ℕ} (q : Telling s ends heights levels sides i) where
  pub within : (t : Term) → Table s ends t → i < size t
  within t h = table_inside s ends t h i q.inside

  pub level_here : (t : Term) → Table s ends t → get_or levels i 0 ≡ length (way_to t i)
  level_here t h = (q.told t h).0 i (within t h) (below_here t i (within t h))

  pub side_here : (t : Term) → Table s ends t → get_or sides i 0 ≡ side_of (way_to t i)
  side_here t h = (q.told t h).1 i (within t h) (below_here t i (within t h))

  pub height_here : (t : Term) → Table s ends t → get_or heights i 0 ≡ depth (sub t i)
  height_here t h = height_at s heights t i q.deep h.holds (within t h)

  pub level_few : get_or levels i 0 < max_depth
  level_few = omega (arith, level_here q.known.term q.known.table, way_short q.known.term i q.known.table.within.shallow)

  -- The record there has c children.
  module _ {c : ℕ} (k : c ≡ children_of (get_or s (16 * i) 0)) where
    arity_here : (t : Term) → Table s ends t → c ≡ children_of (kind_of (sub t i))
    arity_here t h = k ∙ ap children_of (holds_kind s t i h.holds (within t h))

    pub first_child : c ≢ 0 → (i + 1 < length s / 16) × (get_or heights (i + 1) 0 ≤ max_records)
    first_child = first_place s ends heights i c (known_standing s ends i q.known q.inside) k (λ m l. q.deep m (omega arith))

    pub both-children : {p : ℕ} → c ≢ 0 → c ≢ 1 → p ≡ get_or ends (i + 1) 0
        → (i < p) × (p < length s / 16) × (get_or heights (i + 1) 0 ≤ max_records) × (get_or heights p 0 ≤ max_records)
    both-children {p} = both_places s ends heights i c (known_standing s ends i q.known q.inside) k (λ m l. q.deep m (omega arith)) p

    pub told_none : c ≡ 0 → Told s ends levels sides (i + 1)
    told_none e t h =
        let (x, z) = no_child (sub t i) (sym (arity_here t h) ∙ e) in
        (tells_none length t i (within t h) levels x z (q.told t h).0, tells_none side_of t i (within t h) sides x z (q.told t h).1)

    pub told_one : (level : ℕ) → level ≡ get_or levels i 0 + 1 → c ≡ 1 → Told s ends (set levels (i + 1) level) (set sides (i + 1) 0) (i + 1)
    unfolding side_of
    told_one level n e t h =
        let (u, z) = one_child (sub t i) (sym (arity_here t h) ∙ e) in
        let b = (first_child (λ x. omega arith)).0 in (
          tells_one length t i (within t h) levels level u (below (sub t i)) z (omega (arith, q.level)) (omega (arith, level_here t h)) (q.told t h).0,
          tells_one side_of t i (within t h) sides 0 u (below (sub t i)) z (omega (arith, q.side)) refl (q.told t h).1,
        )

    pub told_two : (level p : ℕ) → level ≡ get_or levels i 0 + 1 → c ≢ 0 → c ≢ 1 → p ≡ get_or ends (i + 1) 0
        → Told s ends (set (set levels (i + 1) level) p level) (set (set sides (i + 1) (level + get_or heights p 0)) p (level + get_or heights (i + 1) 0)) (i + 1)
    unfolding side_of
    told_two level p n n₀ n₁ e t h = go (sub t i) refl (arity_here t h)
      where
        go : (z : Term) → sub t i ≡ z → c ≡ children_of (kind_of z)
            → TellsPlaces length t (set (set levels (i + 1) level) p level) (i + 1)
            × TellsPlaces side_of t (set (set sides (i + 1) (level + get_or heights p 0)) p (level + get_or heights (i + 1) 0)) (i + 1)
        go (leaf x) z a = absurd (n₀ (a ∙ children_of_lem (leaf x)))
        go (under u v) z a = absurd (n₁ (a ∙ children_of_lem (under u v)))
        go (both j m r) z a =
            let (bl, sl, wl) : At t (i + 1) (left_of j r ∷ way_to t i) m = rw add-one (spot_left t i j m r (within t h) z) in
            let v : p ≡ i + 1 + size m = e ∙ (table_ended s ends t h (i + 1) bl ∙ rw sl refl) in
            let (br, sr, wr) : At t p (right_of j m ∷ way_to t i) r = rw (v, add-one) (spot_right t i j m r (within t h) z) in
            let b : p < length s / 16 = omega (arith, table_size s ends t h) in
            let y = level_here t h in
            let hm : get_or heights (i + 1) 0 ≡ depth m = height_at s heights t (i + 1) q.deep h.holds bl ∙ ap depth sl in
            let hr : get_or heights p 0 ≡ depth r = height_at s heights t p q.deep h.holds br ∙ ap depth sr in (
              tells_two length t i (within t h) levels level level p j m r z v (omega (arith, q.level)) (omega arith) (omega arith) (q.told t h).0,
              tells_two side_of t i (within t h) sides _ _ p j m r z v (omega (arith, q.side)) (omega arith) (omega arith) (q.told t h).1,
            )

-- At the start nothing but the root is told.
pub told-start : (s ends levels sides : List ℕ) → get_or levels 0 0 ≡ 0 → get_or sides 0 0 ≡ 0 → Told s ends levels sides 0
unfolding side_of
told-start s ends levels sides e f t h = (tells_start length t levels e, tells_start side_of t sides f)
