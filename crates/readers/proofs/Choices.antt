-- The places of a table that holds a term, by its ends: the children of a choice and of a prefix, terms inside a term, and places that no choice reaches over.
use mathlib.Core.Path.{◌≡◌, refl, sym, ap, ◌∙◌}
use mathlib.Core.Logic.{◌≢◌}
use mathlib.Core.Bool.{true, false, not}
use mathlib.Core.List.{List, [], ◌∷◌}
use Prim.Native.Nat.{ℕ, suc, ◌+◌, ◌-◌, ◌*◌, ◌/◌, ◌≤◌, ◌<◌}
use native.Mathlib.Omega.{arith}
use native.Mathlib.Numerals.{add-one}
use lib.ListN.{length, get_or}
use Rattle.cows.specs.Terms.{choice, parallel, Term, size, below}
use Rattle.cows.specs.Kinds.{root, kind_of, guard, children_of}
use Rattle.cows.specs.Places.{Frame, inside, left_of, right_of, plug, Way, Spot, descend, spot_at, way_to, sub, frame_chooses}
use Rattle.cows.specs.Tables.{in_choice, no_guard}
use Rattle.cows.proofs.Basics.{never, lt_case, not_so}
use Rattle.cows.proofs.Rows.{no_child, one_child}
use Rattle.cows.proofs.Fields.{kind-choice}
use Rattle.cows.proofs.Places.{size_pos, descend_here, spot_part, spot_fits, spot_under, spot_left, spot_right}
use Rattle.cows.proofs.Ways.{Up, up}
use Rattle.records.specs.Ends.{end_at, EndsFrom}
use Rattle.records.specs.Holds.{Holds}
use Rattle.records.proofs.StandsIn.{holds_size, holds_kind}
use Rattle.records.proofs.Shapes.{end_term}

-- a part inside a part
inner : (t : Term) (at i : ℕ) → at < size t → at ≤ i → i < at + size (sub t at) → i + size (sub t i) ≤ at + size (sub t at)
unfolding sub spot_at
inner t at i l a b =
    let k = i - at in
    let e : spot_at t i ≡ descend (way_to t at) (sub t at) k = ap (spot_at t) (let z : i ≡ at + k = omega arith in z) ∙ unfold way_to in (spot_part t at l).1 k (omega arith) in
    let z : sub t i ≡ sub (sub t at) k = ap (λ (z : Spot). z.here) e ∙ descend_here (way_to t at) [] (sub t at) k in
    omega (arith, ap size z, spot_fits (sub t at) k (omega arith))

-- from place `at` on, no choice before i reaches over i
abbrev pub Free : Term → ℕ → ℕ → Type 0
Free t at i = (m : ℕ) → at ≤ m → m < i → kind_of (sub t m) ≡ 5 → m + size (sub t m) ≤ i

-- a frame that is a choice makes one
choice-kind : (f : Frame) (s : Term) → frame_chooses f ≡ true → kind_of (plug f s) ≡ 5
unfolding frame_chooses plug kind_of root
choice-kind (inside u) s e = never e
choice-kind (left_of choice r) s e = refl
choice-kind (left_of parallel r) s e = never e
choice-kind (right_of choice l) s e = refl
choice-kind (right_of parallel l) s e = never e

-- such a place, inside the term at `at`, is no child of a choice, if that is none
free_place : (t : Term) (at i : ℕ) → at < size t → at ≤ i → i < at + size (sub t at) → Free t at i → in_choice (way_to t at) ≡ false → in_choice (way_to t i) ≡ false
unfolding in_choice
free_place t at i l a b h e = lt_case _ at i (λ k. not_so (go k (way_to t i) (up t i (omega (arith, spot_fits t at l))))) (λ k. let z : i ≡ at = omega arith in rw z e)
  where
    go : at < i → (w : Way) → Up t i w (sub t i) → in_choice w ≡ true → ⊥
    go k [] u c = never c
    go k (f ∷ w) u c =
        let p = u.place in
        let z = ap size u.at.1 in
        lt_case ⊥ p at (λ x. omega (arith, u.clear at x k))
        (λ x. omega (arith, h p x u.before (ap kind_of u.at.1 ∙ choice-kind f (sub t i) c), u.ends, size_pos (sub t i)))

-- a child of a choice is a fault if it is no guard; what is no child of one is none
chosen : (t : Term) (m : ℕ) → in_choice (way_to t m) ≡ true → no_guard m (spot_at t m) ≡ not (guard (sub t m))
unfolding no_guard way_to sub
chosen t m e = rw e

unchosen : (t : Term) (m : ℕ) → in_choice (way_to t m) ≡ false → no_guard m (spot_at t m) ≡ false
unfolding no_guard way_to
unchosen t m e = rw e

-- The children of a choice, and that of a prefix.
pub record Guarding (s ends : List ℕ) (t : Term) (at : ℕ) : Type 0 where
  pub first : at + 1 < length s / 16
  pub second : get_or ends (at + 1) 0 < length s / 16
  pub between : at + 1 < get_or ends (at + 1) 0
  pub before : get_or ends (at + 1) 0 < get_or ends at 0
  pub last : get_or ends (get_or ends (at + 1) 0) 0 ≡ get_or ends at 0
  pub left : no_guard (at + 1) (spot_at t (at + 1)) ≡ not (guard (sub t (at + 1)))
  pub right : no_guard (get_or ends (at + 1) 0) (spot_at t (get_or ends (at + 1) 0)) ≡ not (guard (sub t (get_or ends (at + 1) 0)))

pub record Prefixing (s ends : List ℕ) (t : Term) (at : ℕ) : Type 0 where
  pub next : at + 1 < length s / 16
  pub last : get_or ends (at + 1) 0 ≡ get_or ends at 0
  pub plain : in_choice (way_to t (at + 1)) ≡ false

-- A place inside the term at another: its term ends there too.
pub record Inside (s ends : List ℕ) (at i : ℕ) : Type 0 where
  pub placed : i < length s / 16
  pub onward : i < get_or ends i 0
  pub ended : get_or ends i 0 ≤ get_or ends at 0
  pub whole : get_or ends at 0 ≤ length s / 16

module _ {s ends : List ℕ} {t : Term} (h : Holds s t) (e : EndsFrom s ends 0) where
  -- where the part at a place ends
  pub end_is : (m : ℕ) → m < length s / 16 → get_or ends m 0 ≡ m + size (sub t m)
  end_is m l = e.end m (omega arith) (omega arith) ∙ (ap (λ b. end_at b m) h.is ∙ end_term t m (omega (arith, holds_size s t h)))

  pub end_after : (m : ℕ) → m < length s / 16 → (m < get_or ends m 0) × (get_or ends m 0 ≤ length s / 16)
  end_after m l =
      let n = holds_size s t h in
      let v = end_is m l in
      omega (arith, size_pos (sub t m), spot_fits t m (omega arith))

  -- the end of a record without children
  pub leaf_at : (at : ℕ) → at < length s / 16 → children_of (get_or s (16 * at) 0) ≡ 0 → get_or ends at 0 ≡ at + 1
  unfolding size
  leaf_at at l k =
      let (x, q) = no_child (sub t at) (ap children_of (sym (holds_kind s t at h (omega (arith, holds_size s t h)))) ∙ k) in
      end_is at l ∙ omega (arith, ap size q)

  pub choice_at : (at : ℕ) → at < length s / 16 → get_or s (16 * at) 0 ≡ 5 → Guarding s ends t at
  unfolding in_choice frame_chooses size
  choice_at at l k =
      let n = holds_size s t h in
      let (a, b, q) = kind-choice (sub t at) (sym (holds_kind s t at h (omega arith)) ∙ k) in
      let (x, xs, xw) = rw (← add-one at) at (spot_left t at choice a b (omega arith) q) in
      let (y, ys, yw) = spot_right t at choice a b (omega arith) q in
      let z : get_or ends (at + 1) 0 ≡ suc at + size a = end_is (at + 1) (omega arith) ∙ omega (arith, ap size xs) in
      let v = end_is at l in
      let u = ap size q in
      record {
        first = omega arith;
        second = omega arith;
        between = omega (arith, size_pos a);
        before = omega (arith, size_pos b);
        last = rw z (end_is (suc at + size a) (omega arith) ∙ omega (arith, ap size ys));
        left = chosen t (at + 1) (rw xw);
        right = rw z (chosen t (suc at + size a) (rw yw));
      }

  pub prefix_at : (at : ℕ) → at < length s / 16 → children_of (get_or s (16 * at) 0) ≡ 1 → Prefixing s ends t at
  unfolding in_choice frame_chooses size
  prefix_at at l k =
      let n = holds_size s t h in
      let (u, q) = one_child (sub t at) (ap children_of (sym (holds_kind s t at h (omega arith))) ∙ k) in
      let (x, xs, xw) = rw (← add-one at) at (spot_under t at u (below (sub t at)) (omega arith) q) in
      record { next = omega arith; last = end_is (at + 1) (omega arith) ∙ omega (arith, ap size xs, ap size q, end_is at l); plain = rw xw }

  pub inside_at : (at i : ℕ) → at < length s / 16 → at ≤ i → i < get_or ends at 0 → Inside s ends at i
  inside_at at i l a b =
      let n = holds_size s t h in
      let v = end_is at l in
      let f = end_after at l in
      let w = end_is i (omega arith) in
      record { placed = omega arith; onward = (end_after i (omega arith)).0; ended = omega (arith, inner t at i (omega arith) a (omega arith)); whole = f.1 }

  -- the place behind a record that is no choice, and that behind a choice: no choice reaches over them; a place that none reaches over is no fault
  module _ (at i : ℕ) (l : at < length s / 16) (a : at ≤ i) (b : i < get_or ends at 0) (f : Free t at i) where
    pub free_next : get_or s (16 * i) 0 ≢ 5 → Free t at (i + 1)
    free_next k m x y q =
        lt_case _ m i (λ z. omega (arith, f m x z q))
        (λ z. let e : i ≡ m = omega arith in absurd (k (holds_kind s t i h (omega (arith, holds_size s t h, (inside_at at i l a b).placed)) ∙ rw e q)))

    pub free_over : Free t at (get_or ends i 0)
    free_over m x y q =
        let p = (inside_at at i l a b).placed in
        let v = end_is i p in
        lt_case _ m i (λ z. omega (arith, f m x z q)) (λ z. omega (arith, inner t i m (omega (arith, holds_size s t h)) z (omega arith)))

    pub free_fault : in_choice (way_to t at) ≡ false → no_guard i (spot_at t i) ≡ false
    free_fault e =
        let n = holds_size s t h in
        let v = end_is at l in
        unchosen t i (free_place t at i (omega arith) a (omega arith) f e)
