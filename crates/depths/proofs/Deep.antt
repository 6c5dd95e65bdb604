-- The depth of the term at a place, and whether that is more than there is room for, by the terms below it.
use mathlib.Core.Path.{◌≡◌, refl, sym, subst, ◌∙◌}
use mathlib.Core.Logic.{◌≢◌}
use mathlib.Core.Bool.{Bool, true, false}
use mathlib.Core.List.{List}
use Prim.Native.Nat.{ℕ, ◌+◌, ◌*◌, ◌-◌, ◌≤◌, ◌<◌, max}
use native.Mathlib.Omega.{arith}
use lib.Dec.{ltb}
use lib.ListN.{get_or}
use borrow.Author.Tests.{ltb-true, ltb-false, lt-ltb, le-ltb}
use Rattle.cows.specs.Terms.{Join, Term, leaf, under, both, size, depth}
use Rattle.cows.specs.Kinds.{children_of}
use Rattle.cows.proofs.Basics.{bool_case}
use Rattle.cows.proofs.Format.{length-encode}
use Rattle.records.specs.Ends.{EndsFrom}
use Rattle.records.specs.Rewrites.{StandsIn}
use Rattle.records.proofs.StandsIn.{long, stands_children, stands_fits, stands_under, stands_left, stands_right}
use Rattle.records.proofs.Shapes.{end_stands}
use Rattle.depths.specs.Depths.{Standing}

pub depth-size : (t : Term) → depth t ≤ size t
unfolding depth size
depth-size (leaf x) = omega arith
depth-size (under u t) = omega (arith, depth-size t)
depth-size (both j s t) = omega (arith, depth-size s, depth-size t)

pub standing : {s ends : List ℕ} {i : ℕ} (t : Term) → StandsIn s (16 * i) t → EndsFrom s ends 0 → Standing s ends i
standing t h e = record { term = t; stands = h; end = e; inside = omega (arith, stands_fits t h, long t) }

-- what is read is no deeper than the table is long
pub depth_few : {s ends : List ℕ} {i : ℕ} (q : Standing s ends i) (d : ℕ) → ((t : Term) → StandsIn s (16 * i) t → d ≡ depth t) → d ≤ 2048
depth_few q d f = omega (arith, f q.term q.stands, depth-size q.term, length-encode q.term, stands_fits q.term q.stands, q.end.few)

-- where the term at place i ends
pub end_there : {s ends : List ℕ} (i : ℕ) (t : Term) → StandsIn s (16 * i) t → EndsFrom s ends 0 → get_or ends i 0 ≡ i + size t
end_there {s} {ends} i t h e = e.end i (omega arith) (omega (arith, stands_fits t h, long t)) ∙ end_stands s t i h

pub end_after : {s ends : List ℕ} {i : ℕ} (q : Standing s ends i) → i ≤ get_or ends i 0
end_after q = omega (arith, end_there _ q.term q.stands q.end)

-- it is no deeper than it has records
pub short_shallow : {s ends : List ℕ} {i : ℕ} (q : Standing s ends i) (room : ℕ) → get_or ends i 0 - i ≤ room → (t : Term) → StandsIn s (16 * i) t → false ≡ ltb room (depth t)
short_shallow q room l t h = sym (le-ltb room (depth t) (omega (arith, end_there _ t h q.end, depth-size t)))

-- something is deep
pub no_room : (room : ℕ) → room ≡ 0 → (t : Term) → true ≡ ltb room (depth t)
unfolding depth
no_room room e (leaf x) = sym (lt-ltb room (depth (leaf x)) (omega arith))
no_room room e (under u t) = sym (lt-ltb room (depth (under u t)) (omega arith))
no_room room e (both j l r) = sym (lt-ltb room (depth (both j l r)) (omega arith))

-- below a record there is less room by one
less_room : (room d e : ℕ) → 0 < room → (room - 1 < d → room < e) → (d ≤ room - 1 → e ≤ room) → ltb (room - 1) d ≡ ltb room e
less_room room d e l more less =
    bool_case (ltb (room - 1) d ≡ ltb room e) (ltb (room - 1) d)
    (λ z. z ∙ sym (lt-ltb room e (more (ltb-true (room - 1) d z)))) (λ z. z ∙ sym (le-ltb room e (less (ltb-false (room - 1) d z))))

-- The record at place i has c children.
module _ (s ends : List ℕ) (i c : ℕ) (q : Standing s ends i) (k : c ≡ children_of (get_or s (16 * i) 0)) where
  pub first : (t : Term) → StandsIn s (16 * i + 16) t → StandsIn s (16 * (i + 1)) t
  first t h = subst (λ k. StandsIn s k t) (omega arith) h

  pub depth-none : c ≡ 0 → (t : Term) → StandsIn s (16 * i) t → 1 ≡ depth t
  unfolding depth
  depth-none e (leaf x) h = refl
  depth-none e (under u t) h = absurd (omega (arith, stands_children (under u t) h))
  depth-none e (both o l r) h = absurd (omega (arith, stands_children (both o l r) h))

  pub first_standing : c ≢ 0 → Standing s ends (i + 1)
  first_standing e = go q.term q.stands
    where
      go : (t : Term) → StandsIn s (16 * i) t → Standing s ends (i + 1)
      go (leaf x) h = absurd (e (k ∙ stands_children (leaf x) h))
      go (under u t) h = standing t (first t (stands_under u t h)) q.end
      go (both o l r) h = standing l (first l (stands_left o l r h)) q.end

  -- it has two, and the second stands at place p
  module _ (no : c ≢ 0) (not : c ≢ 1) (p : ℕ) (at : p ≡ get_or ends (i + 1) 0) where
    pub second : (o : Join) (l r : Term) → StandsIn s (16 * i) (both o l r) → (p ≡ i + 1 + size l) × StandsIn s (16 * p) r
    second o l r h =
        let z : p ≡ i + 1 + size l = at ∙ end_there (i + 1) l (first l (stands_left o l r h)) q.end in
        (z, stands_right o l r (16 * p) (omega (arith, length-encode l)) h)

    pub second_standing : Standing s ends p × (i < p)
    second_standing = go q.term q.stands
      where
        go : (t : Term) → StandsIn s (16 * i) t → Standing s ends p × (i < p)
        go (leaf x) h = absurd (no (k ∙ stands_children (leaf x) h))
        go (under u t) h = absurd (not (k ∙ stands_children (under u t) h))
        go (both o l r) h = let (z, y) = second o l r h in (standing r y q.end, omega arith)

  module _ (d : ℕ) (f : (t : Term) → StandsIn s (16 * (i + 1)) t → d ≡ depth t) where
    pub depth_one : c ≡ 1 → (t : Term) → StandsIn s (16 * i) t → 1 + d ≡ depth t
    unfolding depth
    depth_one e (leaf x) h = absurd (omega (arith, stands_children (leaf x) h))
    depth_one e (under u t) h = omega (arith, f t (first t (stands_under u t h)))
    depth_one e (both o l r) h = absurd (omega (arith, stands_children (both o l r) h))

    pub depth_two : c ≢ 0 → c ≢ 1 → (p : ℕ) → p ≡ get_or ends (i + 1) 0 → (g : ℕ) → ((t : Term) → StandsIn s (16 * p) t → g ≡ depth t) → (t : Term) → StandsIn s (16 * i) t
        → 1 + max d g ≡ depth t
    unfolding depth
    depth_two has more p at g e (leaf x) h = absurd (has (k ∙ stands_children (leaf x) h))
    depth_two has more p at g e (under u t) h = absurd (more (k ∙ stands_children (under u t) h))
    depth_two has more p at g e (both o l r) h = let (z, y) = second has more p at o l r h in rw (f l (first l (stands_left o l r h)), e r y) (omega arith)

  -- more records than one
  pub has_child : 1 < get_or ends i 0 - i → c ≢ 0
  unfolding size
  has_child l e = go q.term q.stands
    where
      go : (t : Term) → StandsIn s (16 * i) t → ⊥
      go (leaf x) h = omega (arith, end_there i (leaf x) h q.end)
      go (under u t) h = omega (arith, e, k ∙ stands_children (under u t) h)
      go (both o l r) h = omega (arith, e, k ∙ stands_children (both o l r) h)

  -- more than there is room for: in the first child, in an only child, in the second
  module _ (room : ℕ) (some : 0 < room) where
    pub first_deeper : c ≢ 0 → ((t : Term) → StandsIn s (16 * (i + 1)) t → true ≡ ltb (room - 1) (depth t)) → (t : Term) → StandsIn s (16 * i) t → true ≡ ltb room (depth t)
    unfolding depth
    first_deeper has f (leaf x) h = absurd (has (k ∙ stands_children (leaf x) h))
    first_deeper has f (under u t) h = f t (first t (stands_under u t h)) ∙ less_room room (depth t) _ some (λ z. omega arith) (λ z. omega arith)
    first_deeper has f (both o l r) h = sym (lt-ltb room _ (omega (arith, ltb-true (room - 1) (depth l) (sym (f l (first l (stands_left o l r h)))))))

    pub only_deeper : c ≡ 1 → (b : Bool) → ((t : Term) → StandsIn s (16 * (i + 1)) t → b ≡ ltb (room - 1) (depth t)) → (t : Term) → StandsIn s (16 * i) t → b ≡ ltb room (depth t)
    unfolding depth
    only_deeper one b f (leaf x) h = absurd (omega (arith, stands_children (leaf x) h))
    only_deeper one b f (under u t) h = f t (first t (stands_under u t h)) ∙ less_room room (depth t) _ some (λ z. omega arith) (λ z. omega arith)
    only_deeper one b f (both o l r) h = absurd (omega (arith, stands_children (both o l r) h))

    pub second_deeper : c ≢ 0 → c ≢ 1 → (p : ℕ) → p ≡ get_or ends (i + 1) 0 → ((t : Term) → StandsIn s (16 * (i + 1)) t → false ≡ ltb (room - 1) (depth t)) → (b : Bool)
        → ((t : Term) → StandsIn s (16 * p) t → b ≡ ltb (room - 1) (depth t)) → (t : Term) → StandsIn s (16 * i) t → b ≡ ltb room (depth t)
    unfolding depth
    second_deeper has more p at f b g (leaf x) h = absurd (has (k ∙ stands_children (leaf x) h))
    second_deeper has more p at f b g (under u t) h = absurd (more (k ∙ stands_children (under u t) h))
    second_deeper has more p at f b g (both o l r) h =
        let low = ltb-false (room - 1) (depth l) (sym (f l (first l (stands_left o l r h)))) in
        g r (second has more p at o l r h).1 ∙ less_room room (depth r) _ some (λ z. omega arith) (λ z. omega (arith, low))
