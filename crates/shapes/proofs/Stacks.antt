-- The stack of a backward pass: the terms that wait for a parent, each with its end and its height.
use mathlib.Core.Path.{◌≡◌, refl, sym, ap, subst, ◌∙◌}
use mathlib.Core.List.{List}
use Prim.Native.Nat.{ℕ, zero, suc, ◌+◌, ◌*◌, ◌-◌, ◌/◌, ◌%◌, ◌≤◌, ◌<◌}
use native.Mathlib.Omega.{arith}
use lib.ListN.{length, get_or, set}
use lib.Seq.{get_or-set_same, get_or-set_other}
use Rattle.cows.specs.Terms.{Term, leaf, under, both, depth}
use Rattle.cows.specs.Kinds.{children_of}
use Rattle.cows.proofs.Format.{length-encode}
use Rattle.records.specs.Ends.{end_at, pick_end}
use Rattle.records.specs.Rewrites.{StandsIn}
use Rattle.records.proofs.StandsIn.{stands_children, stands_under, stands_left, stands_right}
use Rattle.records.proofs.Shapes.{end_pick, end_stands}
use Rattle.shapes.specs.Shaped.{pick_height}

-- The term at place i ends at e and has height h.
pub record Entry (s : List ℕ) (i e h : ℕ) : Type 0 where
  pub end : e ≡ end_at s i
  pub some : 0 < h
  pub small : h + i ≤ e
  pub inside : e ≤ length s / 16
  pub height : (t : Term) → StandsIn s (16 * i) t → depth t ≡ h

-- k terms stand one behind the other from place i to the last: the first ends at e and has height h, and the stack has the others.
unfoldable pub Stacked : List ℕ → List ℕ → ℕ → ℕ → ℕ → ℕ → Type 0
Stacked s stack zero e h i = i ≡ length s / 16
Stacked s stack (suc k) e h i = Entry s i e h × Stacked s stack k (get_or stack (suc k) 0 % 65536) (get_or stack (suc k) 0 / 65536) e

-- a record of c children, the first of which ends at a with height h, and the second at b with height g
module _ (s : List ℕ) (j c a h b g : ℕ) (k : c ≡ children_of (get_or s (16 * j) 0)) (first : 0 < c → Entry s (suc j) a h) (second : 1 < c → Entry s a b g) where
  next : (t : Term) → StandsIn s (16 * j + 16) t → StandsIn s (16 * suc j) t
  next t x = subst (λ i. StandsIn s i t) (omega arith) x

  height_at : (t : Term) → StandsIn s (16 * j) t → depth t ≡ pick_height c h g
  unfolding depth pick_height
  height_at (leaf x) y = let z : c ≡ 0 = k ∙ stands_children (leaf x) y in rw z refl
  height_at (under u t) y =
      let z : c ≡ 1 = k ∙ stands_children (under u t) y in
      rw z (ap suc ((first (omega arith)).height t (next t (stands_under u t y))))
  height_at (both o l r) y =
      let z : c ≡ 2 = k ∙ stands_children (both o l r) y in
      let v = next l (stands_left o l r y) in
      let p = first (omega arith) in
      let w = stands_right o l r (16 * a) (omega (arith, length-encode l, p.end, end_stands s l (suc j) v)) y in
      rw (z, p.height l v, (second (omega arith)).height r w) refl

  pub entry_more : j < length s / 16 → c ≤ 2 → Entry s j (pick_end c (suc j) a b) (pick_height c h g)
  unfolding pick_end pick_height
  entry_more l few =
      record {
        end = ends c few (sym (end_pick s j c l k few)) first second;
        some = (highs c few first second).0;
        small = (highs c few first second).1;
        inside = (highs c few first second).2;
        height = height_at;
      }
    where
      ends : (c : ℕ) → c ≤ 2 → pick_end c (suc j) (end_at s (suc j)) (end_at s (end_at s (suc j))) ≡ end_at s j → (0 < c → Entry s (suc j) a h) → (1 < c → Entry s a b g)
          → pick_end c (suc j) a b ≡ end_at s j
      ends zero few e p q = e
      ends (suc zero) few e p q = (p (omega arith)).end ∙ e
      ends (suc (suc zero)) few e p q = (q (omega arith)).end ∙ (ap (end_at s) (p (omega arith)).end ∙ e)
      ends (suc (suc (suc c))) few e p q = absurd (omega arith)

      highs : (c : ℕ) → c ≤ 2 → (0 < c → Entry s (suc j) a h) → (1 < c → Entry s a b g)
          → (0 < pick_height c h g) × (pick_height c h g + j ≤ pick_end c (suc j) a b) × (pick_end c (suc j) a b ≤ length s / 16)
      highs zero few p q = omega arith
      highs (suc zero) few p q = let x = p (omega arith) in omega arith
      highs (suc (suc zero)) few p q = let x = p (omega arith) in let y = q (omega arith) in omega arith
      highs (suc (suc (suc c))) few p q = absurd (omega arith)

-- a store above the terms
stacked_keep : (s stack : List ℕ) (p v k e h i : ℕ) → k < p → Stacked s stack k e h i → Stacked s (set stack p v) k e h i
unfolding Stacked
stacked_keep s stack p v zero e h i l q = q
stacked_keep s stack p v (suc k) e h i l q =
    (q.0, rw (get_or-set_other stack p (suc k) v 0 (λ z. omega arith)) (stacked_keep s stack p v k _ _ e (omega arith) q.1))

-- A turn: the top is stored above the stack, and the record at place j takes its children from it.
pub stack_turn : (s stack : List ℕ) (k e h j c m : ℕ) → Stacked s stack k e h (suc j) → j < length s / 16 → c ≡ children_of (get_or s (16 * j) 0) → c ≤ 2
    → m + c ≡ k + 2 → 2 ≤ m → suc k < length stack → e ≤ 65535
    → Stacked s (set stack (suc k) (e + 65536 * h)) (m - 1) (pick_end c (suc j) e (get_or stack k 0 % 65536)) (pick_height c h (get_or stack k 0 / 65536)) j
unfolding Stacked pick_end
stack_turn s stack k e h j c m q l kind few n two room small = go k c q kind few n room
  where
    go : (k c : ℕ) → Stacked s stack k e h (suc j) → c ≡ children_of (get_or s (16 * j) 0) → c ≤ 2 → m + c ≡ k + 2 → suc k < length stack
        → Stacked s (set stack (suc k) (e + 65536 * h)) (m - 1) (pick_end c (suc j) e (get_or stack k 0 % 65536)) (pick_height c h (get_or stack k 0 / 65536)) j
    go k zero q kind few n room =
        let z : m - 1 ≡ suc k = omega arith in
        let f : (e + 65536 * h) % 65536 ≡ e = omega arith in
        let g : (e + 65536 * h) / 65536 ≡ h = omega arith in
        rw z (
          entry_more s j 0 e h (get_or stack k 0 % 65536) (get_or stack k 0 / 65536) kind (λ x. absurd (omega arith)) (λ x. absurd (omega arith)) l few,
          rw (get_or-set_same stack (suc k) (e + 65536 * h) 0 room, f, g) (stacked_keep s stack (suc k) (e + 65536 * h) k e h (suc j) (omega arith) q),
        )
    go zero (suc c) q kind few n room = absurd (omega arith)
    go (suc k) (suc zero) q kind few n room =
        let z : m - 1 ≡ suc k = omega arith in
        rw z (
          entry_more s j 1 e h (get_or stack (suc k) 0 % 65536) (get_or stack (suc k) 0 / 65536) kind (λ x. q.0) (λ x. absurd (omega arith)) l few,
          (stacked_keep s stack (suc (suc k)) (e + 65536 * h) (suc k) e h (suc j) (omega arith) q).1,
        )
    go (suc zero) (suc (suc c)) q kind few n room = absurd (omega arith)
    go (suc (suc k)) (suc (suc zero)) q kind few n room =
        let z : m - 1 ≡ suc k = omega arith in
        rw z (
          entry_more s j 2 e h (get_or stack (suc (suc k)) 0 % 65536) (get_or stack (suc (suc k)) 0 / 65536) kind (λ x. q.0) (λ x. q.1.0) l few,
          (stacked_keep s stack (suc (suc (suc k))) (e + 65536 * h) (suc k) (get_or stack (suc (suc k)) 0 % 65536) (get_or stack (suc (suc k)) 0 / 65536) e (omega arith) q.1).1,
        )
    go (suc (suc k)) (suc (suc (suc c))) q kind few n room = absurd (omega arith)

pub stacked_first : (s stack : List ℕ) (k e h i : ℕ) → Stacked s stack k e h i → 0 < k → Entry s i e h
unfolding Stacked
stacked_first s stack zero e h i q l = absurd (omega arith)
stacked_first s stack (suc k) e h i q l = q.0

pub stacked_second : (s stack : List ℕ) (k e h i : ℕ) → Stacked s stack k e h i → 1 < k → Entry s e (get_or stack k 0 % 65536) (get_or stack k 0 / 65536)
unfolding Stacked
stacked_second s stack zero e h i q l = absurd (omega arith)
stacked_second s stack (suc k) e h i q l = stacked_first s stack k _ _ e q.1 (omega arith)
