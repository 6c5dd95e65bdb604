-- Lifting a record where the table lies (specs/Extruding): the records between go up by one, and so do their ends.
use mathlib.Core.Path.{◌≡◌, refl, sym, ap, ◌∙◌}
use mathlib.Core.List.{List, [], ◌∷◌, ◌++◌, append_assoc}
use Prim.Native.Nat.{ℕ, suc, ◌+◌, ◌*◌, ◌-◌, ◌≤◌, ◌<◌}
use native.Mathlib.Omega.{arith}
use lib.ListN.{length, take, drop, get_or, set, length-append, length-drop, take-append-drop, get_or-append}
use lib.Seq.{sets-eq, take-suc, drop-cons, take-take, take-append-le, drop_at, set_at, get_or-take, get_or-set_same, get_or-set_other, length-take-le}
use lib.Dec.{eqb}
use borrow.Author.Tests.{eqb-true, eqb-false}
use Rattle.cows.proofs.Basics.{bool_case}
use Rattle.records.specs.Rewrites.{put}
use Rattle.extrude.specs.Extruding.{raised, lifted, EndsLifted}

-- bytes up by one record: the first step and each of the others
pub raised-start : (t : List ℕ) (high : ℕ) → t ≡ raised t high high
unfolding raised
raised-start t high = let z : high - high ≡ 0 = omega arith in sym (rw z (take-append-drop (high + 16) t))

module _ (t : List ℕ) (k high : ℕ) (h : k < high) (l : high + 16 ≤ length t) where
  abbrev rest : List ℕ
  rest = take (high - suc k) (drop (suc k) t) ++ drop (high + 16) t

  before_step : raised t (suc k) high ≡ take (k + 16) t ++ (get_or t (k + 16) 0 ∷ rest)
  unfolding raised
  before_step =
      let z : suc k + 16 ≡ suc (k + 16) = omega arith in
      rw (z, take-suc t (k + 16) 0 (omega arith)) (append_assoc (take (k + 16) t) (get_or t (k + 16) 0 ∷ []) rest)

  after_step : raised t k high ≡ take (k + 16) t ++ (get_or t k 0 ∷ rest)
  unfolding raised
  after_step = let z : high - k ≡ suc (high - suc k) = omega arith in rw (z, drop-cons t k 0 (omega arith))

  byte_there : get_or (raised t (suc k) high) k 0 ≡ get_or t k 0
  byte_there =
      ap (λ x. get_or x k 0) before_step
      ∙ (get_or-append (take (k + 16) t) _ 0 k (omega (arith, length-take-le (k + 16) t (omega arith))) ∙ get_or-take (k + 16) t k 0 (omega arith))

  raised-next : set (raised t (suc k) high) (k + 16) (get_or (raised t (suc k) high) k 0) ≡ raised t k high
  raised-next =
      ap (set (raised t (suc k) high) (k + 16)) byte_there
      ∙ (ap (λ x. set x (k + 16) (get_or t k 0)) before_step
      ∙ (set_at (take (k + 16) t) (get_or t (k + 16) 0) rest (get_or t k 0) (k + 16) (length-take-le (k + 16) t (omega arith)) ∙ sym after_step))

pub raised_step : (t : List ℕ) (i high : ℕ) {s : List ℕ} → 0 < i → i ≤ high → high + 16 ≤ length t → s ≡ raised t i high → set s (i - 1 + 16) (get_or s (i - 1) 0) ≡ raised t (i - 1) high
raised_step t i high {s} p h l e =
    let z : i ≡ suc (i - 1) = omega arith in
    let w : s ≡ raised t (suc (i - 1)) high = e ∙ ap (λ n. raised t n high) z in
    rw w (raised-next t (i - 1) high (omega arith) l)

-- the record put into the gap
pub raised-lifted : (t : List ℕ) (a p : ℕ) {u s r : List ℕ} → p < a → 16 * (a + 1) ≤ length t → u ≡ raised t (16 * p) (16 * a) → s ≡ put u (16 * p) r → r ≡ take 16 (drop (16 * a) t) → s ≡ lifted t a p
unfolding raised lifted put
raised-lifted t a p {u} {s} {r} h l g e f =
    let low = take (16 * p + 16) t in
    let up = take (16 * a - 16 * p) (drop (16 * p) t) ++ drop (16 * a + 16) t in
    let long : length low ≡ 16 * p + 16 = length-take-le (16 * p + 16) t (omega arith) in
    let n : length r ≡ 16 = ap length f ∙ length-take-le 16 (drop (16 * a) t) (omega (arith, length-drop (16 * a) t)) in
    let ahead : take (16 * p) (low ++ up) ≡ take (16 * p) t = take-append-le (16 * p) low up (omega (arith, long)) ∙ take-take (16 * p) (16 * p + 16) t (omega arith) in
    let behind : drop (16 * p + length r) (low ++ up) ≡ up = rw n (drop_at low up (16 * p + 16) long) in
    let z : 16 * a - 16 * p ≡ 16 * (a - p) = omega arith in
    let w : 16 * a + 16 ≡ 16 * (a + 1) = omega arith in
    e ∙ (ap (λ x. put x (16 * p) r) g ∙ sets-eq r (low ++ up) (16 * p) (omega (arith, n, long, length-append low up)) ∙ rw (ahead, behind, f, z, w) (append_assoc (take (16 * p) t) _ _))

-- The ends up to place i are as they were, and those behind it, up to place a, are lifted.
pub record EndsRaised (ends : List ℕ) (a i : ℕ) (ends' : List ℕ) : Type 0 where
  pub first : (k : ℕ) → k ≤ i → get_or ends' k 0 ≡ get_or ends k 0
  pub between : (k : ℕ) → i < k → k ≤ a → get_or ends' k 0 ≡ get_or ends (k - 1) 0 + 1
  pub last : (k : ℕ) → a < k → get_or ends' k 0 ≡ get_or ends k 0

pub ends_start : (ends : List ℕ) (a : ℕ) → EndsRaised ends a a ends
ends_start ends a = record { first = λ k h. refl; between = λ k h l. absurd (omega arith); last = λ k h. refl }

pub ends_step : (ends : List ℕ) (a i : ℕ) {d : List ℕ} → EndsRaised ends a i d → 0 < i → i ≤ a → a < length d → EndsRaised ends a (i - 1) (set d i (get_or d (i - 1) 0 + 1))
ends_step ends a i {d} h p l m = record {
  first = λ k e. get_or-set_other d i k _ 0 (λ q. omega arith) ∙ h.first k (omega arith);
  between = λ k e f.
      bool_case _ (eqb k i)
      (λ q. rw (eqb-true k i q) (get_or-set_same d i _ 0 (omega arith) ∙ ap (λ n. n + 1) (h.first (i - 1) (omega arith))))
      (λ q. get_or-set_other d i k _ 0 (eqb-false k i q) ∙ h.between k (omega (arith, eqb-false k i q)) f);
  last = λ k e. get_or-set_other d i k _ 0 (λ q. omega arith) ∙ h.last k e;
}

pub ends_done : (ends : List ℕ) (a p i : ℕ) {d : List ℕ} → EndsRaised ends a i d → i ≡ p + 1 → p < a → a < length d → {top : ℕ} → top ≡ get_or ends p 0 → EndsLifted ends a p (set d (p + 1) top)
ends_done ends a p i {d} h at l m {top} e = record {
  first = λ k x. get_or-set_other d (p + 1) k _ 0 (λ q. omega arith) ∙ h.first k (omega arith);
  top = get_or-set_same d (p + 1) top 0 (omega arith) ∙ e;
  between = λ k x y. get_or-set_other d (p + 1) k _ 0 (λ q. omega arith) ∙ h.between k (omega arith) y;
  last = λ k x. get_or-set_other d (p + 1) k _ 0 (λ q. omega arith) ∙ h.last k x;
}
