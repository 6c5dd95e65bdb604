-- What is gathered from the places of a term in order (specs/Allows: gathered, InOrder): by the term's first record, and by stretches of places.
use mathlib.Core.Path.{◌≡◌, refl, sym, ap, ap₂, ◌∙◌}
use mathlib.Core.List.{List, [], ◌∷◌, ◌++◌, append-nil, append_assoc}
use Prim.Native.Nat.{ℕ, zero, suc, ◌+◌, ◌-◌, ◌≤◌, ◌<◌}
use native.Mathlib.Omega.{arith}
use native.Mathlib.Nat.{zero-add, suc-add, sub-zero}
use Rattle.cows.specs.Terms.{Prefix, Join, Term, under, both, size}
use Rattle.cows.specs.Kinds.{Node}
use Rattle.cows.specs.Places.{inside, left_of, right_of, Way, Spot, descend}
use Rattle.cows.specs.Format.{nodes, decode}
use Rattle.cows.specs.Allows.{gathered, InOrder}
use Rattle.cows.proofs.Places.{descend-first, descend-left, descend_right}
use Rattle.cows.proofs.Format.{decode-nodes}

-- gathering from the same lists, and from one stretch of places behind another
pub gathered_same : (f g : ℕ → List Node) (n : ℕ) → ((i : ℕ) → i < n → f i ≡ g i) → gathered f n ≡ gathered g n
unfolding gathered
gathered_same f g zero h = refl
gathered_same f g (suc n) h = ap₂ ◌++◌ (h 0 (omega arith)) (gathered_same (λ i. f (suc i)) (λ i. g (suc i)) n (λ i l. h (suc i) (omega arith)))

pub gathered_append : (f : ℕ → List Node) (m n : ℕ) → gathered f (m + n) ≡ gathered f m ++ gathered (λ i. f (m + i)) n
unfolding gathered
gathered_append f zero n = ap (λ k. gathered f k) (zero-add n) ∙ gathered_same _ _ n (λ i l. ap f (sym (zero-add i)))
gathered_append f (suc m) n =
    rw (suc-add m n, gathered_append (λ i. f (suc i)) m n)
    (sym (append_assoc (f 0) _ _) ∙ ap (λ l. gathered f (suc m) ++ l) (gathered_same _ _ n (λ i l. ap f (sym (suc-add m i)))))

-- two terms whose records are gathered alike are the same
pub in_order_unique : (t s r : Term) (P : ℕ → List Node → Type 0) → ((n : ℕ) → n < size t → (k l : List Node) → P n k → P n l → k ≡ l) → InOrder t P s → InOrder t P r → s ≡ r
in_order_unique t s r P one h k =
    let same : nodes s ≡ nodes r = h.records ∙ (gathered_same h.left k.left (size t) (λ n l. one n l _ _ (h.each n l) (k.each n l)) ∙ sym k.records) in
    sym (decode-nodes s) ∙ (ap decode same ∙ decode-nodes r)

-- what g says of every place of a term whose own way is w
abbrev pub Over : (Spot → List Node) → Way → Term → List Node
Over g w t = gathered (λ n. g (descend w t n)) (size t)

module _ (g : Spot → List Node) (w : Way) where
  pub over_leaf : (t : Term) → size t ≡ 1 → Over g w t ≡ g (record { way = w; here = t })
  unfolding gathered
  over_leaf t e = rw e (append-nil _ ∙ ap g (descend-first w t))

  pub over_under : (u : Prefix) (t : Term) → Over g w (under u t) ≡ g (record { way = w; here = under u t }) ++ Over g (inside u ∷ w) t
  unfolding gathered size descend
  over_under u t = refl

  pub over_both : (j : Join) (s t : Term) → Over g w (both j s t) ≡ g (record { way = w; here = both j s t }) ++ (Over g (left_of j t ∷ w) s ++ Over g (right_of j s ∷ w) t)
  unfolding gathered size
  over_both j s t =
      ap₂ ◌++◌ (ap g (descend-first w (both j s t)))
      (gathered_append (λ n. g (descend w (both j s t) (suc n))) (size s) (size t)
      ∙ ap₂ ◌++◌ (gathered_same _ _ (size s) (λ n l. ap g (descend-left w j s t n l))) (gathered_same _ _ (size t) (λ n l. ap g (descend_right w j s t n))))

-- Stretches of places: from i up to k.
unfoldable pub stretch : (ℕ → List Node) → ℕ → ℕ → List Node
stretch f i k = gathered (λ n. f (i + n)) (k - i)

pub stretch_whole : (f : ℕ → List Node) (n : ℕ) → gathered f n ≡ stretch f 0 n
unfolding stretch
stretch_whole f n = gathered_same f (λ i. f (0 + i)) n (λ i h. ap f (sym (zero-add i))) ∙ ap (gathered (λ i. f (0 + i))) (sym (sub-zero n))

pub stretch_split : (f : ℕ → List Node) (i j k : ℕ) → i ≤ j → j ≤ k → stretch f i k ≡ stretch f i j ++ stretch f j k
unfolding stretch
stretch_split f i j k l m =
    let e : (j - i) + (k - j) ≡ k - i = omega arith in
    ap (gathered (λ n. f (i + n))) (sym e)
    ∙ (gathered_append (λ n. f (i + n)) (j - i) (k - j)
    ∙ ap (λ q. stretch f i j ++ q) (gathered_same _ _ (k - j) (λ n h. ap f (let z : i + ((j - i) + n) ≡ j + n = omega arith in z))))

gathered_none : (n : ℕ) → gathered (λ i. []) n ≡ []
unfolding gathered
gathered_none zero = refl
gathered_none (suc n) = gathered_none n

pub stretch_none : (f : ℕ → List Node) (i k : ℕ) → ((n : ℕ) → i ≤ n → n < k → f n ≡ []) → stretch f i k ≡ []
unfolding stretch
stretch_none f i k h = gathered_same _ (λ n. []) (k - i) (λ n l. h (i + n) (omega arith) (omega arith)) ∙ gathered_none (k - i)
