-- Laws of writing and of standing bytes (specs/Rewrites: put, Has).
use mathlib.Core.Path.{◌≡◌, refl, sym, ap, ◌∙◌}
use mathlib.Core.List.{List, [], ◌∷◌, ◌++◌, append_assoc}
use Prim.Native.Nat.{ℕ, suc, ◌+◌, ◌-◌, ◌≤◌, ◌<◌}
use borrow.Rule.Slice.PartMut.{put_mid}
use native.Mathlib.Omega.{arith}
use native.Mathlib.Nat.{add-zero}
use native.Mathlib.Numerals.{add-one}
use lib.ListN.{length, take, drop, get_or, set, length-append, length-drop, get_or-append}
use lib.Seq.{sets, sets-eq, length-sets, drop-length, drop-drop, drop_at, take_at, take-suc, get_or-drop, length-take-le}
use Rattle.records.specs.Rewrites.{put, Has}

pub length-put : (d : List ℕ) (i : ℕ) (bs : List ℕ) → length (put d i bs) ≡ length d
unfolding put
length-put d i bs = length-sets d i bs

-- what is written over all of d is read there again
pub put_all : (d bs : List ℕ) (n : ℕ) {e : List ℕ} → length d ≡ n → length bs ≡ n → e ≡ put d 0 bs → take n (drop 0 e) ≡ bs
unfolding put
put_all d bs n l k h =
    let z : 0 + length bs ≡ length d = omega arith in
    rw (h, sets-eq bs d 0 (omega arith), z, drop-length d) (take_at bs [] n k)

-- one write behind another is one write
pub put-put : (d : List ℕ) (i j : ℕ) (a b : List ℕ) → j ≡ i + length a → put (put d i a) j b ≡ put d i (a ++ b)
unfolding put
put-put d i j [] b e = ap (λ k. sets d k b) (e ∙ add-zero i)
put-put d i j (x ∷ a) b e = put-put (set d i x) (suc i) j a b (omega arith)

-- the same of what two writes left
pub and_then : (d : List ℕ) (i j : ℕ) (a b : List ℕ) {e e' : List ℕ} → j ≡ i + length a → e ≡ put d i a → e' ≡ put e j b → e' ≡ put d i (a ++ b)
and_then d i j a b h p q = q ∙ (ap (λ l. put l j b) p ∙ put-put d i j a b h)

-- what a write to d[i..i + k] leaves: ys, which are the bytes bs
pub put_range : (d : List ℕ) (i k : ℕ) (ys bs : List ℕ) → i + k ≤ length d → length bs ≡ k → ys ≡ bs → put_mid i (i + k - i) d ys ≡ put d i bs
unfolding put
put_range d i k ys bs h e q =
    let z : i + k - i ≡ length bs = omega arith in
    rw (q, z, drop-drop (length bs) i d, sets-eq bs d i (omega arith), append_assoc (take i d) bs (drop (i + length bs) d))

-- so many bytes of a slice from byte i on, as a range gives them
pub range_bytes : (s : List ℕ) (i k : ℕ) → i + k ≤ length s → (take (i + k - i) (drop i s) ≡ take k (drop i s)) × (length (take k (drop i s)) ≡ k)
range_bytes s i k h = let z : i + k - i ≡ k = omega arith in (rw z, length-take-le k (drop i s) (omega (arith, length-drop i s)))

-- one byte more of a run
pub put_more : (d : List ℕ) (j : ℕ) (xs : List ℕ) (i : ℕ) → i < length xs → set (put d j (take i xs)) (j + i) (get_or xs i 0) ≡ put d j (take (i + 1) xs)
unfolding put
put_more d j xs i h =
    put-put d j (j + i) (take i xs) (get_or xs i 0 ∷ []) (omega (arith, length-take-le i xs (omega arith)))
    ∙ ap (sets d j) (let e : take (i + 1) xs ≡ take i xs ++ (get_or xs i 0 ∷ []) = rw add-one (take-suc xs i 0 h) in sym e)

-- The parts of bytes that stand in s from byte i on.
module _ {s : List ℕ} {i : ℕ} where
  pub has_left : (a b : List ℕ) → Has s i (a ++ b) → Has s i a
  has_left a b h = record { rest = b ++ h.rest; is = h.is ∙ append_assoc a b h.rest }

  pub has_right : (a b : List ℕ) (j : ℕ) → j ≡ i + length a → Has s i (a ++ b) → Has s j b
  has_right a b j e h =
      record { rest = h.rest; is = rw e (sym (drop-drop (length a) i s) ∙ (ap (drop (length a)) (h.is ∙ append_assoc a b h.rest) ∙ drop_at a (b ++ h.rest) (length a) refl)) }

  pub has_take : (a : List ℕ) → Has s i a → take (length a) (drop i s) ≡ a
  has_take a h = ap (take (length a)) h.is ∙ take_at a h.rest (length a) refl

  pub has_fits : (a : List ℕ) → 0 < length a → Has s i a → i + length a ≤ length s
  has_fits a p h = omega (arith, length-drop i s, length-append a h.rest, ap length h.is)

  pub has_byte : (a : List ℕ) (k : ℕ) → k < length a → Has s i a → get_or s (i + k) 0 ≡ get_or a k 0
  has_byte a k p h = sym (get_or-drop i s k 0) ∙ (ap (λ l. get_or l k 0) h.is ∙ get_or-append a h.rest 0 k p)
