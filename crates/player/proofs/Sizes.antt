-- The sizes of the terms at the places of a table, in order. Around a hole they depend on what fills it by its size alone.
use mathlib.Core.Path.{◌≡◌, refl, sym, ap, ◌∙◌}
use mathlib.Core.List.{List, [], ◌∷◌, ◌++◌, append_assoc, append-nil}
use Prim.Native.Nat.{ℕ, zero, suc, ◌+◌, ◌-◌, ◌≤◌, ◌<◌}
use native.Mathlib.Omega.{arith}
use mathlib.Core.Logic.{◌⊎◌, inl, inr, ⊎_elim}
use lib.Dec.{ltb, eqb}
use borrow.Author.Tests.{ltb-true, ltb-false, eqb-true, eqb-false}
use lib.ListN.{length, get_or, length-append, get_or-append}
use lib.Seq.{get_or-append-add}
use Rattle.cows.specs.Terms.{Term, leaf, under, both, size}
use Rattle.cows.specs.Places.{Frame, inside, left_of, right_of, plug, Way, fill, Spot, descend, spot_at, sub}
use Rattle.cows.specs.Records.{opens, ahead}
use Rattle.cows.proofs.Format.{length-nodes}
use Rattle.cows.proofs.Basics.{bool_case, cond_case}
use Rattle.cows.proofs.Places.{spot_fits}

unfoldable pub sizes : Term → List ℕ
sizes (leaf x) = 1 ∷ []
sizes (under u t) = suc (size t) ∷ sizes t
sizes (both j s t) = suc (size s + size t) ∷ (sizes s ++ sizes t)

pub length_sizes : (t : Term) → length (sizes t) ≡ size t
unfolding sizes size
length_sizes (leaf x) = refl
length_sizes (under u t) = ap suc (length_sizes t)
length_sizes (both j s t) = ap suc (length-append (sizes s) (sizes t) ∙ omega (arith, length_sizes s, length_sizes t))

descend-size : (w : Way) (t : Term) (n : ℕ) → n < size t → get_or (sizes t) n 0 ≡ size (descend w t n).here
unfolding sizes size descend
descend-size w (leaf x) zero h = refl
descend-size w (leaf x) (suc n) h = absurd (omega arith)
descend-size w (under u t) zero h = refl
descend-size w (under u t) (suc n) h = descend-size (inside u ∷ w) t n (omega arith)
descend-size w (both j s t) zero h = refl
descend-size w (both j s t) (suc n) h =
    cond_case (λ (z : Spot). get_or (sizes s ++ sizes t) n 0 ≡ size z.here) (ltb n (size s))
    (λ e. get_or-append (sizes s) (sizes t) 0 n (omega (arith, length_sizes s, ltb-true n (size s) e)) ∙ descend-size (left_of j t ∷ w) s n (ltb-true n (size s) e))
    (λ e.
    let z : n ≡ length (sizes s) + (n - size s) = omega (arith, length_sizes s, ltb-false n (size s) e) in
    ap (λ k. get_or (sizes s ++ sizes t) k 0) z ∙ (get_or-append-add (sizes s) (sizes t) (n - size s) 0 ∙ descend-size (right_of j s ∷ w) t (n - size s) (omega (arith, ltb-false n (size s) e))))

pub sizes_at : (t : Term) (n : ℕ) → n < size t → get_or (sizes t) n 0 ≡ size (sub t n)
unfolding sub spot_at
sizes_at t n h = descend-size [] t n h

-- a frame around a term of k records: its size, and the sizes of what stands in it ahead of the term and behind it
pub plug_size : Frame → ℕ → ℕ
plug_size (inside u) k = suc k
plug_size (left_of j t) k = suc (k + size t)
plug_size (right_of j s) k = suc (size s + k)

pub left_sizes : Frame → List ℕ
left_sizes (inside u) = []
left_sizes (left_of j t) = []
left_sizes (right_of j s) = sizes s

pub right_sizes : Frame → List ℕ
right_sizes (inside u) = []
right_sizes (left_of j t) = sizes t
right_sizes (right_of j s) = []

pub size-plug : (f : Frame) (x : Term) → size (plug f x) ≡ plug_size f (size x)
unfolding size plug plug_size
size-plug (inside u) x = refl
size-plug (left_of j t) x = refl
size-plug (right_of j s) x = refl

pub plug_more : (f : Frame) (k : ℕ) → plug_size f (suc k) ≡ suc (plug_size f k)
unfolding plug_size
plug_more (inside u) k = refl
plug_more (left_of j t) k = omega arith
plug_more (right_of j s) k = omega arith

pub sizes_plug : (f : Frame) (x : Term) → sizes (plug f x) ≡ plug_size f (size x) ∷ (left_sizes f ++ (sizes x ++ right_sizes f))
unfolding sizes plug plug_size left_sizes right_sizes
sizes_plug (inside u) x = ap (λ l. suc (size x) ∷ l) (sym (append-nil (sizes x)))
sizes_plug (left_of j t) x = refl
sizes_plug (right_of j s) x = ap (λ l. suc (size s + size x) ∷ (sizes s ++ l)) (sym (append-nil (sizes x)))

-- a way around it: the sizes ahead of it and behind it
pub ahead_sizes : Way → ℕ → List ℕ
ahead_sizes [] k = []
ahead_sizes (f ∷ w) k = ahead_sizes w (plug_size f k) ++ (plug_size f k ∷ left_sizes f)

pub behind_sizes : Way → List ℕ
behind_sizes [] = []
behind_sizes (f ∷ w) = right_sizes f ++ behind_sizes w

pub sizes_fill : (w : Way) (x : Term) → sizes (fill w x) ≡ ahead_sizes w (size x) ++ (sizes x ++ behind_sizes w)
unfolding fill ahead_sizes behind_sizes
sizes_fill [] x = sym (append-nil (sizes x))
sizes_fill (f ∷ w) x =
    sizes_fill w (plug f x)
    ∙ (rw (size-plug f x, sizes_plug f x) (simp append_assoc))

length-left : (f : Frame) → suc (length (left_sizes f)) ≡ length (opens f)
unfolding left_sizes opens
length-left (inside u) = refl
length-left (left_of j t) = refl
length-left (right_of j s) = ap suc (length_sizes s ∙ sym (length-nodes s))

pub length-ahead_sizes : (w : Way) (k : ℕ) → length (ahead_sizes w k) ≡ length (ahead w)
unfolding ahead_sizes ahead
length-ahead_sizes [] k = refl
length-ahead_sizes (f ∷ w) k =
    length-append (ahead_sizes w (plug_size f k)) (plug_size f k ∷ left_sizes f)
    ∙ (omega (arith, length-ahead_sizes w (plug_size f k), length-left f) ∙ sym (length-append (ahead w) (opens f)))

pub length-left_sizes : (f : Frame) (w : Way) → length (ahead (f ∷ w)) ≡ suc (length (ahead w) + length (left_sizes f))
unfolding ahead
length-left_sizes f w = length-append (ahead w) (opens f) ∙ omega (arith, length-left f)

-- A place ahead of the hole stands beside it, with an end ahead of it and a size that does not depend on what fills it, or around it.
unfoldable pub Beside : Way → ℕ → ℕ → ℕ → Type 0
Beside w k k' j = (get_or (ahead_sizes w k') j 0 ≡ get_or (ahead_sizes w k) j 0) × (j + get_or (ahead_sizes w k) j 0 ≤ length (ahead w))

unfoldable pub Around : Way → ℕ → ℕ → ℕ → Type 0
Around w k k' j = (get_or (ahead_sizes w k') j 0 + k ≡ get_or (ahead_sizes w k) j 0 + k') × (length (ahead w) + k ≤ j + get_or (ahead_sizes w k) j 0)

plug_grows : (f : Frame) (k k' : ℕ) → (plug_size f k' + k ≡ plug_size f k + k') × (suc (length (left_sizes f)) + k ≤ plug_size f k)
unfolding plug_size left_sizes
plug_grows (inside u) k k' = omega arith
plug_grows (left_of j t) k k' = omega arith
plug_grows (right_of j s) k k' = omega (arith, length_sizes s)

left_fits : (f : Frame) (j : ℕ) → j < length (left_sizes f) → j + get_or (left_sizes f) j 0 ≤ length (left_sizes f)
unfolding left_sizes
left_fits (inside u) j h = absurd (omega arith)
left_fits (left_of i t) j h = absurd (omega arith)
left_fits (right_of i s) j h = omega (arith, length_sizes s, sizes_at s j (omega (arith, length_sizes s)), spot_fits s j (omega (arith, length_sizes s)))

module _ (f : Frame) (w : Way) (j : ℕ) where
  abbrev outside : ℕ → List ℕ
  outside k = ahead_sizes w (plug_size f k)

  first_part : (k : ℕ) → j < length (ahead w) → get_or (ahead_sizes (f ∷ w) k) j 0 ≡ get_or (outside k) j 0
  unfolding ahead_sizes
  first_part k l = get_or-append (outside k) _ 0 j (omega (arith, length-ahead_sizes w (plug_size f k)))

  last_part : (k i : ℕ) → j ≡ length (ahead w) + i → get_or (ahead_sizes (f ∷ w) k) j 0 ≡ get_or (plug_size f k ∷ left_sizes f) i 0
  unfolding ahead_sizes
  last_part k i e =
      let z : j ≡ length (outside k) + i = omega (arith, length-ahead_sizes w (plug_size f k)) in
      ap (λ x. get_or (ahead_sizes (f ∷ w) k) x 0) z ∙ get_or-append-add (outside k) _ i 0

ahead_none : length (ahead []) ≡ 0
unfolding ahead
ahead_none = refl

pub ahead_or : (w : Way) (k k' j : ℕ) → j < length (ahead w) → Beside w k k' j ⊎ Around w k k' j
unfolding Beside Around
ahead_or [] k k' j h = absurd (omega (arith, ahead_none))
ahead_or (f ∷ w) k k' j h =
    let long = length-left_sizes f w in
    let (g, b) = plug_grows f k k' in
    bool_case _ (ltb j (length (ahead w)))
    (λ e.
    let l = ltb-true j (length (ahead w)) e in
    let x = first_part f w j k l in
    let y = first_part f w j k' l in
    ⊎_elim (λ v. inl (cc' y x v.0, omega (arith, x, v.1, long))) (λ v. inr (omega (arith, x, y, v.0, g), omega (arith, x, v.1, long, b))) (ahead_or w (plug_size f k) (plug_size f k') j l))
    (λ e.
    let l = ltb-false j (length (ahead w)) e in
    bool_case _ (eqb j (length (ahead w)))
    (λ q.
    let z = eqb-true j (length (ahead w)) q in
    let x = last_part f w j k 0 (omega arith) in
    let y = last_part f w j k' 0 (omega arith) in
    inr (omega (arith, x, y, g), omega (arith, x, long, b)))
    (λ q.
    let i = j - length (ahead w) - 1 in
    let z : j ≡ length (ahead w) + suc i = omega (arith, eqb-false j (length (ahead w)) q) in
    let x = last_part f w j k (suc i) z in
    let y = last_part f w j k' (suc i) z in
    inl (y ∙ sym x, omega (arith, x, z, long, left_fits f i (omega (arith, z, long))))))
  where
    cc' : {a b c d : ℕ} → a ≡ b → c ≡ d → b ≡ d → a ≡ c
    cc' p q r = p ∙ (r ∙ sym q)
