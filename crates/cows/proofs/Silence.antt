-- Silencing an invoke changes no record but that one: the term has the same size, the same prefixes at the same places, and alike ways to them.
use mathlib.Core.Path.{◌≡◌, refl, sym, ap, ◌∙◌}
use mathlib.Core.Option.{Option}
use mathlib.Core.List.{[], ◌∷◌, ◌++◌}
use Prim.Native.Nat.{ℕ, zero, suc, ◌+◌, ◌-◌, ◌<◌}
use native.Mathlib.Omega.{arith}
use lib.Dec.{ltb}
use lib.ListN.{length, take, drop, length-append}
use Rattle.cows.specs.Basics.{any}
use Rattle.cows.specs.Terms.{Basic, nil, Prefix, Join, choice, parallel, Term, leaf, under, both, size, prefixed}
use Rattle.cows.specs.Kinds.{basic}
use Rattle.cows.specs.Places.{Frame, inside, left_of, right_of, plug, Way, Spot, descend, spot_at, way_to, sub, frame_delimits, enclosed, frame_chooses}
use Rattle.cows.specs.Format.{nodes}
use Rattle.cows.specs.Moves.{silence, around_choice}
use Rattle.cows.proofs.Basics.{cond_case₂}
use Rattle.cows.proofs.Places.{replaced}
use Rattle.cows.proofs.Format.{length-nodes}
use Rattle.cows.specs.Records.{opens, ahead}
use Rattle.cows.proofs.Ways.{nodes_replaced}

-- the same term but for some leaves
pub data Relieved : Term → Term → Type 0 where
  leaves : {x y : Basic} → Relieved (leaf x) (leaf y)
  down : {u : Prefix} {t r : Term} → Relieved t r → Relieved (under u t) (under u r)
  across : {j : Join} {s t q r : Term} → Relieved s q → Relieved t r → Relieved (both j s t) (both j q r)

relieved_refl : (t : Term) → Relieved t t
relieved_refl (leaf x) = leaves
relieved_refl (under u t) = down (relieved_refl t)
relieved_refl (both j s t) = across (relieved_refl s) (relieved_refl t)

relieved_plug : (f : Frame) (s r : Term) → Relieved s r → Relieved (plug f s) (plug f r)
unfolding plug
relieved_plug (inside u) s r h = down h
relieved_plug (left_of j t) s r h = across h (relieved_refl t)
relieved_plug (right_of j t) s r h = across (relieved_refl t) h

pub relieved_size : {t r : Term} → Relieved t r → size t ≡ size r
unfolding size
relieved_size leaves = refl
relieved_size (down h) = ap suc (relieved_size h)
relieved_size (across h k) = omega (arith, relieved_size h, relieved_size k)

relieved_prefix : {A : Type 0} (f : Prefix → Option A) {t r : Term} → Relieved t r → (v w : Way) (n : ℕ) → prefixed f (descend v r n).here ≡ prefixed f (descend w t n).here
unfolding prefixed descend
relieved_prefix f leaves v w n = refl
relieved_prefix f (down h) v w zero = refl
relieved_prefix f (down {u = u} h) v w (suc n) = relieved_prefix f h (inside u ∷ v) (inside u ∷ w) n
relieved_prefix f (across h k) v w zero = refl
relieved_prefix f (across {j = j} {s = s} {t = t} {q = q} {r = r} h k) v w (suc n) =
    rw (relieved_size h)
    (cond_case₂ (λ (x y : Spot). prefixed f x.here ≡ prefixed f y.here) (ltb n (size q))
    (λ e. relieved_prefix f h (left_of j r ∷ v) (left_of j t ∷ w) n) (λ e. relieved_prefix f k (right_of j q ∷ v) (right_of j s ∷ w) (n - size q)))

pub relieved_silence : (t : Term) (b : ℕ) (x : Basic) → sub t b ≡ leaf x → Relieved t (silence t b)
unfolding silence
relieved_silence t b x e = replaced Relieved relieved_plug t b (leaf nil) (rw e leaves)

pub silence-size : (t : Term) (b : ℕ) (x : Basic) → sub t b ≡ leaf x → size (silence t b) ≡ size t
silence-size t b x e = sym (relieved_size (relieved_silence t b x e))

pub silence-prefix : {A : Type 0} (f : Prefix → Option A) (t : Term) (b : ℕ) (x : Basic) → sub t b ≡ leaf x → (a : ℕ) → prefixed f (sub (silence t b) a) ≡ prefixed f (sub t a)
unfolding sub spot_at
silence-prefix f t b x e a = relieved_prefix f (relieved_silence t b x e) [] [] a

-- silenced, a record is nil, and no other changes
pub silence-nodes : (t : Term) (b : ℕ) {x : Basic} → b < size t → sub t b ≡ leaf x → nodes (silence t b) ≡ take b (nodes t) ++ (basic nil ∷ drop (suc b) (nodes t))
unfolding silence nodes size
silence-nodes t b l e =
    nodes_replaced t b l (leaf nil) ∙ ap (λ k. take b (nodes t) ++ (basic nil ∷ drop k (nodes t))) (let z : b + size (sub t b) ≡ suc b = omega (arith, ap size e) in z)

-- Frames are alike if they differ at most in the other side, and that is of the same size; ways are, if their frames are.
pub data AlikeFrame : Frame → Frame → Type 0 where
  through : {u : Prefix} → AlikeFrame (inside u) (inside u)
  left : {j : Join} {s t : Term} → AlikeFrame (left_of j s) (left_of j t)
  right : {j : Join} {s t : Term} → size s ≡ size t → AlikeFrame (right_of j s) (right_of j t)

pub data Alike : Way → Way → Type 0 where
  top : Alike [] []
  next : {f g : Frame} {v w : Way} → AlikeFrame f g → Alike v w → Alike (f ∷ v) (g ∷ w)

-- at each place of two terms that differ at most in leaves
relieved_at : {t r : Term} → Relieved t r → {v w : Way} → Alike v w → (n : ℕ) → Alike (descend v t n).way (descend w r n).way × Relieved (descend v t n).here (descend w r n).here
unfolding descend
relieved_at leaves k n = (k, leaves)
relieved_at (down h) k zero = (k, down h)
relieved_at (down h) k (suc n) = relieved_at h (next through k) n
relieved_at (across h i) k zero = (k, across h i)
relieved_at (across {q = q} h i) k (suc n) =
    rw (relieved_size h)
    (cond_case₂ (λ (x y : Spot). Alike x.way y.way × Relieved x.here y.here) (ltb n (size q))
    (λ e. relieved_at h (next left k) n) (λ e. relieved_at i (next (right (relieved_size h)) k) (n - size q)))

pub alike_at : (t : Term) (b : ℕ) (x : Basic) → sub t b ≡ leaf x → (n : ℕ) → Alike (way_to t n) (way_to (silence t b) n) × Relieved (sub t n) (sub (silence t b) n)
unfolding way_to sub spot_at
alike_at t b x e n = relieved_at (relieved_silence t b x e) top n

-- what alike ways have in common: the number of records ahead, the ways around a choice, and what they delimit
pub alike_ahead : {v w : Way} → Alike v w → length (ahead v) ≡ length (ahead w)
unfolding ahead opens
alike_ahead top = refl
alike_ahead (next {f = f} {g = g} {v = v} {w = w} h k) = omega (arith, length-append (ahead v) (opens f), length-append (ahead w) (opens g), alike_ahead k, go h)
  where
    go : {f g : Frame} → AlikeFrame f g → length (opens f) ≡ length (opens g)
    go through = refl
    go left = refl
    go (right {s = s} {t = t} e) = omega (arith, length-nodes s, length-nodes t)

pub alike_around : {v w : Way} → Alike v w → Alike (around_choice v) (around_choice w)
unfolding around_choice frame_chooses
alike_around top = top
alike_around (next (through {u = u}) k) = next through k
alike_around (next (left {j = choice}) k) = alike_around k
alike_around (next (left {j = parallel}) k) = next left k
alike_around (next (right {j = choice} e) k) = alike_around k
alike_around (next (right {j = parallel} e) k) = next (right e) k

pub alike_enclosed : {v w : Way} → Alike v w → (d : ℕ) → enclosed d v ≡ enclosed d w
unfolding enclosed any frame_delimits
alike_enclosed top d = refl
alike_enclosed (next {f = f} {g = g} {v = v} {w = w} h k) d = rw (go h, alike_enclosed k d)
  where
    go : {f g : Frame} → AlikeFrame f g → frame_delimits d f ≡ frame_delimits d g
    go through = refl
    go left = refl
    go (right e) = refl
