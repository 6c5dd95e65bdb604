-- Laws of specs/Cut, for records of any kind, width and test: written and cut out again, read back, and the first that fails.
use mathlib.Core.Path.{◌≡◌, refl, sym, ap, ◌∙◌}
use mathlib.Core.Bool.{Bool, true, false, not}
use mathlib.Core.Option.{none, some}
use mathlib.Core.List.{List, [], ◌∷◌, ◌++◌, map, flat_map, append_assoc}
use Prim.Native.Nat.{ℕ, zero, suc, ◌+◌, ◌*◌, ◌/◌, ◌%◌, ◌≤◌, ◌<◌}
use native.Mathlib.Omega.{arith}
use native.Mathlib.Numerals.{add-one}
use native.Mathlib.Nat.{mul-div_cancel_left, div-add-mod}
use lib.ListN.{length, take, drop, length-append, length-take, length-drop, take-append-drop, drop_of_length-le}
use lib.Seq.{take_at, drop_at, drop-nil, drop-drop}
use borrow.Author.Tests.{not-false}
use Rattle.cows.specs.Basics.{All, place_if, or_else}
use Rattle.cows.specs.Cut.{pieces, cut, first_failing}
use Rattle.cows.specs.Format.{AreBytes}
use Rattle.cows.proofs.Basics.{same_some, or_else_none, place_if-none}

-- All of two lists, and of a part.
module _ {A : Type 0} (P : A → Type 0) where
  pub all_append : (xs ys : List A) → All P xs → All P ys → All P (xs ++ ys)
  all_append [] ys h k = k
  all_append (x ∷ xs) ys h k = (h.0, all_append xs ys h.1 k)

  pub append_all : (xs ys : List A) → All P (xs ++ ys) → All P xs × All P ys
  append_all [] ys h = (tt, h)
  append_all (x ∷ xs) ys h = let (k, l) = append_all xs ys h.1 in ((h.0, k), l)

  pub all_take : (n : ℕ) (xs : List A) → All P xs → All P (take n xs) × All P (drop n xs)
  all_take zero xs h = (tt, h)
  all_take (suc n) [] h = (tt, tt)
  all_take (suc n) (x ∷ xs) h = let (k, l) = all_take n xs h.1 in ((h.0, k), l)

-- Written one behind the other.
pub flat_map_append : {A B : Type 0} (f : A → List B) (xs ys : List A) → flat_map f (xs ++ ys) ≡ flat_map f xs ++ flat_map f ys
unfolding flat_map
flat_map_append f [] ys = refl
flat_map_append f (x ∷ xs) ys = rw (flat_map_append f xs ys) (sym (append_assoc (f x) (flat_map f xs) (flat_map f ys)))

-- Cut: so many pieces, those from a place on, and one more.
pub length-pieces : (w n : ℕ) (b : List ℕ) → length (pieces w n b) ≡ n
unfolding pieces
length-pieces w zero b = refl
length-pieces w (suc n) b = ap suc (length-pieces w n (drop w b))

pub pieces_more : (w n : ℕ) (b : List ℕ) → pieces w (suc n) b ≡ pieces w n b ++ (take w (drop (w * n) b) ∷ [])
unfolding pieces
pieces_more w zero b = let e : w * 0 ≡ 0 = omega arith in rw e
pieces_more w (suc n) b =
    let e : w + w * n ≡ w * suc n = omega arith in
    ap (λ l. take w b ∷ l) (pieces_more w n (drop w b) ∙ rw (drop-drop (w * n) w b, e))

pieces_cons : (w n i : ℕ) (b : List ℕ) → i < n → drop i (pieces w n b) ≡ take w (drop (w * i) b) ∷ drop (suc i) (pieces w n b)
unfolding pieces
pieces_cons w zero i b h = absurd (omega arith)
pieces_cons w (suc n) zero b h = let e : w * 0 ≡ 0 = omega arith in rw e
pieces_cons w (suc n) (suc i) b h =
    let e : w + w * i ≡ w * suc i = omega arith in
    pieces_cons w n i (drop w b) (omega arith) ∙ rw (drop-drop (w * i) w b, e)

module _ (w : ℕ) (b : List ℕ) where
  pub length_cut : length (cut w b) ≡ length b / w
  unfolding cut
  length_cut = length-pieces w (length b / w) b

  pub cut_cons : (i : ℕ) → i < length b / w → drop i (cut w b) ≡ take w (drop (w * i) b) ∷ drop (suc i) (cut w b)
  unfolding cut
  cut_cons i h = pieces_cons w (length b / w) i b h

  pub cut-end : (i : ℕ) → length b / w ≤ i → drop i (cut w b) ≡ []
  cut-end i h = drop_of_length-le (cut w b) {i = i} (omega (arith, length_cut))

-- The first that fails: it is one of them; there is none among those that pass.
module _ {A : Type 0} (test : A → Bool) where
  pub failing_below : (n : ℕ) (xs : List A) (p : ℕ) → first_failing test n xs ≡ some p → p < n + length xs
  unfolding first_failing place_if or_else
  failing_below n [] p e = absurd (let z : ◌≡◌ {A = ℕ} 0 1 = cc in omega arith)
  failing_below n (x ∷ xs) p e = go (not (test x)) (failing_below (suc n) xs p) e
    where
      go : (b : Bool) → (first_failing test (suc n) xs ≡ some p → p < suc n + length xs) → or_else (place_if b n) (first_failing test (suc n) xs) ≡ some p → p < n + suc (length xs)
      go true h e = omega (arith, same_some e)
      go false h e = omega (arith, h e)

  pub failing_none : (n : ℕ) (xs : List A) → first_failing test n xs ≡ none → All (λ x. test x ≡ true) xs
  unfolding first_failing
  failing_none n [] e = tt
  failing_none n (x ∷ xs) e =
      let (p, q) = or_else_none (place_if (not (test x)) n) _ e in
      (not-false _ (place_if-none _ n p), failing_none (suc n) xs q)

  pub none_failing : (n : ℕ) (xs : List A) → All (λ x. test x ≡ true) xs → first_failing test n xs ≡ none
  unfolding first_failing place_if or_else
  none_failing n [] h = refl
  none_failing n (x ∷ xs) h = rw h.0 (none_failing (suc n) xs h.1)

-- the search among the pieces of a list of bytes, at place i; p is the answer of the test there
module _ (w : ℕ) (test : List ℕ → Bool) (b : List ℕ) where
  module _ (i : ℕ) (p : Bool) (l : i < length b / w) (e : p ≡ test (take w (drop (w * i) b))) where
    pub failing_here : not p ≡ true → first_failing test i (drop i (cut w b)) ≡ some i
    unfolding first_failing place_if or_else
    failing_here h = rw (cut_cons w b i l, ← e, h)

    pub passing_here : not p ≡ false → first_failing test i (drop i (cut w b)) ≡ first_failing test (i + 1) (drop (i + 1) (cut w b))
    unfolding first_failing place_if or_else
    passing_here h = rw (cut_cons w b i l, ← e, h, add-one i)

  pub none_left : (i : ℕ) → length b / w ≤ i → first_failing test i (drop i (cut w b)) ≡ none
  unfolding first_failing
  none_left i h = rw (cut-end w b i h)

  pub all_passing : ((i : ℕ) → i < length b / w → test (take w (drop (w * i) b)) ≡ true) → first_failing test 0 (cut w b) ≡ none
  all_passing h = go (length b / w) 0 (omega arith)
    where
      go : (m i : ℕ) → i + m ≡ length b / w → first_failing test i (drop i (cut w b)) ≡ none
      go zero i e = none_left i (omega arith)
      go (suc m) i e = let l : i < length b / w = omega arith in passing_here i true l (sym (h i l)) refl ∙ go m (i + 1) (omega arith)

-- Records that are written in w bytes each.
module _ {A : Type 0} (w : ℕ) (write : A → List ℕ) (wide : (x : A) → length (write x) ≡ w) where
  pub length_write : (xs : List A) → length (flat_map write xs) ≡ w * length xs
  unfolding flat_map
  length_write [] = omega arith
  length_write (x ∷ xs) = length-append (write x) (flat_map write xs) ∙ omega (arith, wide x, length_write xs)

  pieces_write : (xs : List A) → pieces w (length xs) (flat_map write xs) ≡ map write xs
  unfolding pieces flat_map
  pieces_write [] = refl
  pieces_write (x ∷ xs) = rw (take_at (write x) (flat_map write xs) w (wide x), drop_at (write x) (flat_map write xs) w (wide x), pieces_write xs)

  pub cut_write : 0 < w → (xs : List A) → cut w (flat_map write xs) ≡ map write xs
  unfolding cut
  cut_write h xs = rw (length_write xs, mul-div_cancel_left (length xs) h) (pieces_write xs)

  -- the bytes from a place on are those of the records from there on
  pub drop_write : (xs : List A) (j : ℕ) → drop (w * j) (flat_map write xs) ≡ flat_map write (drop j xs)
  unfolding flat_map
  drop_write xs zero = let e : w * 0 ≡ 0 = omega arith in rw e
  drop_write [] (suc j) = drop-nil (w * suc j)
  drop_write (x ∷ xs) (suc j) =
      let e : w * suc j ≡ w + w * j = omega arith in
      rw (e, ← drop-drop (w * j) w (write x ++ flat_map write xs), drop_at (write x) (flat_map write xs) w (wide x)) (drop_write xs j)

-- Records that are right: read back, they pass the test and are made of bytes.
module _ {A : Type 0} (write : A → List ℕ) (Right : A → Type 0) where
  map_read : (read : List ℕ → A) → ((x : A) → Right x → read (write x) ≡ x) → (xs : List A) → All Right xs → map read (map write xs) ≡ xs
  map_read read f [] h = refl
  map_read read f (x ∷ xs) h = rw (f x h.0, map_read read f xs h.1)

  pub read_written : (w : ℕ) → ((x : A) → length (write x) ≡ w) → 0 < w → (read : List ℕ → A) → ((x : A) → Right x → read (write x) ≡ x)
      → (xs : List A) → All Right xs → map read (cut w (flat_map write xs)) ≡ xs
  read_written w wide h read f xs k = ap (map read) (cut_write w write wide h xs) ∙ map_read read f xs k

  pub write_passes : (test : List ℕ → Bool) → ((x : A) → Right x → test (write x) ≡ true) → (xs : List A) → All Right xs → All (λ b. test b ≡ true) (map write xs)
  write_passes test f [] h = tt
  write_passes test f (x ∷ xs) h = (f x h.0, write_passes test f xs h.1)

  pub write_bytes : ((x : A) → Right x → AreBytes (write x)) → (xs : List A) → All Right xs → AreBytes (flat_map write xs)
  unfolding flat_map
  write_bytes f [] h = tt
  write_bytes f (x ∷ xs) h = all_append (λ n. n < 256) (write x) (flat_map write xs) (f x h.0) (write_bytes f xs h.1)

  -- and what is read off pieces of w bytes that pass is right, and writes them again
  module _ (w : ℕ) (read : List ℕ → A) (test : List ℕ → Bool) (passes : (b : List ℕ) → length b ≡ w → AreBytes b → test b ≡ true → (write (read b) ≡ b) × Right (read b)) where
    pieces_right : (n : ℕ) (b : List ℕ) → length b ≡ w * n → AreBytes b → All (λ x. test x ≡ true) (pieces w n b)
        → (flat_map write (map read (pieces w n b)) ≡ b) × All Right (map read (pieces w n b))
    unfolding pieces flat_map
    pieces_right zero [] h k e = (refl, tt)
    pieces_right zero (x ∷ b) h k e = absurd (omega arith)
    pieces_right (suc n) b h k e =
        let (k₁, k₂) = all_take (λ n. n < 256) w b k in
        let z : length b ≡ w * n + w = omega arith in
        let (r, p) = passes (take w b) (length-take w b ∙ omega arith) k₁ e.0 in
        let (q, l) = pieces_right n (drop w b) (length-drop w b ∙ omega arith) k₂ e.1 in
        (rw (r, q) (take-append-drop w b), (p, l))

    pub cut_right : (b : List ℕ) → length b % w ≡ 0 → AreBytes b → first_failing test 0 (cut w b) ≡ none → (flat_map write (map read (cut w b)) ≡ b) × All Right (map read (cut w b))
    unfolding cut
    cut_right b z k e = pieces_right (length b / w) b (omega (arith, div-add-mod (length b) w)) k (failing_none test 0 (pieces w (length b / w) b) e)
