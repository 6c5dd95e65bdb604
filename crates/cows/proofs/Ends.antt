-- Where terms end (specs/Tables, end_of), in records of any kind: no term, one, one behind the other; bounds; what counts is the numbers of children; the shape.
use mathlib.Core.Path.{◌≡◌, refl, sym, ap, ◌∙◌}
use mathlib.Core.Option.{Option, none, some}
use mathlib.Core.List.{List, [], ◌∷◌, map, ◌++◌}
use Prim.Native.Nat.{ℕ, zero, suc, ◌+◌, ◌-◌, ◌≤◌}
use native.Mathlib.Omega.{arith}
use native.Mathlib.Nat.{zero-add, suc-add, sub_self, add-zero}
use lib.Dec.{ltb}
use lib.ListN.{length, drop}
use borrow.Author.Tests.{ltb-false}
use Rattle.cows.specs.Tables.{end_of, wrong_end}
use Rattle.cows.specs.Basics.{All}
use Rattle.cows.proofs.Basics.{same_some, place_if-none}

-- what is not there
pub none-some : {P : Type 0} {x : ℕ} → ◌≡◌ {A = Option ℕ} none (some x) → P
none-some e = let z : ◌≡◌ {A = ℕ} 0 1 = cc in absurd (omega arith)

module _ {A : Type 0} (wants : A → ℕ) where
  pub end_none : (n : ℕ) (rs : List A) → end_of wants 0 n rs ≡ some n
  unfolding end_of
  end_none n [] = refl
  end_none n (r ∷ rs) = refl

  pub end_one : (n : ℕ) (r : A) (rs : List A) (c : ℕ) → wants r ≡ c → end_of wants 1 n (r ∷ rs) ≡ end_of wants c (suc n) rs
  unfolding end_of
  end_one n r rs c e = ap (λ w. end_of wants w (suc n) rs) (let z : wants r + 0 ≡ c = omega arith in z)

  pub end_bounds : (w n : ℕ) (rs : List A) (e : ℕ) → end_of wants w n rs ≡ some e → (n ≤ e) × (e ≤ n + length rs)
  unfolding end_of
  end_bounds zero n [] e h = omega (arith, same_some h)
  end_bounds zero n (r ∷ rs) e h = omega (arith, same_some h)
  end_bounds (suc w) n [] e h = none-some h
  end_bounds (suc w) n (r ∷ rs) e h = omega (arith, end_bounds (wants r + w) (suc n) rs e h)

  -- a terms, and w terms behind them
  pub end_add : (a w n : ℕ) (rs : List A) (e : ℕ) → end_of wants a n rs ≡ some e → end_of wants (a + w) n rs ≡ end_of wants w e (drop (e - n) rs)
  unfolding end_of
  end_add zero w n [] e h = rw (← same_some h, sub_self n, zero-add w)
  end_add zero w n (r ∷ rs) e h = rw (← same_some h, sub_self n, zero-add w)
  end_add (suc a) w n [] e h = none-some h
  end_add (suc a) w n (r ∷ rs) e h =
      let p : wants r + (a + w) ≡ wants r + a + w = omega arith in
      let q : e - n ≡ suc (e - suc n) = omega (arith, end_bounds (wants r + a) (suc n) rs e h) in
      ap (λ m. end_of wants m n (r ∷ rs)) (suc-add a w)
      ∙ (ap (λ m. end_of wants m (suc n) rs) p ∙ (end_add (wants r + a) w (suc n) rs e h ∙ ap (λ k. end_of wants w e (drop k (r ∷ rs))) (sym q)))

  pub end_short : (a w n : ℕ) (rs : List A) → end_of wants a n rs ≡ none → end_of wants (a + w) n rs ≡ none
  unfolding end_of
  end_short zero w n [] h = none-some (sym h)
  end_short zero w n (r ∷ rs) h = none-some (sym h)
  end_short (suc a) w n [] h = rw (suc-add a w)
  end_short (suc a) w n (r ∷ rs) h =
      let p : wants r + (a + w) ≡ wants r + a + w = omega arith in
      ap (λ m. end_of wants m n (r ∷ rs)) (suc-add a w) ∙ (ap (λ m. end_of wants m (suc n) rs) p ∙ end_short (wants r + a) w (suc n) rs h)

  -- the records of a terms, and others behind them
  pub end_append : (a w n : ℕ) (rs ns : List A) → end_of wants a n rs ≡ some (n + length rs) → end_of wants (a + w) n (rs ++ ns) ≡ end_of wants w (n + length rs) ns
  unfolding end_of
  end_append zero w n [] ns h = rw (zero-add w, add-zero n)
  end_append zero w n (r ∷ rs) ns h = absurd (omega (arith, same_some h))
  end_append (suc a) w n [] ns h = none-some h
  end_append (suc a) w n (r ∷ rs) ns h =
      let p : wants r + (a + w) ≡ wants r + a + w = omega arith in
      let q : n + suc (length rs) ≡ suc n + length rs = omega arith in
      ap (λ m. end_of wants m n (r ∷ (rs ++ ns))) (suc-add a w)
      ∙ (ap (λ m. end_of wants m (suc n) (rs ++ ns)) p ∙ (end_append (wants r + a) w (suc n) rs ns (h ∙ ap some q) ∙ ap (λ m. end_of wants w m ns) (sym q)))

-- what counts is the numbers of children
pub end-map : {A B : Type 0} (f : A → ℕ) (g : B → ℕ) (q : A → B) (w n : ℕ) (rs : List A) → All (λ r. f r ≡ g (q r)) rs → end_of f w n rs ≡ end_of g w n (map q rs)
unfolding end_of
end-map f g q zero n [] h = refl
end-map f g q zero n (r ∷ rs) h = refl
end-map f g q (suc w) n [] h = refl
end-map f g q (suc w) n (r ∷ rs) h = ap (λ m. end_of f (m + w) (suc n) rs) h.0 ∙ end-map f g q (g (q r) + w) (suc n) rs h.1

-- nothing is wrong with an end that is the number of records, and with no other
pub end_right : (n : ℕ) (o : Option ℕ) → ((e : ℕ) → o ≡ some e → e ≤ n) → wrong_end n o ≡ none → o ≡ some n
unfolding wrong_end
end_right n none l h = sym h
end_right n (some e) l h = ap some (let z : e ≡ n = omega (arith, l e refl, ltb-false e n (place_if-none (ltb e n) e h)) in z)
