-- The scan with a stack of depths (specs/Nesting) finds what refusal 31 defines (orc, specs/Scripts, misplaced).
use mathlib.Core.Path.{◌≡◌, refl, ap, ◌∙◌}
use mathlib.Core.Bool.{Bool, true, false, cond}
use mathlib.Core.Option.{Option, some}
use mathlib.Core.List.{List, [], ◌∷◌, ◌++◌}
use Prim.Native.Nat.{ℕ, suc, ◌+◌}
use native.Mathlib.Omega.{arith}
use native.Mathlib.Nat.{add-zero, zero-add}
use borrow.Author.Tests.{lt-ltb, le-ltb}
use lib.Dec.{ltb}
use lib.ListN.{length, replicate, length-append, length-replicate}
use Rattle.cows.specs.Basics.{place_if, or_else}
use Rattle.cows.specs.Tables.{end_of, wrong_end}
use Rattle.orc.specs.Expressions.{max_nesting}
use Rattle.orc.specs.Scripts.{OrcNode, parts, first_deep, misplaced}
use Rattle.nesting.specs.Nesting.{scan}

-- the place of a wrong shape, where the records rs start at place n and w expressions are to come
abbrev wrong_shape : (w n : ℕ) → List OrcNode → Option ℕ
wrong_shape w n rs = wrong_end (n + length rs) (end_of parts w n rs)

-- one record: too deep here, or else what is behind it
here : (b : Bool) (n : ℕ) (o p q : Option ℕ) → o ≡ or_else p q → cond b (some n) o ≡ or_else (or_else (place_if b n) p) q
unfolding or_else place_if
here true n o p q e = refl
here false n o p q e = e

wanted : (c d : ℕ) (ds : List ℕ) → length (replicate c d ++ ds) ≡ c + length ds
wanted c d ds = length-append (replicate c d) ds ∙ ap (λ m. m + length ds) (length-replicate c d)

scan-first : (ds : List ℕ) (n : ℕ) (rs : List OrcNode) → scan ds n rs ≡ or_else (first_deep ds n rs) (wrong_shape (length ds) n rs)
unfolding scan first_deep or_else end_of wrong_end place_if
scan-first [] n [] = rw (add-zero n, le-ltb n n (omega arith))
scan-first [] n (r ∷ rs) = rw (lt-ltb n (n + suc (length rs)) (omega arith))
scan-first (d ∷ ds) n [] = rw (add-zero n)
scan-first (d ∷ ds) n (r ∷ rs) =
    let e : suc n + length rs ≡ n + suc (length rs) = omega arith in
    here (ltb max_nesting d) n _ _ _ (scan-first (replicate (parts r) (suc d) ++ ds) (suc n) rs ∙ rw (e, wanted (parts r) (suc d) ds))

pub scan-misplaced : (rs : List OrcNode) → scan (1 ∷ []) 0 rs ≡ misplaced rs
unfolding misplaced
scan-misplaced rs = scan-first (1 ∷ []) 0 rs ∙ rw (zero-add (length rs))
