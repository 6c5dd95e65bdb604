-- The first record that is too deep in the term at a place, by the terms below it.
use mathlib.Core.Bool.{true, false}
use mathlib.Core.Path.{◌≡◌, refl, sym, ◌∙◌}
use mathlib.Core.Logic.{◌≢◌}
use mathlib.Core.List.{List}
use mathlib.Core.Option.{Option, none, some}
use Prim.Native.Nat.{ℕ, ◌+◌, ◌*◌, ◌≤◌, ◌<◌}
use native.Mathlib.Omega.{arith}
use lib.ListN.{get_or}
use borrow.Author.Tests.{lt-ltb, le-ltb}
use Rattle.cows.specs.Basics.{place_if, or_else}
use Rattle.cows.specs.Terms.{Term, leaf, under, both, size}
use Rattle.cows.specs.Kinds.{children_of}
use Rattle.std.specs.Prelude as rust
use Rattle.std.specs.Prelude.{Some, None}
use Rattle.records.specs.Answers.{found_of}
use Rattle.records.specs.Rewrites.{StandsIn}
use Rattle.std.specs.Option.{is_some}
use Rattle.cows.proofs.Basics.{never}
use Rattle.records.proofs.StandsIn.{stands_children, stands_under, stands_left}
use Rattle.depths.specs.Depths.{Standing, deep_in}
use Rattle.depths.proofs.Deep.{first, second}

-- what code says of the term at place i, whose own record has the depth d
abbrev pub FirstDeep : List ℕ → ℕ → ℕ → rust.Option ℕ → Type 0
FirstDeep s i d r = (t : Term) → StandsIn s (16 * i) t → r ≡ found_of (deep_in d i t)

pub deep_here : (s : List ℕ) (i d : ℕ) → 256 < d → FirstDeep s i d (Some i)
unfolding deep_in place_if or_else
deep_here s i d h (leaf x) k = rw (lt-ltb 256 d h)
deep_here s i d h (under u t) k = rw (lt-ltb 256 d h)
deep_here s i d h (both j l r) k = rw (lt-ltb 256 d h)

-- of two searches one behind the other: the first found something, or only the second can
some_first : (x : rust.Option ℕ) (a b : Option ℕ) → is_some x ≡ true → x ≡ found_of a → x ≡ found_of (or_else a b)
unfolding or_else
some_first x none b t e = never (rw e at t)
some_first x (some p) b t e = e

none_first : (x : rust.Option ℕ) (a b : Option ℕ) → is_some x ≡ false → x ≡ found_of a → or_else a b ≡ b
unfolding or_else
none_first x none b t e = refl
none_first x (some p) b t e = never (sym (rw e at t))

-- The record at place i has c children and is not too deep.
module _ (s ends : List ℕ) (i d c : ℕ) (q : Standing s ends i) (k : c ≡ children_of (get_or s (16 * i) 0)) (low : d ≤ 256) where
  below : (t : Term) → StandsIn s (16 * i + 16) t → StandsIn s (16 * (i + 1)) t
  below t h = first s ends i c q k t h

  pub deep-leaf : c ≡ 0 → FirstDeep s i d None
  unfolding deep_in place_if
  deep-leaf e (leaf x) h = rw (le-ltb 256 d low)
  deep-leaf e (under u t) h = absurd (omega (arith, stands_children (under u t) h))
  deep-leaf e (both o l r) h = absurd (omega (arith, stands_children (both o l r) h))

  module _ (x : rust.Option ℕ) (f : FirstDeep s (i + 1) (d + 1) x) where
    pub deep_one : c ≡ 1 → FirstDeep s i d x
    unfolding deep_in place_if or_else
    deep_one e (leaf y) h = absurd (omega (arith, stands_children (leaf y) h))
    deep_one e (under u t) h = rw (le-ltb 256 d low) (f t (below t (stands_under u t h)))
    deep_one e (both o l r) h = absurd (omega (arith, stands_children (both o l r) h))

    module _ (no : c ≢ 0) (not : c ≢ 1) where
      pub deep-left : is_some x ≡ true → FirstDeep s i d x
      unfolding deep_in place_if or_else
      deep-left e (leaf y) h = absurd (no (k ∙ stands_children (leaf y) h))
      deep-left e (under u t) h = absurd (not (k ∙ stands_children (under u t) h))
      deep-left e (both o l r) h = rw (le-ltb 256 d low) (some_first x (deep_in (d + 1) (i + 1) l) (deep_in (d + 1) (i + 1 + size l) r) e (f l (below l (stands_left o l r h))))

      pub deep_right : is_some x ≡ false → (p : ℕ) → p ≡ get_or ends (i + 1) 0 → (y : rust.Option ℕ) → FirstDeep s p (d + 1) y → FirstDeep s i d y
      unfolding deep_in place_if or_else
      deep_right e p at y g (leaf z) h = absurd (no (k ∙ stands_children (leaf z) h))
      deep_right e p at y g (under u t) h = absurd (not (k ∙ stands_children (under u t) h))
      deep_right e p at y g (both o l r) h =
          let (z, w) = second s ends i c q k no not p at o l r h in
          rw (le-ltb 256 d low, none_first x (deep_in (d + 1) (i + 1) l) (deep_in (d + 1) (i + 1 + size l) r) e (f l (below l (stands_left o l r h))), ← z) (g r w)
