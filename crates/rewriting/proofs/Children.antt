-- One step of a recursion that copies the first record of a term, once for every f: what the children are asked, and what is given when they are rewritten.
use mathlib.Core.Path.{◌≡◌}
use mathlib.Core.Logic.{◌≢◌}
use mathlib.Core.List.{List}
use Prim.Native.Nat.{ℕ, ◌+◌, ◌≤◌}
use native.Mathlib.Omega.{arith}
use lib.ListN.{length, take, drop, get_or}
use Rattle.cows.specs.Terms.{Term}
use Rattle.cows.specs.Kinds.{root, children_of}
use Rattle.cows.specs.Format.{record16}
use Rattle.cows.proofs.Rows.{children_few, length_record16}
use Rattle.records.specs.Rewrites.{put, StandsIn, Rewritable, Rewrites}
use Rattle.records.proofs.Rewrites.{record_copied, Step, first_asks, second_asks, one_gives, both_gives}
use Rattle.rewriting.specs.Aligned.{Aligned}
use Rattle.rewriting.proofs.Aligned.{first_placed, second_placed}

-- the first record of a term, of 16 bytes
abbrev pub head : Term → List ℕ
head t = record16 (root t)

pub length_head : (t : Term) → length (head t) ≡ 16
length_head t = length_record16 (root t)

-- A branch that knows K of the term read, and that it is no leaf.
module _ (f g k : Term → Term) (K : Term → Type 0) (step : (t : Term) → K t → Step f g k (head t) t)
    {s ends : List ℕ} {i : ℕ} {d : List ℕ} {j : ℕ} (r : Rewritable f s i d j) (l : Aligned s ends i) (know : (t : Term) → StandsIn s i t → K t) (some : 1 ≤ children_of (get_or s i 0)) where
  pub first_child : {d' : List ℕ} {j' : ℕ} → j' ≡ j + 16 → length d' ≡ length d → Rewritable g s (i + 16) d' j' × Aligned s ends (i + 16)
  first_child at keep = (first_asks f g k head K 16 length_head step r know some at keep, first_placed l)

  module _ {d' e : List ℕ} {j' p q : ℕ} (w : Rewrites g s (i + 16) d' j' e p q) (at : j' ≡ j + 16) where
    pub second_child : children_of (get_or s i 0) ≡ 2 → length e ≡ length d → Rewritable k s p e q × Aligned s ends p
    second_child c keep = (second_asks f g k head K 16 length_head step r w know c at keep, second_placed l r w c)

    pub two_children : {e' : List ℕ} {p' q' : ℕ} → children_of (get_or s i 0) ≡ 2 → d' ≡ put d j (take 16 (drop i s)) → Rewrites k s p e q e' p' q' → Rewrites f s i d j e' p' q'
    two_children c x v = both_gives f g k head K 16 length_head step (record_copied d j x) w v know c at

    pub one_child : children_of (get_or s i 0) ≢ 2 → d' ≡ put d j (take 16 (drop i s)) → Rewrites f s i d j e p q
    one_child c x = one_gives f g k head K 16 length_head step (record_copied d j x) w know (omega (arith, children_few (get_or s i 0))) at
