-- The roles that are left, from the first place to the last.
use mathlib.Core.Path.{◌≡◌, ◌∙◌}
use mathlib.Core.Bool.{cond, ◌&&◌, ◌||◌}
use mathlib.Core.List.{List}
use Prim.Native.Nat.{ℕ, ◌+◌, ◌≤◌, ◌<◌}
use native.Mathlib.Omega.{arith}
use lib.Dec.{ltb, eqb}
use lib.ListN.{length, get_or, set}
use lib.Seq.{get_or-set_same, get_or-set_other}
use borrow.Author.Tests.{lt-ltb, le-ltb}
use Rattle.cows.specs.Limits.{max_depth}
use Rattle.cows.specs.Terms.{Term, size, depth}
use Rattle.cows.proofs.Basics.{lt_case}
use Rattle.ways.specs.Known.{Table}
use Rattle.roles.specs.declared.Role.{Role}
use Rattle.roles.specs.declared.Role.TheVariants.{Idle, Unfold, Extrude}
use Rattle.roles.specs.Roles.{is_role, role_at, role_of, open_role, Cast}
use Rattle.deepest.specs.Deepest.{Telling}
use Rattle.deepest.proofs.Shallow.{left_role, shallow_role}
use Rattle.deepest.proofs.Telling.{within, level_here, height_here, side_here}

-- Every place has its role; below place i only what is left of it.
abbrev pub Roles : Term → List Role → Type 0
Roles t cast = (n : ℕ) → n < size t → role_at cast n ≡ role_of t n

abbrev pub Casting : Term → List Role → ℕ → Type 0
Casting t cast i = (n : ℕ) → n < size t → role_at cast n ≡ cond (ltb n i) (open_role t n) (role_of t n)

pub casting_start : (t : Term) (cast : List Role) → Roles t cast → Casting t cast 0
casting_start t cast h n l = rw (le-ltb n 0 (omega arith)) (h n l)

casting_set : (t : Term) (cast : List Role) (i : ℕ) (r : Role) → Casting t cast i → i < length cast → r ≡ open_role t i → Casting t (set cast i r) (i + 1)
casting_set t cast i r h l e n k =
    lt_case _ n i
    (λ a. rw (get_or-set_other cast i n r Idle (λ z. omega arith), lt-ltb n (i + 1) (omega arith)) (rw (lt-ltb n i a) at (h n k)))
    (λ a.
    lt_case _ i n
    (λ b. rw (get_or-set_other cast i n r Idle (λ z. omega arith), le-ltb n (i + 1) (omega arith)) (rw (le-ltb n i a) at (h n k)))
    (λ b. let z : n ≡ i = omega arith in rw (z, get_or-set_same cast i r Idle l, lt-ltb i (i + 1) (omega arith)) e))

-- x, y and z are the numbers found for place i
pub casting_turn : {s ends heights levels sides : List ℕ} {i : ℕ} (q : Telling s ends heights levels sides i) (t : Term) → Table s ends t → (cast : List Role) → Casting t cast i → i < length cast
    → (x y z : ℕ) (r : Role) → x ≡ get_or levels i 0 → y ≡ get_or heights i 0 → z ≡ get_or sides i 0
    → r ≡ cond ((is_role (role_at cast i) Unfold && eqb (x + y) max_depth) || (is_role (role_at cast i) Extrude && eqb z max_depth)) Idle (role_at cast i)
    → Casting t (set cast i r) (i + 1)
casting_turn {i = i} q t h cast c l x y z r e f g k =
    let o : role_at cast i ≡ role_of t i = rw (le-ltb i i (omega arith)) at (c i (within q t h)) in
    casting_set t cast i r c l (k ∙ left_role t i (role_at cast i) x y z o (e ∙ level_here q t h) (f ∙ height_here q t h) (g ∙ side_here q t h))

pub casting_end : (t : Term) (cast : List Role) (i : ℕ) → Casting t cast i → size t ≤ i → Cast t cast
casting_end t cast i h l n k = rw (lt-ltb n i (omega arith)) at (h n k)

pub shallow_cast : (t : Term) (cast : List Role) → depth t < max_depth → Roles t cast → Cast t cast
shallow_cast t cast d h n l = rw (shallow_role t n d) (h n l)
