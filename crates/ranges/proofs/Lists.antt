-- Laws of lists of places: what holds at every place of a list.
use Rattle.std.proofs.Common.{◌≡◌, ℕ, ◌*◌, ◌<◌, ◌≤◌, Bool, true, false, List, length, get_or, take, refl, subst, ◌∙◌, le-leb, arith, length-take-le, get_or-take}
use mir.Val.{bool_byte}
use Rattle.cows.proofs.Basics.{never, true_and}
use Rattle.ranges.specs.Lists.{Listed}

-- a test as a number
pub test_number : (b : Bool) → (bool_byte b ≤ 1) × (b ≡ true → bool_byte b ≡ 1)
test_number true = (omega arith, λ e. refl)
test_number false = (omega arith, never)

-- a list cut behind its last place
pub listed_cut : (s : List ℕ) (x y : ℕ) (list : List ℕ) (n m : ℕ) → m ≤ length list → Listed s x y list n m → Listed s x y (take m list) n (length (take m list))
listed_cut s x y list n m l h =
    let same : (q : ℕ) → q < m → get_or (take m list) q 0 ≡ get_or list q 0 = λ q k. get_or-take m list q 0 k in
    rw (length-take-le m list l) (record {
      few = h.few;
      inside = λ q k. rw (same q k) (h.inside q k);
      only = λ q k. rw (same q k) (h.only q k);
      all = λ j k p. let (q, u, v) = h.all j k p in (q, u, same q u ∙ v);
    })

-- what holds at every place of the list holds at every place of the kinds
pub listed_all : (s : List ℕ) (x y : ℕ) (list : List ℕ) (n m : ℕ) (P : ℕ → Type 0) → Listed s x y list n m → ((q : ℕ) → q < m → P (get_or list q 0))
    → (j : ℕ) → j < n → x ≤ get_or s (16 * j) 0 → get_or s (16 * j) 0 ≤ y → P j
listed_all s x y list n m P h f j l lo hi = let (q, u, v) = h.all j l (true_and (le-leb x _ lo) (le-leb _ y hi)) in subst P v (f q u)
