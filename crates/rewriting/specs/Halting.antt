-- Halting along the way to a kill, by recursion on the term: what a firing kill leaves of the term inside its delimitation.
use Rattle.std.specs.Prelude.{cond, List, ◌≡◌, ℕ, zero, suc, ◌*◌, ◌/◌, ◌%◌, ◌-◌, ◌≤◌, ◌<◌, ltb, get_or}
use Rattle.cows.specs.Terms.{nil, Term, leaf, under, both, size}
use Rattle.cows.specs.Moves.{halt}
use Rattle.rewriting.specs.Aligned.{Aligned}

-- the record at place n becomes nil, and what stands beside the way down to it is halted
unfoldable pub halt_aside : ℕ → Term → Term
halt_aside n (leaf x) = leaf nil
halt_aside zero (under u t) = leaf nil
halt_aside (suc n) (under u t) = under u (halt_aside n t)
halt_aside zero (both j s t) = leaf nil
halt_aside (suc n) (both j s t) =
    cond (ltb n (size s)) (both j (halt_aside n s) (halt t)) (both j (halt s) (halt_aside (n - size s) t))

-- the place of byte a in the term at byte i
abbrev pub place_in : ℕ → ℕ → ℕ
place_in i a = (a - i) / 16

-- By the ends of terms, byte a is the first byte of a place of the term at byte i.
pub record PlaceOf (s ends : List ℕ) (i a : ℕ) : Type 0 where
  pub at : Aligned s ends i
  pub from : i ≤ a
  pub before : a < 16 * get_or ends (i / 16) 0
  pub whole : a % 16 ≡ 0
