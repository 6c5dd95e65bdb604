-- The kills of a list fired singly, one after the other, each place carried along by its record (2026-06); lists in another order; and what kills halt.
use Rattle.std.specs.Prelude.{cond, List, [], ◌∷◌, ℕ, zero, suc, ◌+◌, ◌-◌, ltb}
use mathlib.Core.Option.{some}
use Rattle.cows.specs.Basics.{Result, accept, ◌>>=◌}
use Rattle.cows.specs.Terms.{Term, leaf, under, both, size}
use Rattle.cows.specs.Moves.{Kill, after_kill}
use Rattle.cows.specs.Step.{step_term}
use Rattle.cows.specs.Load.{lost}
use Rattle.joint.specs.Joint.{label_at}

-- Where the record at place n of t stands in s, which a kill has left of t: it made nil of some terms, and changed nothing else. The record has the same way in s; one
-- that has become nil, or stood below such a one, is carried to that nil.
unfoldable pub carried : (t s : Term) → ℕ → ℕ
carried (leaf x) s n = 0
carried (under u t) (leaf y) n = 0
carried (under u t) (under v s) zero = 0
carried (under u t) (under v s) (suc n) = suc (carried t s n)
carried (under u t) (both i q s) n = 0
carried (both j r t) (leaf y) n = 0
carried (both j r t) (under v s) n = 0
carried (both j r t) (both i q s) zero = 0
carried (both j r t) (both i q s) (suc n) = suc (cond (ltb n (size r)) (carried r q n) (size q + carried t s (n - size r)))

-- The kills of a list, each a step of its own with room for so many bytes; c carries a place of the first table along to where its record stands now.
unfoldable pub fire : (room : ℕ) → (ℕ → ℕ) → Term → List ℕ → Result Term
fire room c t [] = accept t
fire room c t (a ∷ ps) = do
  s ← step_term t (some (Kill (c a))) room
  fire room (λ n. carried t s (c n)) s ps

unfoldable pub fire_singly : (room : ℕ) → Term → List ℕ → Result Term
fire_singly room t ps = fire room (λ n. n) t ps

-- The same places in another order.
pub data Permuted : List ℕ → List ℕ → Type 0 where
  empty : Permuted [] []
  keep : {a : ℕ} {ps qs : List ℕ} → Permuted ps qs → Permuted (a ∷ ps) (a ∷ qs)
  swap : {a b : ℕ} {ps : List ℕ} → Permuted (a ∷ b ∷ ps) (b ∷ a ∷ ps)
  next : {ps qs rs : List ℕ} → Permuted ps qs → Permuted qs rs → Permuted ps rs

-- The load that the kills of a list halt, themselves not counted: what each would halt alone on the table before.
unfoldable pub halted : Term → List ℕ → ℕ
halted t [] = 0
halted t (a ∷ ps) = lost t (Kill a) + halted t ps

-- The records that a kill takes away; those that the kills of a list do, each on the table before.
abbrev pub gone_by : Term → ℕ → ℕ
gone_by t a = size t - size (after_kill (label_at t a) t a)

abbrev pub gone_by_all : Term → List ℕ → ℕ
gone_by_all t [] = 0
gone_by_all t (a ∷ ps) = gone_by t a + gone_by_all t ps

-- (for computed checks) to unfold this is to unfold every definition of this file
unfoldable pub open_singly : Unit {0}
unfolding carried fire fire_singly halted
open_singly = tt
