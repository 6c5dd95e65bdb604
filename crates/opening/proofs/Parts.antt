-- The list by its parts, as code writes it: kind by kind, and place by place from here on.
use mathlib.Core.Path.{◌≡◌, refl, ap, ◌∙◌}
use mathlib.Core.Bool.{Bool, false, cond}
use mathlib.Core.List.{List, [], ◌∷◌, ◌++◌, map}
use Prim.Native.Nat.{ℕ, zero, suc, ◌+◌, ◌-◌, ◌≤◌, ◌<◌}
use native.Mathlib.Omega.{arith}
use native.Mathlib.Numerals.{add-one}
use Rattle.cows.specs.Terms.{Term, size}
use Rattle.cows.specs.Moves.{Move, Kill, Communicate, Timeout, Unfold, Extrude}
use Rattle.opening.specs.Opening.{up_from, filter, each, is_open, candidates, open_moves}
use Rattle.opening.proofs.Lists.{filter_append, filter_map, filter-each}
use Rattle.opening.proofs.Opening.{meetings, behind_timeouts, behind_meetings, behind-kills}

-- The open moves, kind by kind: only the tests are left to be found.
abbrev pub solo : Term → (ℕ → Move) → List Move
solo t f = map f (filter (λ a. is_open t (f a)) (up_from 0 (size t)))

abbrev pub paired : Term → List Move
paired t = each (λ a. map (Communicate a) (filter (λ b. is_open t (Communicate a b)) (up_from 0 (size t)))) (up_from 0 (size t))

pub open_parts : (t : Term) → open_moves t ≡ solo t Kill ++ (paired t ++ (solo t Timeout ++ (solo t Unfold ++ solo t Extrude)))
unfolding open_moves candidates
open_parts t =
    let n = size t in
    let ps = up_from 0 n in
    filter_append (is_open t) (map Kill ps) (behind-kills n)
    ∙ rw (
      filter_map (is_open t) Kill ps,
      filter_append (is_open t) (meetings n) (behind_meetings n),
      filter-each (is_open t) Communicate ps ps,
      filter_append (is_open t) (map Timeout ps) (behind_timeouts n),
      filter_map (is_open t) Timeout ps,
      filter_append (is_open t) (map Unfold ps) (map Extrude ps),
      filter_map (is_open t) Unfold ps,
      filter_map (is_open t) Extrude ps,
    )

-- For loops: the places below n from place j on that pass. One place more, none left, places passed over; another test that agrees.
abbrev pub from : (ℕ → Bool) → ℕ → ℕ → List ℕ
from f j n = filter f (up_from j (n - j))

pub filter-next : (f : ℕ → Bool) (j n : ℕ) → j < n → from f j n ≡ cond (f j) (j ∷ from f (j + 1) n) (from f (j + 1) n)
unfolding filter up_from
filter-next f j n l = let e : n - j ≡ suc (n - (j + 1)) = omega arith in rw (e, add-one j)

pub filter-end : (f : ℕ → Bool) (j n : ℕ) → n ≤ j → from f j n ≡ []
unfolding filter up_from
filter-end f j n l = let e : n - j ≡ 0 = omega arith in rw e

skip : (f : ℕ → Bool) (j k m : ℕ) → ((i : ℕ) → j ≤ i → i < j + k → f i ≡ false) → filter f (up_from j (k + m)) ≡ filter f (up_from (j + k) m)
unfolding filter up_from
skip f j zero m h = let e : 0 + m ≡ m = omega arith in let z : j + 0 ≡ j = omega arith in rw (e, z)
skip f j (suc k) m h =
    let e : suc k + m ≡ suc (k + m) = omega arith in
    let z : suc j + k ≡ j + suc k = omega arith in
    rw (e, h j (omega arith) (omega arith)) (skip f (suc j) k m (λ i l u. h i (omega arith) (omega arith)) ∙ ap (λ p. filter f (up_from p m)) z)

pub filter_skip : (f : ℕ → Bool) (j m n : ℕ) → j ≤ m → m ≤ n → ((i : ℕ) → j ≤ i → i < m → f i ≡ false) → from f j n ≡ from f m n
filter_skip f j m n h l k =
    let e : n - j ≡ (m - j) + (n - m) = omega arith in
    let z : j + (m - j) ≡ m = omega arith in
    ap (λ i. filter f (up_from j i)) e ∙ (skip f j (m - j) (n - m) (λ i p q. k i p (omega arith)) ∙ ap (λ p. filter f (up_from p (n - m))) z)

filter-agree : (f g : ℕ → Bool) (j k : ℕ) → ((i : ℕ) → j ≤ i → i < j + k → f i ≡ g i) → filter f (up_from j k) ≡ filter g (up_from j k)
unfolding filter up_from
filter-agree f g j zero h = refl
filter-agree f g j (suc k) h = rw (h j (omega arith) (omega arith), filter-agree f g (suc j) k (λ i l u. h i (omega arith) (omega arith)))

pub filter_same : (f g : ℕ → Bool) (n : ℕ) → ((i : ℕ) → i < n → f i ≡ g i) → filter f (up_from 0 n) ≡ filter g (up_from 0 n)
filter_same f g n h = filter-agree f g 0 n (λ i l u. h i (omega arith))
