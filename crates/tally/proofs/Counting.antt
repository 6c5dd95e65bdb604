-- Tallies added are the definition's, and their sums fit in a list of at most 10,000 moves.
use mathlib.Core.Path.{◌≡◌, refl, sym, ap, ◌∙◌}
use Prim.Native.Nat.{ℕ, ◌+◌, ◌<◌, ◌≤◌}
use native.Mathlib.Omega.{arith}
use Rattle.cows.specs.Moves.{Move, Kill, Communicate, Timeout, Elapse, Unfold, Extrude}
use Rattle.cows.specs.Run.{counted, no_tally, sum, adds}
use Rattle.cows.specs.Run as meaning
use Rattle.proposals.specs.declared.Move as code
use Rattle.proposals.specs.Proposals.{move_of}
use Rattle.tally.specs.declared.Tally.{Tally}
use Rattle.tally.specs.Counted.{tally_of, sum_of, SumsFit, Small}

-- tallies are the same by their counts
tally_is : {c d : Tally} → c.communications ≡ d.communications → c.kills ≡ d.kills → c.timeouts ≡ d.timeouts → c.copied ≡ d.copied → c ≡ d
tally_is {c} {d} e f g h =
    ap (λ (n : ℕ). record { communications = n; kills = c.kills; timeouts = c.timeouts; copied = c.copied }) e
    ∙ (ap (λ (n : ℕ). record { communications = d.communications; kills = n; timeouts = c.timeouts; copied = c.copied }) f
    ∙ (ap (λ (n : ℕ). record { communications = d.communications; kills = d.kills; timeouts = n; copied = c.copied }) g
    ∙ ap (λ (n : ℕ). record { communications = d.communications; kills = d.kills; timeouts = d.timeouts; copied = n }) h))

-- A refused move counts nothing; what an accepted one adds is added.
pub sum_zeros : (c : Tally) → sum_of c (tally_of no_tally) ≡ c
unfolding sum_of counted no_tally
sum_zeros c = tally_is (omega arith) (omega arith) (omega arith) (omega arith)

pub sum-adds : (c : meaning.Tally) (l : ℕ) (v : Move) → sum_of (tally_of c) (tally_of (adds l v)) ≡ tally_of (sum c (adds l v))
unfolding sum_of sum counted
sum-adds c l v = refl

-- what the code's move m counts, which is n
pub counts_by : {m n : code.Move} (l : ℕ) {r : Tally} → m ≡ n → r ≡ tally_of (adds l (move_of n)) → r ≡ tally_of (adds l (move_of m))
counts_by l e h = h ∙ ap (λ x. tally_of (adds l (move_of x))) (sym e)

-- The bounds: they hold of zeros, of what one move counts, and behind one move more; and before each of 10,000 moves there is room.
pub zeros_small : (i : ℕ) → Small (tally_of no_tally) i
unfolding counted no_tally
zeros_small i = record { communications_small = omega arith; kills_small = omega arith; timeouts_small = omega arith; copied_small = omega arith }

counted_small : (m k e l : ℕ) → m ≤ 1 → k ≤ 1 → e ≤ 1 → l ≤ 2048 → Small (tally_of (counted m k e l)) 1
unfolding counted
counted_small m k e l h i j n = record { communications_small = h; kills_small = i; timeouts_small = j; copied_small = omega arith }

pub adds_small : (l : ℕ) (v : Move) → l ≤ 2048 → Small (tally_of (adds l v)) 1
unfolding adds
adds_small l (Kill a) h = counted_small 0 1 0 l (omega arith) (omega arith) (omega arith) h
adds_small l (Communicate a b) h = counted_small 1 0 0 l (omega arith) (omega arith) (omega arith) h
adds_small l (Timeout a) h = counted_small 0 0 1 l (omega arith) (omega arith) (omega arith) h
adds_small l (Elapse d) h = counted_small 0 0 0 l (omega arith) (omega arith) (omega arith) h
adds_small l (Unfold a) h = counted_small 0 0 0 l (omega arith) (omega arith) (omega arith) h
adds_small l (Extrude a) h = counted_small 0 0 0 l (omega arith) (omega arith) (omega arith) h

module _ (c d : Tally) (i : ℕ) (s : Small c i) (one : Small d 1) where
  pub sum_small : Small (sum_of c d) (i + 1)
  unfolding sum_of
  sum_small = record { communications_small = omega arith; kills_small = omega arith; timeouts_small = omega arith; copied_small = omega arith }

  pub small_room : i < 10000 → SumsFit c d
  small_room h = record { communications_fit = omega arith; kills-fit = omega arith; timeouts_fit = omega arith; copied_fits = omega arith }
