-- The judgement of a table with so many ticks (specs/Ticks), one law for each case.
use Rattle.std.proofs.Common.{◌≡◌, ℕ, ◌<◌, ◌≤◌, List, refl, arith, le-ltb, lt-ltb, ne_eqb, le-leb}
use borrow.Author.Tests.{lt-leb}
use Rattle.cows.specs.Basics.{Result, refuse, accept, place_if, ◌>>=◌, ◌>>◌, forbid}
use Rattle.cows.specs.Terms.{Term}
use Rattle.cows.specs.Tables.{judge}
use Rattle.cows.specs.Step.{fitted, judge_step}
use Rattle.cows.specs.Papers.{time}
use Rattle.ticks.specs.Ticks.{gone_back, longest_time, judge_elapsed}

module _ (table : List ℕ) (d room : ℕ) where
  pub table_elapsed : (n p : ℕ) → judge table ≡ refuse n p → judge_elapsed table d room ≡ refuse n p
  unfolding judge_elapsed ◌>>=◌
  table_elapsed n p e = rw e

  pub back_elapsed : (t : Term) → judge table ≡ accept t → gone_back ≤ d → judge_elapsed table d room ≡ refuse 23 0
  unfolding judge_elapsed ◌>>=◌ ◌>>◌ forbid place_if
  back_elapsed t e h = rw (e, le-leb gone_back d h)

  pub long_elapsed : (t : Term) → judge table ≡ accept t → longest_time < d → d < gone_back → judge_elapsed table d room ≡ refuse 24 0
  unfolding judge_elapsed ◌>>=◌ ◌>>◌ forbid place_if
  long_elapsed t e h k = rw (e, lt-leb gone_back d k, lt-ltb longest_time d h)

  pub none_elapsed : (t : Term) → judge table ≡ accept t → d ≡ 0 → judge_elapsed table d room ≡ fitted room t
  unfolding judge_elapsed ◌>>=◌ ◌>>◌ forbid place_if
  none_elapsed t e z = rw (e, z)

  -- a time is the step's own, whatever the table is
  pub time_elapsed : 1 ≤ d → d ≤ longest_time → judge_elapsed table d room ≡ judge_step table (time d) room
  unfolding judge_elapsed ◌>>=◌ ◌>>◌ forbid place_if
  time_elapsed h k = go (judge table) refl
    where
      go : (x : Result Term) → judge table ≡ x → judge_elapsed table d room ≡ judge_step table (time d) room
      go (refuse n p) e = unfold judge_step in rw e
      go (accept t) e = rw (e, lt-leb gone_back d (omega arith), le-ltb longest_time d k, ne_eqb d 0 (λ z. omega (arith, z)))
