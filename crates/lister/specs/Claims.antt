-- The request's claims (2026-01), of what open returns and leaves: the list is every accepted move but time, each once, in the request's order.
use Rattle.std.specs.Prelude.{◌≡◌, ◌≢◌, ◌↔◌, List, ℕ}
use Rattle.cows.specs.Limits.{max_bytes}
use Rattle.cows.specs.Basics.{same_list, accept}
use Rattle.cows.specs.Cut.{pieces}
use Rattle.cows.specs.Terms.{Term}
use Rattle.cows.specs.Format.{AreBytes, byte}
use Rattle.cows.specs.Step.{judge_step}
use Rattle.opening.specs.Opening.{IsIn, Ascending, rank, count}
use Rattle.tables.specs.declared.Reply.{Reply}

-- the moves that are listed: six bytes each from the buffer's start, as many as the reply says
abbrev pub moves_in : List ℕ → Reply → List (List ℕ)
moves_in after r = pieces 6 r.records after

-- Accepted, six bytes are listed exactly if they are no time move and a step with an output of 32,768 bytes accepts them (so 20 is not open, and output length
-- plays no part); each is listed once; they stand in the request's order. Refused, there is no record, and no byte has changed.
pub record Claims (table list after : List ℕ) (r : Reply) : Type 0 where
  pub accepted : r.answer ≡ 0 → (m : List ℕ) → AreBytes m → IsIn m (moves_in after r) ↔ ((byte m 0 ≢ 3) × (s : Term) × (judge_step table m max_bytes ≡ accept s))
  pub once : r.answer ≡ 0 → (m : List ℕ) → IsIn m (moves_in after r) → count (same_list m) (moves_in after r) ≡ 1
  pub ordered : r.answer ≡ 0 → Ascending rank (moves_in after r)
  pub refused : r.answer ≢ 0 → (r.records ≡ 0) × (after ≡ list)
