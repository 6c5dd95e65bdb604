-- The theorems about the open moves (request 2026-01), each with a short proof that cites where it is shown. (The list kind by kind: proofs/Parts.)
use mathlib.Core.Path.{◌≡◌, sym, ◌∙◌}
use mathlib.Core.Logic.{◌≢◌, ◌↔◌}
use mathlib.Core.List.{List}
use Prim.Native.Nat.{ℕ, ◌+◌, ◌*◌, ◌≤◌, ◌<◌}
use lib.ListN.{length, get_or}
use Rattle.cows.specs.Limits.{max_records, max_bytes}
use Rattle.cows.specs.Basics.{same_list, refuse, accept, ◌>>=◌}
use Rattle.cows.specs.Terms.{Term}
use Rattle.cows.specs.Format.{AreBytes, byte}
use Rattle.cows.specs.Tables.{judge}
use Rattle.cows.specs.Within.{Within}
use Rattle.cows.specs.Step.{read_move, step_term, judge_step}
use Rattle.opening.specs.Opening.{open_moves, open_list, judge_open, open_reply, open_buffer, IsIn, Ascending, rank, count}
use Rattle.opening.proofs.Lists.{once, ascending_unique}
use Rattle.opening.proofs.Opening.{listed_possible, possible_listed, on_term, open_ascend, open_few, open_room, open_short, refused_silent, buffer_behind, buffer_length}

-- Six bytes are listed if, and only if, they are no time move and the step accepts them with an output of 32,768 bytes.
pub open_accepted : (t : Term) (m : List ℕ) → AreBytes m → IsIn m (open_list t) ↔ ((byte m 0 ≢ 3) × (s : Term) × (step_term t (read_move m) max_bytes ≡ accept s))
open_accepted t m h = (listed_possible t m, possible_listed t m h)

-- the same of a well-formed table and the judged step on its bytes
pub open_judged : (table m : List ℕ) (t : Term) → judge table ≡ accept t → AreBytes m
    → IsIn m (open_list t) ↔ ((byte m 0 ≢ 3) × (s : Term) × (judge_step table m max_bytes ≡ accept s))
open_judged table m t e h = (
  (λ p. let (k, s, q) = listed_possible t m p in (k, s, on_term table m t e ∙ q)),
  λ (k, s, q). possible_listed t m h (k, s, sym (on_term table m t e) ∙ q),
)

-- Each appears exactly once.
pub open_once : (t : Term) (m : List ℕ) → Within t → IsIn m (open_list t) → count (same_list m) (open_list t) ≡ 1
open_once t m w h = once rank m (open_list t) (open_ascend t w.small) h

-- The order is the request's: by kind, then by a, then by b.
pub open_order : (t : Term) → Within t → Ascending rank (open_list t)
open_order t w = open_ascend t w.small

-- There is one such list only.
pub open_unique : (t : Term) (xs : List (List ℕ)) → Within t → Ascending rank xs → ((m : List ℕ) → IsIn m xs ↔ IsIn m (open_list t)) → xs ≡ open_list t
open_unique t xs w h f = ascending_unique rank xs (open_list t) h (open_ascend t w.small) (λ m. (f m).0) (λ m. (f m).1)

-- Their number is at most 4,202,496, so it fits the 24 bits that a packed reply has for a place.
pub open_number : (t : Term) → Within t → length (open_moves t) ≤ max_records * max_records + 4 * max_records
open_number t w = open_few t w.small

-- The operation: a table's refusal is its own. Of a well-formed table it gives the list, where the buffer has 6 bytes for each; 22 at their number, where it has not.
pub open_refused : (table : List ℕ) (room n p : ℕ) → judge table ≡ refuse n p → judge_open table room ≡ refuse n p
unfolding judge_open ◌>>=◌
open_refused table room n p e = rw e

pub open_listed : (table : List ℕ) (room : ℕ) (t : Term) → judge table ≡ accept t → 6 * length (open_moves t) ≤ room → judge_open table room ≡ accept (open_moves t)
open_listed table room t e h = open_room table room t e h

pub open_too_short : (table : List ℕ) (room : ℕ) (t : Term) → judge table ≡ accept t → room < 6 * length (open_moves t) → judge_open table room ≡ refuse 22 (length (open_moves t))
open_too_short table room t e h = open_short table room t e h

-- A refusal leaves the buffer as it was; an acceptance changes no byte behind the list, nor the buffer's length.
pub list_untouched : (table buffer : List ℕ) → (open_reply (judge_open table (length buffer))).answer ≢ 0 → open_buffer (judge_open table (length buffer)) buffer ≡ buffer
list_untouched table buffer h = refused_silent table buffer h

pub list_behind : (table buffer : List ℕ) (i : ℕ) → 6 * (open_reply (judge_open table (length buffer))).records ≤ i
    → get_or (open_buffer (judge_open table (length buffer)) buffer) i 0 ≡ get_or buffer i 0
list_behind table buffer i h = buffer_behind table buffer i h

pub list_as_long : (table buffer : List ℕ) → length (open_buffer (judge_open table (length buffer)) buffer) ≡ length buffer
list_as_long table buffer = buffer_length table buffer
