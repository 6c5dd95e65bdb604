-- Elapse (specs/Moves, elapse_by) as it is judged and written.
use mathlib.Core.Path.{◌≡◌, refl, sym, ap, ap₂, subst, ◌∙◌}
use mathlib.Core.Logic.{◌≢◌}
use mathlib.Core.List.{List, ◌++◌}
use Prim.Native.Nat.{ℕ, ◌+◌, ◌*◌, ◌/◌, ◌≤◌}
use native.Mathlib.Omega.{arith}
use lib.ListN.{length, take, drop}
use lib.Seq.{sets-eq, take_all, take_at, drop_at}
use Rattle.cows.specs.Terms.{Term, size}
use Rattle.cows.specs.Format.{encode}
use Rattle.cows.specs.Moves.{elapse, elapse_by}
use Rattle.cows.proofs.Format.{length-encode}
use Rattle.cows.proofs.Recordwise.{of_size, of_depth, elapse-keeps, some-time, time_gives}
use Rattle.records.specs.Rewrites.{put}
use Rattle.ways.specs.Known.{Table, Known}
use Rattle.ways.proofs.KnownTables.{table_size}
use Rattle.plans.specs.Plans.{Allowed, Asks}
use Rattle.plans.proofs.Planning.{within_limits, planned_allowed}

-- any time but 0 is allowed
pub elapse_planned : (t : Term) (d : ℕ) → d ≢ 0 → (s ends : List ℕ) → Table s ends t → Allowed (elapse_by t d) 0 (record { records = length s / 16; from = 0 })
elapse_planned t d some s ends h =
    planned_allowed (elapse d t) (some-time t d some) _
    (within_limits (elapse d t) (omega (arith, elapse-keeps of_size d t, h.within.small)) (omega (arith, elapse-keeps of_depth d t, h.within.shallow)))
    (table_size s ends t h ∙ sym (elapse-keeps of_size d t)) refl

-- bytes from the output's start on
pub put_first : (out bs : List ℕ) → length bs ≤ length out → put out 0 bs ≡ bs ++ drop (length bs) out
unfolding put
put_first out bs h = sets-eq bs out 0 (omega arith) ∙ ap (λ n. bs ++ drop n out) (let z : 0 + length bs ≡ length bs = omega arith in z)

-- what writing an allowed move asks and gives
module _ (s ends : List ℕ) (d : ℕ) (out : List ℕ) (q : Asks (λ t. elapse_by t d) (λ t. 0) s ends 0 out) where
  abbrev t : Term
  t = q.known.term

  elapsed : elapse d t ≡ q.successor
  elapsed = (time_gives t q.successor d q.accepted).1

  as_long : length (encode q.successor) ≡ length s
  as_long = omega (arith, length-encode q.successor, ap size elapsed, elapse-keeps of_size d t, table_size s ends t q.known.table, q.known.whole)

  pub room : length s ≤ length out
  room = omega (arith, as_long, length-encode q.successor, q.room)

  -- the table, copied
  module _ {copied : List ℕ} (e : copied ≡ put out 0 (take (16 * (length s / 16)) (drop 0 s))) where
    as_put : copied ≡ s ++ drop (length s) out
    as_put = e ∙ (ap (put out 0) (take_all (16 * (length s / 16)) s (omega (arith, q.known.whole))) ∙ put_first out s room)

    behind-kept : drop (length s) copied ≡ drop (length s) out
    behind-kept = ap (drop (length s)) as_put ∙ drop_at s (drop (length s) out) (length s) refl

    same_copied : s ≡ take (16 * (length s / 16)) copied
    same_copied = sym (ap (take (16 * (length s / 16))) as_put ∙ take_at s (drop (length s) out) (16 * (length s / 16)) q.known.whole)

    pub known_copied : Known (take (16 * (length s / 16)) copied) ends
    known_copied = subst (λ x. Known x ends) same_copied q.known

    pub table_copied : Table (take (16 * (length s / 16)) copied) ends t
    table_copied = subst (λ x. Table x ends t) same_copied q.known.table

    pub gives_elapsed : {after : List ℕ} → after ≡ encode (elapse d t) ++ drop (16 * (length s / 16)) copied → after ≡ put out 0 (encode q.successor)
    gives_elapsed h = h ∙ (rw (← q.known.whole) (ap₂ ◌++◌ (ap encode elapsed) (behind-kept ∙ ap (λ n. drop n out) (sym as_long))) ∙ sym (put_first out (encode q.successor) (omega (arith, as_long, room))))
