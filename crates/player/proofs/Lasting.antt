-- Time changes no shape: the ends of a table's terms are those of its successor, and play keeps them.
use mathlib.Core.Path.{◌≡◌, refl, sym, ap, ◌∙◌}
use mathlib.Core.List.{List, [], ◌∷◌}
use Prim.Native.Nat.{ℕ, zero, suc, ◌+◌, ◌-◌, ◌≤◌, ◌<◌}
use native.Mathlib.Omega.{arith}
use lib.Dec.{ltb}
use borrow.Author.Tests.{ltb-true, ltb-false}
use lib.ListN.{length, get_or}
use Rattle.cows.specs.Terms.{Term, leaf, under, both, size}
use Rattle.cows.specs.Kinds.{kind, prefix, live_kind}
use Rattle.cows.specs.Places.{inside, left_of, right_of, Way, Spot, descend, spot_at, sub}
use Rattle.cows.specs.Moves.{lower, elapse}
use Rattle.cows.proofs.Basics.{bool_case, cond_case, cond_case₂}
use Rattle.cows.proofs.Places.{descend_here}
use Rattle.cows.proofs.Recordwise.{of_size, elapse-keeps}
use Rattle.records.specs.Holds.{Holds}
use Rattle.records.specs.Ends.{EndsFrom}
use Rattle.records.proofs.StandsIn.{holds_size, holds_stands}
use Rattle.records.proofs.Shapes.{end_over, end_stands}
use Rattle.ways.specs.Known.{Table, EndPlaces}
use Rattle.ways.proofs.KnownTables.{table_size, table_ended}

size-elapse : (d : ℕ) (v w : Way) (t : Term) (n : ℕ) → size (descend v (elapse d t) n).here ≡ size (descend w t n).here
unfolding descend elapse
size-elapse d v w (leaf x) n = refl
size-elapse d v w (under u t) zero = elapse-keeps of_size d (under u t)
size-elapse d v w (under u t) (suc n) =
    cond_case (λ r. size (descend (inside (lower d u) ∷ v) r n).here ≡ size (descend (inside u ∷ w) t n).here) (live_kind (kind (prefix u)))
    (λ e. size-elapse d (inside (lower d u) ∷ v) (inside u ∷ w) t n) (λ e. ap size (descend_here (inside (lower d u) ∷ v) (inside u ∷ w) t n))
size-elapse d v w (both j s t) zero = elapse-keeps of_size d (both j s t)
size-elapse d v w (both j s t) (suc n) =
    rw (elapse-keeps of_size d s)
    (cond_case₂ (λ (x y : Spot). size x.here ≡ size y.here) (ltb n (size s))
    (λ e. size-elapse d (left_of j (elapse d t) ∷ v) (left_of j t ∷ w) s n) (λ e. size-elapse d (right_of j (elapse d s) ∷ v) (right_of j s ∷ w) t (n - size s)))

-- the term at each place is as large as it was
pub sub-elapse : (d : ℕ) (t : Term) (n : ℕ) → size (sub (elapse d t) n) ≡ size (sub t n)
unfolding sub spot_at
sub-elapse d t n = size-elapse d [] [] t n

-- behind the last place of a table stands one past the number of its records, twice
pub behind_last : (s ends : List ℕ) (t : Term) → Table s ends t → (m : ℕ) → size t ≤ m → m ≤ size t + 1 → get_or ends m 0 ≡ size t + 1
behind_last s ends t h m lo hi =
    let n = table_size s ends t h in
    h.end.end m (omega arith) (omega (arith, n)) ∙ (end_over s m (omega (arith, n)) ∙ ap (λ x. x + 1) n)

-- `ends` has the ends of the terms of t, as large as a table may be, and one past the number of its records behind them
pub record Ended (ends : List ℕ) (t : Term) : Type 0 where
  pub places : EndPlaces ends t
  pub behind : (m : ℕ) → size t ≤ m → m ≤ size t + 1 → get_or ends m 0 ≡ size t + 1
  pub few : size t ≤ 2048
  pub room : size t + 1 < length ends

pub ended_table : (s ends : List ℕ) (t : Term) → Table s ends t → Ended ends t
ended_table s ends t z =
    record { places = table_ended s ends t z; behind = behind_last s ends t z; few = z.within.small; room = omega (arith, table_size s ends t z, z.end.room) }

-- the ends of a table, by the sizes of its terms
pub ends_by_places : (next ends : List ℕ) (u : Term) → Holds next u → size u ≤ 2048 → size u + 1 < length ends → EndPlaces ends u → ((m : ℕ) → size u ≤ m → m ≤ size u + 1 → get_or ends m 0 ≡ size u + 1)
    → EndsFrom next ends 0
ends_by_places next ends u k few room places behind =
    let n = holds_size next u k in
    record {
      few = omega (arith, n);
      room = omega (arith, n);
      end = λ m lo hi.
          bool_case _ (ltb m (size u))
          (λ e. let l = ltb-true m (size u) e in places m l ∙ sym (end_stands next (sub u m) m (holds_stands next u m k l)))
          (λ e. let l = ltb-false m (size u) e in behind m l (omega (arith, n)) ∙ (ap (λ x. x + 1) (sym n) ∙ sym (end_over next m (omega (arith, n)))));
    }

-- so after a time the ends of the table are those of the table before
pub ends_last : (s next ends : List ℕ) (t : Term) (d : ℕ) → Table s ends t → Holds next (elapse d t) → EndsFrom next ends 0
ends_last s next ends t d h k =
    let z = elapse-keeps of_size d t in
    ends_by_places next ends (elapse d t) k (omega (arith, z, h.within.small)) (omega (arith, z, table_size s ends t h, h.end.room))
    (λ m l. table_ended s ends t h m (omega (arith, z)) ∙ ap (λ x. m + x) (sym (sub-elapse d t m))) (λ m lo hi. behind_last s ends t h m (omega (arith, z)) (omega (arith, z)) ∙ ap (λ x. x + 1) (sym z))
