-- Places of terms whose ends are known (specs/Aligned): where the term ends, where its children stand, and where its parts stand in a table.
use mathlib.Core.Path.{◌≡◌, subst}
use mathlib.Core.List.{List}
use Prim.Native.Nat.{ℕ, ◌+◌, ◌*◌, ◌/◌, ◌≤◌, ◌<◌}
use native.Mathlib.Omega.{arith}
use lib.ListN.{length, get_or}
use Rattle.cows.specs.Terms.{Term, leaf, under, both, size}
use Rattle.cows.specs.Kinds.{children_of}
use Rattle.cows.specs.Places.{sub}
use Rattle.cows.specs.Format.{encode}
use Rattle.cows.proofs.Format.{length-encode}
use Rattle.records.specs.Ends.{EndsFrom}
use Rattle.records.specs.Holds.{Holds}
use Rattle.records.specs.Rewrites.{StandsIn, Passes, Rewritable, Rewrites}
use Rattle.records.proofs.Shapes.{end_stands}
use Rattle.records.proofs.StandsIn.{long, stands_children, stands_fits, stands_left, holds_stands}
use Rattle.records.proofs.Rewrites.{passes}
use Rattle.rewriting.specs.Aligned.{Aligned}
use Rattle.rewriting.specs.Halting.{PlaceOf}

module _ {s ends : List ℕ} {i : ℕ} (l : Aligned s ends i) where
  -- the end that `ends` tells is the end of whichever term stands there
  pub end_placed : (t : Term) → StandsIn s i t → 16 * get_or ends (i / 16) 0 ≡ i + length (encode t)
  end_placed t h =
      let e : i ≡ 16 * (i / 16) = omega arith in
      omega (
        arith,
        length-encode t,
        stands_fits t h,
        long t,
        l.from.end (i / 16) (omega arith) (omega (arith, stands_fits t h, long t)),
        end_stands s t (i / 16) (subst (λ k. StandsIn s k t) e h),
      )

  pub passes_placed : {f : Term → Term} {d : List ℕ} {j p : ℕ} → Rewritable f s i d j → p ≡ 16 * get_or ends (i / 16) 0 → Passes s i p
  passes_placed {p = p} r e = passes r.term p r.stands (omega (arith, end_placed r.term r.stands))

  pub first_placed : Aligned s ends (i + 16)
  first_placed = record { from = l.from; whole = omega arith }

  -- the second child, when the first is rewritten
  pub second_placed : {f g : Term → Term} {d d' e : List ℕ} {j j' p q : ℕ}
      → Rewritable f s i d j → Rewrites g s (i + 16) d' j' e p q → children_of (get_or s i 0) ≡ 2 → Aligned s ends p
  second_placed {p = p} r w two = go r.term r.stands
    where
      go : (t : Term) → StandsIn s i t → Aligned s ends p
      go (leaf x) y = absurd (omega (arith, stands_children (leaf x) y))
      go (under u t) y = absurd (omega (arith, stands_children (under u t) y))
      go (both o m v) y = record { from = l.from; whole = omega (arith, (w.done m (stands_left o m v y)).next, length-encode m) }

-- the parts of the term that a table holds
pub placed_at : {s ends : List ℕ} (m : ℕ) → EndsFrom s ends 0 → Aligned s ends (16 * m)
placed_at m e = record { from = e; whole = omega arith }

pub place_of : {s ends : List ℕ} (t : Term) (m n : ℕ) → Holds s t → EndsFrom s ends 0 → m < size t → m ≤ n → n < m + size (sub t m) → PlaceOf s ends (16 * m) (16 * n)
place_of {s} t m n h e l low high = record {
  at = placed_at m e;
  from = omega arith;
  before = omega (arith, end_placed (placed_at m e) (sub t m) (holds_stands s t m h l), length-encode (sub t m));
  whole = omega arith;
}
