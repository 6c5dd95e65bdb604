-- The depth of the term at each place, from the last to the first (specs/Deepest, Heights): the start and a turn of the pass, and the places of children.
use mathlib.Core.Path.{◌≡◌}
use mathlib.Core.Logic.{◌≢◌}
use mathlib.Core.List.{List}
use Prim.Native.Nat.{ℕ, ◌+◌, ◌*◌, ◌/◌, ◌≤◌, ◌<◌}
use native.Mathlib.Omega.{arith}
use lib.ListN.{length, get_or, set}
use lib.Seq.{get_or-set_same, get_or-set_other}
use Rattle.cows.specs.Limits.{max_records}
use Rattle.cows.specs.Terms.{Term, size, depth}
use Rattle.cows.specs.Kinds.{children_of}
use Rattle.cows.specs.Places.{sub}
use Rattle.cows.proofs.Basics.{eq_case}
use Rattle.records.specs.Holds.{Holds}
use Rattle.records.specs.Rewrites.{StandsIn}
use Rattle.records.proofs.StandsIn.{long, stands_fits, holds_stands}
use Rattle.ways.specs.Known.{Known}
use Rattle.depths.specs.Depths.{Standing}
use Rattle.ways.proofs.KnownTables.{table_inside}
use Rattle.depths.proofs.Deep.{standing, depth_few, first_standing, second_standing}
use Rattle.deepest.specs.Deepest.{Heights}

pub known_standing : (s ends : List ℕ) (i : ℕ) → Known s ends → i < length s / 16 → Standing s ends i
known_standing s ends i k l =
    let t = k.term in
    standing (sub t i) (holds_stands s t i k.table.holds (table_inside s ends t k.table i l)) k.table.end

pub heights_start : (s heights : List ℕ) → Heights s heights (length s / 16)
heights_start s heights m l t h = absurd (omega (arith, stands_fits t h, long t))

pub heights_turn : (s heights : List ℕ) (i r : ℕ) → Heights s heights (i + 1) → i < length heights → ((t : Term) → StandsIn s (16 * i) t → r ≡ depth t) → Heights s (set heights i r) i
heights_turn s heights i r h l e m k t x =
    eq_case _ m i (λ z. let y : StandsIn s (16 * i) t = rw z at x in rw (z, get_or-set_same heights i r 0 l) (e t y))
    (λ z. rw (get_or-set_other heights i m r 0 z) (h m (omega arith) t x))

pub height_at : (s heights : List ℕ) (t : Term) (m : ℕ) → Heights s heights 0 → Holds s t → m < size t → get_or heights m 0 ≡ depth (sub t m)
height_at s heights t m h k l = h m (omega arith) (sub t m) (holds_stands s t m k l)

-- The record at place i has c children: where they stand, and that their depths are small.
module _ (s ends heights : List ℕ) (i c : ℕ) (q : Standing s ends i) (k : c ≡ children_of (get_or s (16 * i) 0)) (h : Heights s heights (i + 1)) where
  pub first_place : c ≢ 0 → (i + 1 < length s / 16) × (get_or heights (i + 1) 0 ≤ max_records)
  first_place e = let x = first_standing s ends i c q k e in (x.inside, depth_few x _ (h (i + 1) (omega arith)))

  pub both_places : (p : ℕ) → c ≢ 0 → c ≢ 1 → p ≡ get_or ends (i + 1) 0 → (i < p) × (p < length s / 16) × (get_or heights (i + 1) 0 ≤ max_records) × (get_or heights p 0 ≤ max_records)
  both_places p e f at =
      let (x, l) = second_standing s ends i c q k e f p at in
      (l, x.inside, (first_place e).1, depth_few x _ (h p (omega arith)))
