-- A continuation takes the place of its prefix and of the whole choice around it (specs/Moves, continue): the bytes of the table that are left.
use mathlib.Core.Path.{◌≡◌, refl, sym, ap, subst, ◌∙◌}
use mathlib.Core.Bool.{false}
use mathlib.Core.List.{List, ◌++◌}
use Prim.Native.Nat.{ℕ, suc, ◌+◌, ◌*◌, ◌-◌, ◌/◌, ◌≤◌, ◌<◌}
use native.Mathlib.Omega.{arith}
use native.Mathlib.Numerals.{add-one}
use lib.ListN.{length, get_or, take, drop}
use Rattle.cows.specs.Terms.{Prefix, Term, under, size, depth, below}
use Rattle.cows.specs.Places.{fill, way_to, sub}
use Rattle.cows.specs.Format.{encode}
use Rattle.cows.specs.Within.{Within}
use Rattle.cows.specs.Moves.{continue}
use Rattle.cows.specs.Step.{over_limits}
use Rattle.cows.proofs.Places.{size_pos, fill_spot, spot_fits, spot_under}
use Rattle.cows.proofs.Format.{length-encode}
use Rattle.cows.proofs.Ways.{encode_replaced, depth_part, depth-fill, size-swap}
use Rattle.records.specs.Rewrites.{StandsIn}
use Rattle.records.proofs.Put.{has_take}
use Rattle.records.proofs.StandsIn.{part_stands}
use Rattle.ways.specs.Known.{Table}
use Rattle.ways.specs.Ways.{start_of}
use Rattle.ways.proofs.KnownTables.{table_size, table_ended}
use Rattle.ways.proofs.Starts.{Start, start_at}
use Rattle.plans.specs.Cutting.{Span, Room, cut_of}
use Rattle.plans.proofs.Planning.{within_limits}

-- Where the parts that are kept begin and end: the choice is at place c, the prefix at place a.
pub record Cuts (t : Term) (a c : ℕ) : Type 0 where
  pub low : c ≤ a
  pub inner : a + size (sub t a) ≤ c + size (sub t c)
  pub outer : c + size (sub t c) ≤ size t
  pub some : 1 ≤ size (sub t a)

module _ (t : Term) (a : ℕ) (u : Prefix) (l : a < size t) (e : sub t a ≡ under u (below (sub t a))) where
  abbrev c : ℕ
  c = start_of a (way_to t a)

  pub start : Start t a (way_to t a) (sub t a) c
  start = start_at t a (way_to t a) (sub t a) (l, refl, refl)

  abbrev body : Term
  body = below (sub t a)

  pub size-body : size (sub t a) ≡ suc (size body)
  unfolding size
  size-body = ap size e

  depth-body : depth body ≤ depth (sub t a)
  unfolding depth
  depth-body = subst (λ d. depth body ≤ d) (sym (ap depth e)) (omega arith)

  pub cuts : Cuts t a c
  cuts = record {
    low = start.low;
    inner = omega (arith, start.ends, ap size start.at.1);
    outer = spot_fits t c start.at.0;
    some = size_pos (sub t a);
  }

  pub continue_at : continue t a ≡ fill (way_to t c) body
  unfolding continue
  continue_at = ap (λ w. fill w body) (sym start.at.2)

  pub continue-size : size (continue t a) + size (sub t c) ≡ size t + (size (sub t a) - 1)
  continue-size = rw continue_at (omega (arith, size-swap (way_to t c) (sub t c) body, ap size (fill_spot t c), size-body))

  pub continue-depth : depth (continue t a) ≤ depth t
  continue-depth =
      let d : depth body ≤ depth (sub t c) = omega (arith, depth-body, depth_part start.choices (sub t a), ap depth start.at.1) in
      rw continue_at (omega (arith, depth-fill (way_to t c) body (sub t c) d, ap depth (fill_spot t c)))

  pub continue_limits : Within t → over_limits (continue t a) ≡ false
  continue_limits w = within_limits (continue t a) (omega (arith, continue-size, cuts, w.small)) (omega (arith, continue-depth, w.shallow))

  body_bytes : encode body ≡ take (16 * (size (sub t a) - 1)) (drop (16 * (a + 1)) (encode t))
  body_bytes =
      let (k, s, w) = spot_under t a u body l e in
      let z : length (encode body) ≡ 16 * (size (sub t a) - 1) = omega (arith, length-encode body, size-body) in
      rw (add-one a, ← z) (sym (has_take (encode body) (subst (λ r. StandsIn (encode t) (16 * suc a) r) s (part_stands t (suc a) k))))

  pub continue-bytes : encode (continue t a) ≡ take (16 * c) (encode t) ++ (take (16 * (size (sub t a) - 1)) (drop (16 * (a + 1)) (encode t)) ++ drop (16 * (c + size (sub t c))) (encode t))
  continue-bytes = ap encode continue_at ∙ (encode_replaced t c start.at.0 body ∙ rw (← body_bytes))

-- The same in a table with the ends of its terms, for the code.
module _ (s ends : List ℕ) (t : Term) (h : Table s ends t) (a : ℕ) (u : Prefix) (l : a < size t) (e : sub t a ≡ under u (below (sub t a))) (from : ℕ) (f : from ≡ start_of a (way_to t a)) where
  abbrev from_cuts : Cuts t a from
  from_cuts = rw f (cuts t a u l e)

  end_here : get_or ends a 0 ≡ a + size (sub t a)
  end_here = table_ended s ends t h a l

  end_from : get_or ends from 0 ≡ from + size (sub t from)
  end_from = table_ended s ends t h from (omega (arith, from_cuts))

  pub span : Span ends (length s / 16) a from
  span = record {
    few = omega (arith, table_size s ends t h, h.within.small);
    low = from_cuts.low;
    inside = omega (arith, table_size s ends t h);
    room = omega (arith, h.end.room);
    some = omega (arith, end_here, from_cuts);
    inner = omega (arith, end_here, end_from, from_cuts);
    outer = omega (arith, table_size s ends t h, end_from, from_cuts);
  }

  pub left-size : size (continue t a) ≡ length s / 16 - (get_or ends from 0 - from) + (get_or ends a 0 - a - 1)
  left-size = omega (arith, continue-size t a u l e, ap (λ c. size (sub t c)) f, table_size s ends t h, end_here, end_from, from_cuts)

  pub cut_room : (out : List ℕ) → 16 * size (continue t a) ≤ length out → Room s ends a from out
  cut_room out r =
      let w : length s ≡ 16 * (length s / 16) = omega (arith, ap length h.holds.is, length-encode t) in
      record { whole = w; fits = omega (arith, left-size, span) }

  pub cut-bytes : cut_of s ends a from ≡ encode (continue t a)
  unfolding cut_of
  cut-bytes =
      let n : get_or ends a 0 - a - 1 ≡ size (sub t a) - 1 = omega (arith, end_here) in
      rw (n, end_from, f, h.holds.is) (sym (continue-bytes t a u l e))
