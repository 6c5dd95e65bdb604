-- Unfold (specs/Moves, unfold_at) as it is judged and written.
use mathlib.Core.Path.{◌≡◌, refl, sym, ap, ◌∙◌}
use mathlib.Core.Bool.{Bool, true, false, ◌||◌}
use mathlib.Core.Option.{some}
use mathlib.Core.List.{List, ◌++◌, append_assoc}
use Prim.Native.Nat.{ℕ, suc, ◌+◌, ◌*◌, ◌-◌, ◌/◌, ◌≤◌, ◌<◌}
use native.Mathlib.Omega.{arith}
use native.Mathlib.Numerals.{add-one}
use lib.Dec.{ltb}
use lib.ListN.{length, get_or, take, drop, length-drop}
use lib.Seq.{take_all, drop_at, drop-drop, length-take-le}
use borrow.Author.Tests.{ltb-true, ltb-false, lt-ltb}
use Rattle.cows.specs.Basics.{refuse, accept, ◌>>=◌}
use Rattle.cows.specs.Terms.{replication, parallel, Term, under, both, size, depth, prefixed, replicates, below}
use Rattle.cows.specs.Kinds.{join, root, kind_of}
use Rattle.cows.specs.Places.{way_to, sub}
use Rattle.cows.specs.Format.{byte, layout, record16, encode}
use Rattle.cows.specs.Active.{wanted}
use Rattle.cows.specs.Within.{Within}
use Rattle.cows.specs.Moves.{copy, after_unfold, unfold_at, fresh_copy}
use Rattle.cows.specs.Step.{over_limits}
use Rattle.cows.proofs.Rows.{length_record16}
use Rattle.cows.proofs.Basics.{or_false, or_both, bind-accept, same_accept}
use Rattle.cows.proofs.Places.{size_pos, fill_spot, spot_fits, spot_under}
use Rattle.cows.proofs.Format.{length-encode}
use Rattle.cows.proofs.Fields.{table_at, kind_is}
use Rattle.cows.proofs.Ways.{encode_replaced, depth_part, depth_most, size-swap}
use Rattle.cows.proofs.Stands.{looks, prefixed_is, wanted_is, wanted-live, live-wanted}
use Rattle.cows.proofs.Recordwise.{OfShape, of_size, of_depth, map-keeps}
use Rattle.records.specs.Rewrites.{put, StandsIn}
use Rattle.records.proofs.Put.{and_then}
use Rattle.records.proofs.StandsIn.{encode-both, holds_stands}
use Rattle.ways.specs.Known.{Table, Known}
use Rattle.depths.specs.Depths.{Standing}
use Rattle.ways.specs.Ways.{live_there, LiveAt}
use Rattle.ways.proofs.KnownTables.{table_size, table_ended}
use Rattle.ways.proofs.KnownTables.{way_short}
use Rattle.depths.proofs.Deep.{standing}
use Rattle.renaming.specs.Names.{Body}
use Rattle.renaming.proofs.Copies.{within-body}
use Rattle.plans.specs.declared.Refusal.TheVariants.{Large}
use Rattle.plans.specs.Plans.{Allowed, Refused, Asks}
use Rattle.plans.proofs.Planning.{within_limits, planned_allowed, planned_large, absent}

-- a copy has as many records as the body, and is as deep
copy-keeps : {m : Term → ℕ} → OfShape m → (t s : Term) → m (copy t s) ≡ m s
unfolding fresh_copy
copy-keeps k t s = map-keeps k _ s

-- The successor: its records, its depth and its bytes.
module _ (t : Term) (a : ℕ) (l : a < size t) (e : sub t a ≡ under replication (below (sub t a))) where
  abbrev body : Term
  body = below (sub t a)

  abbrev new : Term
  new = both parallel (copy t body) (sub t a)

  size-body : size (sub t a) ≡ suc (size body)
  unfolding size
  size-body = ap size e

  size-new : size new ≡ size (sub t a) + size (sub t a)
  unfolding size
  size-new = omega (arith, copy-keeps of_size t body, size-body)

  depth-new : depth new ≡ 1 + depth (sub t a)
  unfolding depth
  depth-new = let b : depth (sub t a) ≡ suc (depth body) = ap depth e in omega (arith, copy-keeps of_depth t body)

  pub unfold_size : size (after_unfold t a) ≡ size t + size (sub t a)
  unfolding after_unfold
  unfold_size = omega (arith, size-swap (way_to t a) (sub t a) new, ap size (fill_spot t a), size-new)

  -- over the limit of depth is only the new part
  pub unfold_deep : 256 < length (way_to t a) + 1 + depth (sub t a) → 256 < depth (after_unfold t a)
  unfolding after_unfold
  unfold_deep h = omega (arith, depth_part (way_to t a) new, depth-new)

  pub unfold_shallow : Within t → length (way_to t a) + 1 + depth (sub t a) ≤ 256 → depth (after_unfold t a) ≤ 256
  unfolding after_unfold
  unfold_shallow w h = depth_most (way_to t a) (sub t a) new 256 (omega (arith, ap depth (fill_spot t a), w.shallow)) (omega (arith, depth-new))

  pub body_at : (a + 1 < size t) × (sub t (a + 1) ≡ body)
  body_at = let (k, s, w) = spot_under t a replication body l e in rw (add-one a) (k, s)

  rest_bytes : encode (sub t a) ++ drop (16 * (a + size (sub t a))) (encode t) ≡ drop (16 * a) (encode t)
  rest_bytes =
      let (b, k) = table_at t a l in
      let z : 16 * (a + size (sub t a)) ≡ 16 * a + length (encode (sub t a)) = omega (arith, length-encode (sub t a)) in
      rw (z, ← drop-drop (length (encode (sub t a))) (16 * a) (encode t), k) (ap (λ r. encode (sub t a) ++ r) (drop_at (encode (sub t a)) b (length (encode (sub t a))) refl))

  pub unfold_bytes : encode (after_unfold t a) ≡ take (16 * a) (encode t) ++ (record16 (join parallel) ++ (encode (copy t (sub t (a + 1))) ++ drop (16 * a) (encode t)))
  unfolding after_unfold
  unfold_bytes = encode_replaced t a l new ∙ rw (encode-both parallel (copy t body) (sub t a), body_at.1, ← rest_bytes) (simp append_assoc)

-- 11: no live replication
kind_of_replication : (s : Term) (i : Unit {0}) → prefixed replicates s ≡ some i → kind_of s ≡ 9
unfolding kind_of root record16 layout byte
kind_of_replication s i e = ap kind_of (prefixed_is replicates (λ j. replication) (λ u. (looks u).replicating) s i e)

pub no-replication : (t : Term) (a : ℕ) → live_there t a 9 ≡ false → unfold_at t a ≡ refuse 11 a
unfolding unfold_at ◌>>=◌
no-replication t a h = rw (absent (prefixed replicates) 9 kind_of_replication t a h)

-- What judging asks of the numbers: the replication at place a has k records above it, and ends in the table.
pub record Judges (s ends : List ℕ) (a k : ℕ) : Type 0 where
  pub few : length s / 16 ≤ 2048
  pub listed : a < length ends
  pub some : a ≤ get_or ends a 0
  pub fits : get_or ends a 0 ≤ length s / 16
  pub short : k < 256
  pub standing : Standing s ends a

pub judges : (s ends : List ℕ) (a : ℕ) (q : Known s ends) → a < length s / 16 → Judges s ends a (length (way_to q.term a))
judges s ends a q i =
    let t = q.term in
    let n = table_size s ends t q.table in
    let l : a < size t = omega arith in
    let e = table_ended s ends t q.table a l in
    record {
      few = q.few;
      listed = omega (arith, q.room);
      some = omega arith;
      fits = omega (arith, spot_fits t a l);
      short = way_short t a q.table.within.shallow;
      standing = standing (sub t a) (holds_stands s t a q.table.holds l) q.table.end;
    }

-- a live replication, and the move on it
module _ (s : List ℕ) (t : Term) (a : ℕ) (h : LiveAt s t a 9) where
  replication_at : sub t a ≡ under replication (below (sub t a))
  replication_at = kind_is 9 (sub t a) h.kind_is

  unfolds : unfold_at t a ≡ accept (after_unfold t a)
  unfolding unfold_at ◌>>=◌ prefixed replicates
  unfolds =
      rw (live-wanted (prefixed replicates) t a tt (under replication (below (sub t a))) refl
      (record { at = record { placed = h.inside; stands = replication_at }; live = h.live }))

  -- the replication ends at place `end`, and b is whether it is too deep below k records and the parallel
  module _ (ends : List ℕ) (z : Table s ends t) (end k : ℕ) (b : Bool) (e : end ≡ get_or ends a 0) (c : k ≡ length (way_to t a)) (f : ((u : Term) → StandsIn s (16 * a) u → b ≡ ltb (255 - k) (depth u))) where
    abbrev n : ℕ
    n = length s / 16 + (end - a)

    size_is : n ≡ size (after_unfold t a)
    size_is = omega (arith, table_size s ends t z, table_ended s ends t z a h.inside, unfold_size t a h.inside replication_at)

    short : k < 256
    short = omega (arith, way_short t a z.within.shallow)

    deep_is : b ≡ ltb (255 - k) (depth (sub t a))
    deep_is = f (sub t a) (holds_stands s t a h.holds h.inside)

    pub unfold_allowed : (ltb 2048 n || b) ≡ false → Allowed (unfold_at t a) a (record { records = n; from = a })
    unfold_allowed o =
        let (x, y) = or_false (ltb 2048 n) b o in
        let small : size (after_unfold t a) ≤ 2048 = omega (arith, size_is, ltb-false 2048 n x) in
        let shallow = unfold_shallow t a h.inside replication_at z.within (omega (arith, short, ltb-false (255 - k) _ (sym deep_is ∙ y))) in
        planned_allowed (after_unfold t a) unfolds _ (within_limits (after_unfold t a) small shallow) size_is refl

    pub unfold_large : (ltb 2048 n || b) ≡ true → Refused (unfold_at t a) a (Large a)
    unfolding over_limits
    unfold_large o =
        planned_large (after_unfold t a) unfolds
        (or_both {a = ltb 2048 n} (λ x. lt-ltb 2048 (size (after_unfold t a)) (omega (arith, size_is, ltb-true 2048 n x)))
        (λ y. lt-ltb 256 (depth (after_unfold t a)) (unfold_deep t a h.inside replication_at (omega (arith, short, ltb-true (255 - k) _ (sym deep_is ∙ y))))) o)

-- what an allowed move had
pub allowed_replication : (t : Term) (a : ℕ) (r : Term) → unfold_at t a ≡ accept r → (a < size t) × (sub t a ≡ under replication (below (sub t a))) × (r ≡ after_unfold t a)
unfolding unfold_at
allowed_replication t a r e =
    let (i, w, k) = bind-accept (wanted (prefixed replicates) t a) _ r e in
    let v = prefixed_is replicates (λ j. replication) (λ u. (looks u).replicating) (sub t a) i (wanted_is (prefixed replicates) t a i w) in
    ((wanted-live (prefixed replicates) t a i (sub t a) (λ z. refl) w).at.placed, v, same_accept (sym k))

-- What writing asks of the numbers: the body ends at place `end`, and there is room for what stands ahead of the replication, the parallel, the copy, and the rest.
pub record Opens (s : List ℕ) (a : ℕ) (out : List ℕ) (end : ℕ) : Type 0 where
  pub few : length s ≤ 32768
  pub some : a + 1 < end
  pub inside : 16 * end ≤ length s
  pub room : 16 * end + (length s - 16 * a) ≤ length out
  pub body : Body s (a + 1) end

module _ (s ends : List ℕ) (a : ℕ) (out : List ℕ) (q : Asks (λ t. unfold_at t a) (λ t. a) s ends a out) where
  abbrev t : Term
  t = q.known.term

  pub asks_listed : a < length ends
  asks_listed = omega (arith, (allowed_replication t a q.successor q.accepted).0, table_size s ends t q.known.table, q.known.room)

  pub asks_opens : (end : ℕ) → end ≡ get_or ends a 0 → Opens s a out end
  asks_opens end z =
      let (l, e, r) = allowed_replication t a q.successor q.accepted in
      let h = q.known.table in
      let (k, b) = body_at t a l e in
      let x : end ≡ a + 1 + size (sub t (a + 1)) = omega (arith, z, table_ended s ends t h a l, size-body t a l e, ap size b) in
      record {
        few = omega (arith, q.known.few, q.known.whole);
        some = omega (arith, size_pos (sub t (a + 1)));
        inside = omega (arith, spot_fits t (a + 1) k, table_size s ends t h, q.known.whole);
        room = omega (arith, q.room, ap size r, unfold_size t a l e, table_size s ends t h, q.known.whole, size-body t a l e, ap size b);
        body = rw x (within-body s t (a + 1) h.holds h.within k);
      }

  -- the four parts, written one behind the other, are the successor
  pub gives_unfold : (end : ℕ) {d₁ d₂ d₃ d₄ : List ℕ} → end ≡ get_or ends a 0 → d₁ ≡ put out 0 (take (16 * a) (drop 0 s)) → d₂ ≡ put d₁ (16 * a) (record16 (join parallel))
      → d₃ ≡ put d₂ (16 * (a + 1)) (encode (copy t (sub t (a + 1)))) → d₄ ≡ put d₃ (16 * end) (take (length s - 16 * a) (drop (16 * a) s)) → d₄ ≡ put out 0 (encode q.successor)
  gives_unfold end {d₁} {d₂} {d₃} z x y v w =
      let (l, e, r) = allowed_replication t a q.successor q.accepted in
      let o = asks_opens end z in
      let h = q.known.table in
      let c = encode (copy t (sub t (a + 1))) in
      let n : length c ≡ 16 * (end - (a + 1)) = omega (arith, length-encode (copy t (sub t (a + 1))), copy-keeps of_size t (sub t (a + 1)), ap size (body_at t a l e).1, size-body t a l e, table_ended s ends t h a l) in
      let u : take (length s - 16 * a) (drop (16 * a) s) ≡ drop (16 * a) s = take_all (length s - 16 * a) (drop (16 * a) s) (omega (arith, length-drop (16 * a) s)) in
      let b : encode q.successor ≡ take (16 * a) s ++ (record16 (join parallel) ++ (c ++ drop (16 * a) s)) = ap encode r ∙ (unfold_bytes t a l e ∙ rw (← h.holds.is)) in
      rw b
      (and_then out 0 (16 * a) (take (16 * a) s) _ (omega (arith, length-take-le (16 * a) s (omega (arith, o.inside, o.some)))) x
      (and_then d₁ (16 * a) (16 * (a + 1)) (record16 (join parallel)) _ (omega (arith, length_record16 (join parallel))) y
      (and_then d₂ (16 * (a + 1)) (16 * end) c (drop (16 * a) s) (omega (arith, o.some)) v (rw u at w))))
