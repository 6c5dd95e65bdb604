-- Ways and records: what stands ahead of a place and behind it in the table; a table with another term at a place; the record above a place; size and
-- depth of a term with another part.
use mathlib.Core.Path.{◌≡◌, refl, sym, ap, subst, ◌∙◌}
use mathlib.Core.List.{[], ◌∷◌, ◌++◌, append_assoc, append-nil}
use Prim.Native.Nat.{ℕ, suc, ◌+◌, ◌*◌, ◌-◌, ◌≤◌, ◌<◌}
use native.Mathlib.Omega.{arith}
use lib.ListN.{length, take, drop, length-append}
use lib.Seq.{take_at, drop_at, drop-drop}
use Rattle.cows.specs.Terms.{Term, leaf, under, both, size, depth}
use Rattle.cows.specs.Kinds.{prefix, join}
use Rattle.cows.specs.Places.{Frame, inside, left_of, right_of, plug, Way, fill, Spot, descend, spot_at, way_to, sub}
use Rattle.cows.specs.Format.{nodes, bytes, encode}
use Rattle.cows.proofs.Basics.{lt_case}
use Rattle.cows.specs.Records.{At, opens, closes, ahead, behind}
use Rattle.cows.proofs.Places.{size_pos, fill_spot, fill_ind, descend_here, descend-first, Inherited, inherited_spot, PartOf, part_inherited, part_first, spot_fits}
use Rattle.cows.proofs.Format.{length-nodes, length-bytes, length-encode}
use Rattle.cows.proofs.Fields.{append_bytes}

nodes-plug : (f : Frame) (s : Term) → nodes (plug f s) ≡ opens f ++ (nodes s ++ closes f)
unfolding nodes plug opens closes
nodes-plug (inside u) s = ap (λ l. prefix u ∷ l) (sym (append-nil (nodes s)))
nodes-plug (left_of j t) s = refl
nodes-plug (right_of j t) s = ap (λ l. join j ∷ (nodes t ++ l)) (sym (append-nil (nodes s)))

pub nodes-fill : (w : Way) (s : Term) → nodes (fill w s) ≡ ahead w ++ (nodes s ++ behind w)
unfolding fill ahead behind
nodes-fill [] s = sym (append-nil (nodes s))
nodes-fill (f ∷ w) s = rw (nodes-fill w (plug f s), nodes-plug f s) (simp append_assoc)

pub encode-plug : (f : Frame) (s : Term) → encode (plug f s) ≡ bytes (opens f) ++ (encode s ++ bytes (closes f))
unfolding encode
encode-plug f s = rw (nodes-plug f s, append_bytes (opens f) (nodes s ++ closes f), append_bytes (nodes s) (closes f))

pub length-ahead : (t : Term) (n : ℕ) → n < size t → length (ahead (way_to t n)) ≡ n
unfolding way_to ahead opens
length-ahead t =
    inherited_spot (λ n (z : Spot). length (ahead z.way) ≡ n) (
      λ o w u s h. omega (arith, length-append (ahead w) (prefix u ∷ [])),
      λ o w j s r h. (omega (arith, length-append (ahead w) (join j ∷ [])), omega (arith, length-append (ahead w) (join j ∷ nodes s), length-nodes s)),
    )
    t refl

-- The table of a term with r at place n: up to n and behind what stood there it is as before.
pub encode-fill : (w : Way) (s : Term) → encode (fill w s) ≡ bytes (ahead w) ++ (encode s ++ bytes (behind w))
unfolding encode
encode-fill w s = rw (nodes-fill w s, append_bytes (ahead w) (nodes s ++ behind w), append_bytes (nodes s) (behind w))

module _ (t : Term) (n : ℕ) (l : n < size t) where
  whole : encode t ≡ bytes (ahead (way_to t n)) ++ (encode (sub t n) ++ bytes (behind (way_to t n)))
  whole = ap encode (sym (fill_spot t n)) ∙ encode-fill (way_to t n) (sub t n)

  pub take-ahead : take (16 * n) (encode t) ≡ bytes (ahead (way_to t n))
  take-ahead =
      ap (take (16 * n)) whole ∙ take_at (bytes (ahead (way_to t n))) _ (16 * n) (length-bytes (ahead (way_to t n)) ∙ ap (λ k. 16 * k) (length-ahead t n l))

  pub drop_here : drop (16 * n) (encode t) ≡ encode (sub t n) ++ bytes (behind (way_to t n))
  drop_here =
      ap (drop (16 * n)) whole ∙ drop_at (bytes (ahead (way_to t n))) _ (16 * n) (length-bytes (ahead (way_to t n)) ∙ ap (λ k. 16 * k) (length-ahead t n l))

  pub drop-behind : drop (16 * (n + size (sub t n))) (encode t) ≡ bytes (behind (way_to t n))
  drop-behind =
      let a = bytes (ahead (way_to t n)) in
      let h = encode (sub t n) in
      let e : length a + length h ≡ 16 * (n + size (sub t n)) = omega (arith, length-bytes (ahead (way_to t n)), length-ahead t n l, length-encode (sub t n)) in
      ap (drop (16 * (n + size (sub t n)))) (whole ∙ sym (append_assoc a h (bytes (behind (way_to t n)))))
      ∙ drop_at (a ++ h) (bytes (behind (way_to t n))) (16 * (n + size (sub t n))) (length-append a h ∙ e)

  pub encode_replaced : (r : Term) → encode (fill (way_to t n) r) ≡ take (16 * n) (encode t) ++ (encode r ++ drop (16 * (n + size (sub t n))) (encode t))
  encode_replaced r = rw (take-ahead, drop-behind) (encode-fill (way_to t n) r)

-- The records of a term with r at place n: up to n and behind what stood there they are as before.
module _ (t : Term) (n : ℕ) (l : n < size t) where
  nodes_whole : nodes t ≡ ahead (way_to t n) ++ (nodes (sub t n) ++ behind (way_to t n))
  nodes_whole = ap nodes (sym (fill_spot t n)) ∙ nodes-fill (way_to t n) (sub t n)

  nodes-ahead : take n (nodes t) ≡ ahead (way_to t n)
  nodes-ahead = ap (take n) nodes_whole ∙ take_at (ahead (way_to t n)) _ n (length-ahead t n l)

  pub nodes_here : drop n (nodes t) ≡ nodes (sub t n) ++ behind (way_to t n)
  nodes_here = ap (drop n) nodes_whole ∙ drop_at (ahead (way_to t n)) _ n (length-ahead t n l)

  nodes-behind : drop (n + size (sub t n)) (nodes t) ≡ behind (way_to t n)
  nodes-behind =
      sym (drop-drop (size (sub t n)) n (nodes t)) ∙ (ap (drop (size (sub t n))) nodes_here ∙ drop_at (nodes (sub t n)) _ (size (sub t n)) (length-nodes (sub t n)))

  pub nodes_replaced : (r : Term) → nodes (fill (way_to t n) r) ≡ take n (nodes t) ++ (nodes r ++ drop (n + size (sub t n)) (nodes t))
  nodes_replaced r = rw (nodes-ahead, nodes-behind) (nodes-fill (way_to t n) r)

-- The record above a place: where the record of the nearest frame stands. No record between the two reaches over the place.
abbrev pub Clear : Term → ℕ → ℕ → Type 0
Clear t p n = (q : ℕ) → p < q → q < n → q + size (sub t q) ≤ n

pub record Above (t : Term) (n : ℕ) (f : Frame) (w : Way) (s : Term) : Type 0 where
  pub place : ℕ
  pub before : place < n
  pub ends : n + size s ≤ place + size (plug f s)
  pub at : At t place w (plug f s)
  pub clear : Clear t place n

abbrev pub Up : Term → ℕ → Way → Term → Type 0
Up t n [] s = n ≡ 0
Up t n (f ∷ w) s = Above t n f w s

pub part_at : (t : Term) (n : ℕ) (w : Way) (s : Term) → PartOf t n (record { way = w; here = s }) → At t n w s
unfolding sub way_to
part_at t n w s h =
    let e : spot_at t n ≡ record { way = w; here = s } = ap (spot_at t) (let z : n ≡ n + 0 = omega arith in z) ∙ (h.1 0 (size_pos s) ∙ descend-first w s) in
    (omega (arith, h.0, size_pos s), ap (λ (z : Spot). z.here) e, ap (λ (z : Spot). z.way) e)

up_inherited : (t : Term) → Inherited (λ n (z : Spot). PartOf t n z × Up t n z.way z.here)
unfolding plug size sub spot_at
up_inherited t = (
  λ o w u s (p, h). (
    (part_inherited t).0 o w u s p,
    record { place = o; before = omega arith; ends = omega arith; at = part_at t o w (under u s) p; clear = λ q a b. absurd (omega arith) },
  ),
  λ o w j s r (p, h).
      let (pl, pr) = (part_inherited t).1 o w j s r p in
      let a = part_at t o w (both j s r) p in (
        (pl, record { place = o; before = omega arith; ends = omega arith; at = a; clear = λ q x y. absurd (omega arith) }),
        (
          pr,
          record {
            place = o;
            before = omega arith;
            ends = omega arith;
            at = a;
            clear = λ q x y.
                let i = q - suc o in
                let e : spot_at t q ≡ descend (left_of j r ∷ w) s i = ap (spot_at t) (let z : q ≡ suc o + i = omega arith in z) ∙ pl.1 i (omega arith) in
                let k : sub t q ≡ sub s i = ap (λ (z : Spot). z.here) e ∙ descend_here (left_of j r ∷ w) [] s i in
                omega (arith, ap size k, spot_fits s i (omega arith));
          },
        ),
      ),
)

pub up : (t : Term) (n : ℕ) → n < size t → Up t n (way_to t n) (sub t n)
unfolding way_to sub
up t n l = (inherited_spot (λ n (z : Spot). PartOf t n z × Up t n z.way z.here) (up_inherited t) t (part_first t, refl) n l).1

-- a place that no place before it reaches over is the root; the last place that does is the record above
pub clear_root : (t : Term) (n : ℕ) → n < size t → ((q : ℕ) → q < n → q + size (sub t q) ≤ n) → way_to t n ≡ []
clear_root t n l h = go (way_to t n) refl (up t n l)
  where
    go : (w : Way) → way_to t n ≡ w → Up t n w (sub t n) → way_to t n ≡ []
    go [] e u = e
    go (f ∷ w) e u = absurd (omega (arith, h u.place u.before, ap size u.at.1, u.ends, size_pos (sub t n)))

-- the record above place n, whose way begins with f
pub record Next (t : Term) (n p : ℕ) : Type 0 where
  pub frame : Frame
  pub rest : Way
  pub way : way_to t n ≡ frame ∷ rest
  pub at : At t p rest (plug frame (sub t n))

pub clear_next : (t : Term) (n p : ℕ) → n < size t → p < n → n < p + size (sub t p) → Clear t p n → Next t n p
clear_next t n p l b o c = go (way_to t n) refl (up t n l)
  where
    go : (w : Way) → way_to t n ≡ w → Up t n w (sub t n) → Next t n p
    go [] e u = absurd (omega arith)
    go (f ∷ w) e u =
        let z : u.place ≡ p =
        lt_case (u.place ≡ p) u.place p (λ k. absurd (omega (arith, u.clear p k b)))
        (λ k. lt_case (u.place ≡ p) p u.place (λ m. absurd (omega (arith, c u.place m u.before, ap size u.at.1, u.ends, size_pos (sub t n)))) (λ m. omega arith)) in
        record { frame = f; rest = w; way = e; at = subst (λ q. At t q w (plug f (sub t n))) z u.at }

-- Size and depth grow with a part of the term; over the limits of depth is only the new part.
depth-plug : (f : Frame) (s r : Term) → depth s ≤ depth r → depth (plug f s) ≤ depth (plug f r)
unfolding plug depth
depth-plug (inside u) s r h = omega arith
depth-plug (left_of j t) s r h = omega arith
depth-plug (right_of j t) s r h = omega arith

pub depth-fill : (w : Way) (s r : Term) → depth s ≤ depth r → depth (fill w s) ≤ depth (fill w r)
depth-fill = fill_ind (λ s r. depth s ≤ depth r) depth-plug

pub depth_pos : (t : Term) → 1 ≤ depth t
unfolding depth
depth_pos (leaf x) = omega arith
depth_pos (under u t) = omega arith
depth_pos (both j s t) = omega arith

depth_frame : (f : Frame) (s : Term) → suc (depth s) ≤ depth (plug f s)
unfolding plug depth
depth_frame (inside u) s = omega arith
depth_frame (left_of j t) s = omega arith
depth_frame (right_of j t) s = omega arith

pub depth_part : (w : Way) (s : Term) → length w + depth s ≤ depth (fill w s)
unfolding fill
depth_part [] s = omega arith
depth_part (f ∷ w) s = omega (arith, depth_frame f s, depth_part w (plug f s))

-- with another part, the depth is that of the new part on its way, or else what it was
depth_frame_most : (f : Frame) (s r : Term) (n : ℕ) → depth (plug f s) ≤ n → suc (depth r) ≤ n → depth (plug f r) ≤ n
unfolding plug depth
depth_frame_most (inside u) s r n h k = omega arith
depth_frame_most (left_of j t) s r n h k = omega arith
depth_frame_most (right_of j t) s r n h k = omega arith

pub depth_most : (w : Way) (s r : Term) (n : ℕ) → depth (fill w s) ≤ n → length w + depth r ≤ n → depth (fill w r) ≤ n
unfolding fill
depth_most [] s r n h k = omega arith
depth_most (f ∷ w) s r n h k =
    let m = n - length w in
    let a : depth (plug f r) ≤ m = depth_frame_most f s r m (omega (arith, depth_part w (plug f s))) (omega arith) in
    depth_most w (plug f s) (plug f r) n h (omega arith)

pub size_frame : (f : Frame) (s r : Term) → size (plug f r) + size s ≡ size (plug f s) + size r
unfolding plug size
size_frame (inside u) s r = omega arith
size_frame (left_of j t) s r = omega arith
size_frame (right_of j t) s r = omega arith

pub size-swap : (w : Way) (s r : Term) → size (fill w r) + size s ≡ size (fill w s) + size r
unfolding fill
size-swap [] s r = omega arith
size-swap (f ∷ w) s r = omega (arith, size_frame f s r, size-swap w (plug f s) (plug f r))

-- the record of the nearest frame stands above, where the rest of the way leads
pub above_at : (t : Term) (n : ℕ) (f : Frame) (w : Way) (s : Term) → At t n (f ∷ w) s → (length (ahead w) < n) × (n + size s ≤ length (ahead w) + size (plug f s)) × At t (length (ahead w)) w (plug f s)
above_at t n f w s (l, e, k) =
    let u : Above t n f w s = subst (λ z. Up t n z s) k (subst (Up t n (way_to t n)) e (up t n l)) in
    let z : length (ahead w) ≡ u.place = ap (λ y. length (ahead y)) (sym u.at.2) ∙ length-ahead t u.place u.at.0 in
    rw z (u.before, u.ends, u.at)
