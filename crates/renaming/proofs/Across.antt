-- The records of a table one after the other (specs/Mapped: along, across), from bytes and from the records of a term.
use mathlib.Core.Path.{◌≡◌, refl, sym, ap, ◌∙◌}
use mathlib.Core.List.{List, [], ◌∷◌, ◌++◌, flat_map, append_assoc}
use Prim.Native.Nat.{ℕ, zero, suc, ◌+◌, ◌-◌, ◌*◌, ◌≤◌, ◌<◌}
use native.Mathlib.Omega.{arith}
use native.Mathlib.Numerals.{add-one}
use lib.ListN.{length, take, drop, length-append, length-drop}
use lib.Seq.{take-add, drop-drop, length-take-le}
use Rattle.cows.specs.Terms.{Term, size}
use Rattle.cows.specs.Kinds.{Node}
use Rattle.cows.specs.Format.{nodes, record16, bytes, encode}
use Rattle.cows.proofs.Rows.{length_record16}
use Rattle.cows.proofs.Format.{length-nodes}
use Rattle.records.specs.Rewrites.{put, Has, StandsIn}
use Rattle.records.proofs.Put.{put-put, has_left, has_right, has_take}
use Rattle.records.proofs.Pieces.{piece}
use Rattle.renaming.specs.Mapped.{along, across}

-- one turn of a loop from place i to place `to`, and its end
module _ (g : ℕ → List ℕ → List ℕ) (s : List ℕ) (i to : ℕ) where
  pub along-next : i < to → along g s i (to - i) ≡ g i (piece s (16 * i)) ++ along g s (i + 1) (to - (i + 1))
  unfolding along
  along-next l = let z : to - i ≡ suc (to - (i + 1)) = omega arith in rw (z, add-one i)

  pub along-end : to ≤ i → along g s i (to - i) ≡ []
  unfolding along
  along-end l = let z : to - i ≡ 0 = omega arith in rw z

module _ (g : List ℕ → List ℕ) (s : List ℕ) (i to : ℕ) where
  pub across-next : i < to → across g s i (to - i) ≡ g (piece s (16 * i)) ++ across g s (i + 1) (to - (i + 1))
  across-next = along-next (λ j. g) s i to

  pub across-end : to ≤ i → across g s i (to - i) ≡ []
  across-end = along-end (λ j. g) s i to

-- The records from place `from` to place `to`, of which g changes none outside the places `first` to `last`.
module _ (g : ℕ → List ℕ → List ℕ) (s : List ℕ) where
  abbrev pub KeepsAt : ℕ → Type 0
  KeepsAt j = g j (piece s (16 * j)) ≡ piece s (16 * j)

  along_append : (i m n : ℕ) → along g s i (m + n) ≡ along g s i m ++ along g s (i + m) n
  unfolding along
  along_append i zero n = let z : i + 0 ≡ i = omega arith in let y : 0 + n ≡ n = omega arith in rw (z, y)
  along_append i (suc m) n =
      let z : suc m + n ≡ suc (m + n) = omega arith in
      let y : i + suc m ≡ suc i + m = omega arith in
      rw (z, y, along_append (suc i) m n) (sym (append_assoc (g i (piece s (16 * i))) (along g s (suc i) m) (along g s (suc i + m) n)))

  along-kept : (i n : ℕ) → ((j : ℕ) → i ≤ j → j < i + n → KeepsAt j) → along g s i n ≡ take (16 * n) (drop (16 * i) s)
  unfolding along
  along-kept i zero h = refl
  along-kept i (suc n) h =
      let z : 16 * suc n ≡ 16 + 16 * n = omega arith in
      let y : 16 * i + 16 ≡ 16 * suc i = omega arith in
      rw (h i (omega arith) (omega arith), z, take-add 16 (16 * n) (drop (16 * i) s), drop-drop 16 (16 * i) s, y)
      (ap (λ b. piece s (16 * i) ++ b) (along-kept (suc i) n (λ j l m. h j (omega arith) (omega arith))))

  module _ (from first last to : ℕ) (a : from ≤ first) (b : first ≤ last) (c : last ≤ to) (l : 16 * to ≤ length s) (h : (j : ℕ) → from ≤ j → j < first → KeepsAt j) (k : (j : ℕ) → last ≤ j → j < to → KeepsAt j) where
    abbrev front : List ℕ
    front = take (16 * (first - from)) (drop (16 * from) s)

    abbrev back : List ℕ
    back = take (16 * (to - last)) (drop (16 * last) s)

    pub along-between : along g s from (to - from) ≡ front ++ (along g s first (last - first) ++ back)
    along-between =
        let z : to - from ≡ (first - from) + ((last - first) + (to - last)) = omega arith in
        let y : from + (first - from) ≡ first = omega arith in
        let x : first + (last - first) ≡ last = omega arith in
        rw (
          z,
          along_append from (first - from) ((last - first) + (to - last)),
          y,
          along_append first (last - first) (to - last),
          x,
          along-kept from (first - from) (λ j i m. h j i (omega arith)),
          along-kept last (to - last) (λ j i m. k j i (omega arith)),
        )

    pub between_lengths : (length front ≡ 16 * (first - from)) × (length back ≡ 16 * (to - last)) × (length (along g s from (to - from)) ≡ 16 * (first - from) + length (along g s first (last - first)) + 16 * (to - last))
    between_lengths =
        let f : length front ≡ 16 * (first - from) = length-take-le (16 * (first - from)) (drop (16 * from) s) (omega (arith, length-drop (16 * from) s)) in
        let e : length back ≡ 16 * (to - last) = length-take-le (16 * (to - last)) (drop (16 * last) s) (omega (arith, length-drop (16 * last) s)) in
        (f, e, omega (arith, ap length along-between, length-append front (along g s first (last - first) ++ back), length-append (along g s first (last - first)) back))

-- Writing what g makes of the records: the whole is what was written so far, up to byte j, and what is left from place i on.
pub record Writing (g : ℕ → List ℕ → List ℕ) (s d₀ : List ℕ) (at from to : ℕ) (d : List ℕ) (i j : ℕ) : Type 0 where
  pub same : length d ≡ length d₀
  pub bytes : put d₀ at (along g s from (to - from)) ≡ put d j (along g s i (to - i))
  pub ends : at + length (along g s from (to - from)) ≡ j + length (along g s i (to - i))

module _ (g : ℕ → List ℕ → List ℕ) (s d₀ : List ℕ) (at from to : ℕ) where
  pub writing_start : {j : ℕ} → j ≡ at → Writing g s d₀ at from to d₀ from j
  writing_start e = rw e (record { same = refl; bytes = refl; ends = refl })

  module _ (d : List ℕ) (i j : ℕ) (w : Writing g s d₀ at from to d i j) where
    -- where there is room for the whole, there is for what the next record becomes
    pub writing_room : at + length (along g s from (to - from)) ≤ length d₀ → i < to → j + length (g i (piece s (16 * i))) ≤ length d
    writing_room h l = omega (arith, w.same, w.ends, ap length (along-next g s i to l), length-append (g i (piece s (16 * i))) (along g s (i + 1) (to - (i + 1))))

    pub writing_turn : {e : List ℕ} {k : ℕ} → i < to → length e ≡ length d → e ≡ put d j (g i (piece s (16 * i))) → k ≡ j + length (g i (piece s (16 * i)))
        → Writing g s d₀ at from to e (i + 1) k
    writing_turn {e} {k} l m p q =
        let r = g i (piece s (16 * i)) in
        let rest = along g s (i + 1) (to - (i + 1)) in
        record {
          same = m ∙ w.same;
          bytes = w.bytes ∙ rw (along-next g s i to l, p) (sym (put-put d j k r rest q));
          ends = w.ends ∙ rw (along-next g s i to l) (omega (arith, length-append r rest));
        }

    pub writing_end : to ≤ i → (d ≡ put d₀ at (along g s from (to - from))) × (j ≡ at + length (along g s from (to - from)))
    unfolding put
    writing_end l = let z = along-end g s i to l in (sym (rw z at w.bytes), omega (arith, w.ends, ap length z))

-- the records that stand from place i on, and those of a term
module _ (g : List ℕ → List ℕ) (h : Node → List ℕ) (same : (n : Node) → g (record16 n) ≡ h n) (s : List ℕ) where
  across-nodes : (i : ℕ) (ns : List Node) → Has s (16 * i) (bytes ns) → across g s i (length ns) ≡ flat_map h ns
  unfolding along flat_map
  across-nodes i [] k = refl
  across-nodes i (n ∷ ns) k =
      let l = length_record16 n in
      let e : take 16 (drop (16 * i) s) ≡ record16 n = rw l at (has_take (record16 n) (has_left (record16 n) (bytes ns) k)) in
      rw (e, same n) (ap (λ b. h n ++ b) (across-nodes (suc i) ns (has_right (record16 n) (bytes ns) (16 * suc i) (omega arith) k)))

  pub across_term : (i : ℕ) (t : Term) → StandsIn s (16 * i) t → across g s i (size t) ≡ flat_map h (nodes t)
  unfolding encode
  across_term i t k = rw (← length-nodes t) (across-nodes i (nodes t) k)
