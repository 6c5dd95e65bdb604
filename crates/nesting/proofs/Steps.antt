-- Reading an expression record by record (specs/Nesting, NestsTo): a fault here, a record without parts, one with two.
use mathlib.Core.Path.{◌≡◌, refl, sym, ap, ◌∙◌}
use mathlib.Core.Bool.{true, false, cond, ◌||◌}
use mathlib.Core.Option.{some}
use mathlib.Core.List.{List, [], ◌∷◌, ◌++◌, map}
use Prim.Native.Nat.{ℕ, zero, suc, ◌+◌, ◌*◌, ◌/◌, ◌≤◌, ◌<◌}
use native.Mathlib.Omega.{arith}
use native.Mathlib.Numerals.{add-one}
use borrow.Author.Tests.{lt-ltb, le-ltb, eqb-false, ne_eqb, ltb-true, ltb-false}
use lib.Dec.{ltb, eqb}
use lib.ListN.{length, get_or, take, drop, replicate}
use Rattle.cows.specs.Format.{byte}
use Rattle.cows.specs.Cut.{cut}
use Rattle.cows.proofs.Basics.{eq_case, lt_case, or_false, or_second}
use Rattle.cows.proofs.Cut.{cut_cons, cut-end}
use Rattle.records.proofs.Pieces.{first-cut}
use Rattle.records.specs.Answers.{found_of}
use Rattle.orc.specs.Expressions.{max_nesting}
use Rattle.orc.specs.Scripts.{parts, read_orc_node, nodes_of, misplaced}
use Rattle.std.specs.Prelude.{Some, Result, Ok, Err}
use Rattle.std.specs.Result.{IsErrAnd}
use Rattle.std.specs.Bool.{then_some}
use Rattle.nesting.specs.Nesting.{scan, NestsTo}
use Rattle.nesting.proofs.Scan.{scan-misplaced}

-- how many parts a record has, by its kind as the code tests it
parts_by : ℕ → ℕ
parts_by k = cond (ltb k 2 || ltb 4 k) 0 2

parts-kind : (b : List ℕ) (k : ℕ) → byte b 0 ≡ k → parts (read_orc_node b) ≡ parts_by k
unfolding parts read_orc_node parts_by
parts-kind b zero e = rw e
parts-kind b (suc zero) e = rw e
parts-kind b (suc (suc zero)) e = rw e
parts-kind b (suc (suc (suc zero))) e = rw e
parts-kind b (suc (suc (suc (suc zero)))) e = rw e
parts-kind b (suc (suc (suc (suc (suc k))))) e =
    let m : ℕ = suc (suc (suc (suc (suc k)))) in
    rw (e, le-ltb m 2 (omega arith), lt-ltb 4 m (omega arith))

-- the records of a script from a place on
drop-map : {A B : Type 0} (f : A → B) (n : ℕ) (xs : List A) → drop n (map f xs) ≡ map f (drop n xs)
drop-map f zero xs = refl
drop-map f (suc n) [] = refl
drop-map f (suc n) (x ∷ xs) = drop-map f n xs

module _ (s : List ℕ) (n : ℕ) where
  nodes_cons : n < length s / 8 → drop n (nodes_of s) ≡ read_orc_node (take 8 (drop (8 * n) s)) ∷ drop (n + 1) (nodes_of s)
  nodes_cons h = rw (drop-map read_orc_node n (cut 8 s), drop-map read_orc_node (n + 1) (cut 8 s), add-one n, cut_cons 8 s n h)

  nodes-end : length s / 8 ≤ n → drop n (nodes_of s) ≡ []
  nodes-end h = rw (drop-map read_orc_node n (cut 8 s), cut-end 8 s n h)

module _ (s : List ℕ) (n d : ℕ) where
  -- a fault here: no record is left, or the depth is over 64
  missing : length s / 8 ≤ n → NestsTo s d n (Err n)
  unfolding scan
  missing h ds = rw (nodes-end s n h)

  deep : n < length s / 8 → 64 < d → NestsTo s d n (Err n)
  unfolding scan
  deep l h ds = rw (nodes_cons s n l, lt-ltb max_nesting d h)

  module _ (l : n ≤ length s / 8) where
    pub stops : (eqb n (length s / 8) || ltb 64 d) ≡ true → NestsTo s d n (Err n)
    stops h =
        eq_case (NestsTo s d n (Err n)) n (length s / 8)
        (λ e. missing (omega arith))
        (λ e. deep (omega arith) (ltb-true 64 d (or_second (ne_eqb n (length s / 8) e) h)))

    -- a record: it has no parts, or a left one and a right one, each one deeper
    module _ (goes : (eqb n (length s / 8) || ltb 64 d) ≡ false) where
      pub inside : (n < length s / 8) × (d ≤ 64)
      inside =
          let (e, f) = or_false (eqb n (length s / 8)) (ltb 64 d) goes in
          omega (arith, eqb-false n (length s / 8) e, ltb-false 64 d f)

      step : (ds : List ℕ) → scan (d ∷ ds) n (drop n (nodes_of s)) ≡ scan (replicate (parts_by (get_or s (8 * n) 0)) (d + 1) ++ ds) (n + 1) (drop (n + 1) (nodes_of s))
      unfolding scan
      step ds =
          let e = parts-kind (take 8 (drop (8 * n) s)) (get_or s (8 * n) 0) (first-cut 8 s (8 * n) (omega arith)) in
          rw (nodes_cons s n inside.0, le-ltb max_nesting d inside.1, e, add-one d, add-one n)

      pub single_read : (ltb (get_or s (8 * n) 0) 2 || ltb 4 (get_or s (8 * n) 0)) ≡ true → NestsTo s d n (Ok (n + 1))
      unfolding parts_by
      single_read h = (omega arith, omega (arith, inside), λ ds. step ds ∙ rw h)

      module _ (h : (ltb (get_or s (8 * n) 0) 2 || ltb 4 (get_or s (8 * n) 0)) ≡ false) where
        parts_step : (ds : List ℕ) → scan (d ∷ ds) n (drop n (nodes_of s)) ≡ scan ((d + 1) ∷ (d + 1) ∷ ds) (n + 1) (drop (n + 1) (nodes_of s))
        unfolding parts_by
        parts_step ds = step ds ∙ rw h

        pub left_fault : (r : Result ℕ ℕ) (p : ℕ) → IsErrAnd r (λ q. q ≡ p) → NestsTo s (d + 1) (n + 1) (Err p) → NestsTo s d n r
        left_fault (Ok m) p e f = absurd e
        left_fault (Err q) p e f = λ ds. parts_step ds ∙ (f ((d + 1) ∷ ds) ∙ ap some (sym e))

        pub right_read : (r : Result ℕ ℕ) (m : ℕ) → NestsTo s (d + 1) (n + 1) (Ok m) → NestsTo s (d + 1) m r → NestsTo s d n r
        right_read (Ok k) m f g = (omega arith, g.1, λ ds. parts_step ds ∙ (f.2 ((d + 1) ∷ ds) ∙ g.2 ds))
        right_read (Err p) m f g = λ ds. parts_step ds ∙ (f.2 ((d + 1) ∷ ds) ∙ g ds)

-- the whole script: one expression at place 0, of depth 1, and the first record behind it
module _ (s : List ℕ) where
  over : (m : ℕ) → then_some (ltb m (length s / 8)) m ≡ found_of (scan [] m (drop m (nodes_of s)))
  unfolding scan
  over m =
      lt_case (then_some (ltb m (length s / 8)) m ≡ found_of (scan [] m (drop m (nodes_of s)))) m (length s / 8)
      (λ h. rw (nodes_cons s m h, lt-ltb m (length s / 8) h))
      (λ h. rw (nodes-end s m h, le-ltb m (length s / 8) h))

  pub whole_read : (m : ℕ) → NestsTo s 1 0 (Ok m) → then_some (ltb m (length s / 8)) m ≡ found_of (misplaced (nodes_of s))
  whole_read m h = over m ∙ ap found_of (sym (h.2 []) ∙ scan-misplaced (nodes_of s))

  pub whole_fault : (p : ℕ) → NestsTo s 1 0 (Err p) → Some p ≡ found_of (misplaced (nodes_of s))
  whole_fault p h = ap found_of (sym (h []) ∙ scan-misplaced (nodes_of s))
