-- Where the terms of a table end (specs/Ends): the ends that a backward pass finds; the shape of a table by its first end.
use mathlib.Core.Path.{◌≡◌, refl, sym, ap, subst, ◌∙◌}
use mathlib.Core.Option.{Option, none, some}
use mathlib.Core.List.{List, map}
use Prim.Native.Nat.{ℕ, zero, suc, ◌+◌, ◌*◌, ◌-◌, ◌/◌, ◌≤◌, ◌<◌}
use native.Mathlib.Omega.{arith}
use mathlib.Core.Bool.{true}
use lib.Dec.{ltb, eqb}
use lib.ListN.{length, get_or, set, drop, length-set, length-drop, length-map, drop_of_length-le}
use lib.Seq.{drop-drop, get_or-set_same, get_or-set_other}
use borrow.Author.Tests.{ltb-true, eqb-true, eqb-false, le-ltb, lt-ltb}
use Rattle.cows.specs.Basics.{place_if}
use Rattle.cows.specs.Terms.{Term, leaf, under, both, size}
use Rattle.cows.specs.Kinds.{kinds, children_of, kind}
use Rattle.cows.specs.Places.{sub}
use Rattle.cows.specs.Format.{byte, right_record, encode, read_node, records}
use Rattle.cows.specs.Tables.{first_wrong, end_of, wrong_end, children, misshapen}
use Rattle.cows.proofs.Rows.{kind-cases, arity, children_few}
use Rattle.cows.proofs.Format.{length-encode}
use Rattle.cows.proofs.Basics.{bool_case, and_true}
use Rattle.cows.proofs.Cut.{length_cut, cut_cons, failing_none}
use Rattle.cows.proofs.Ends.{end_none, end_one, end_bounds, end_add, end_short, end-map}
use Rattle.cows.proofs.Scopes.{all_map}
use Rattle.records.specs.Ends.{wants, end_at, pick_end, EndsFrom}
use Rattle.records.specs.Rewrites.{StandsIn}
use Rattle.records.specs.Answers.{place_or}
use Rattle.records.proofs.Pieces.{piece, first_piece}
use Rattle.records.proofs.StandsIn.{long, stands_children, stands_fits, stands_under, stands_left, stands_right, part_stands}

-- The end at a place, from those behind it.
module _ (s : List ℕ) where
  abbrev over : ℕ
  over = suc (length s / 16)

  -- the end of so many terms
  abbrev end_of_terms : ℕ → ℕ → Option ℕ
  end_of_terms w m = end_of wants w m (drop m (records s))

  pub end-within : (m : ℕ) → m ≤ length s / 16 + 1 → (m ≤ end_at s m) × (end_at s m ≤ length s / 16 + 1)
  unfolding end_at
  end-within m h = go (end_of_terms 1 m) (end_bounds wants 1 m (drop m (records s)))
    where
      go : (o : Option ℕ) → ((e : ℕ) → o ≡ some e → (m ≤ e) × (e ≤ m + length (drop m (records s)))) → (m ≤ place_or over o) × (place_or over o ≤ length s / 16 + 1)
      go none f = omega arith
      go (some e) f = omega (arith, f e refl, length-drop m (records s), length_cut 16 s)

  pub end_over : (m : ℕ) → length s / 16 ≤ m → end_at s m ≡ length s / 16 + 1
  unfolding end_at end_of
  end_over m h = rw (drop_of_length-le (records s) {i = m} (omega (arith, length_cut 16 s))) (omega arith)

  end_two : (m : ℕ) (o : Option ℕ) → end_of_terms 1 m ≡ o → place_or over (end_of_terms 2 m) ≡ end_at s (place_or over o)
  unfolding end_at
  end_two m none q = ap (place_or over) (end_short wants 1 1 m (drop m (records s)) q) ∙ sym (end_over over (omega arith) ∙ omega arith)
  end_two m (some e) q =
      let z : m + (e - m) ≡ e = omega (arith, end_bounds wants 1 m (drop m (records s)) e q) in
      rw (end_add wants 1 1 m (drop m (records s)) e q, drop-drop (e - m) m (records s), z)

  pub end_pick : (m c : ℕ) → m < length s / 16 → c ≡ children_of (get_or s (16 * m) 0) → c ≤ 2 → end_at s m ≡ pick_end c (suc m) (end_at s (suc m)) (end_at s (end_at s (suc m)))
  unfolding pick_end end_at
  end_pick m c h e l = rw (cut_cons 16 s m h, end_one wants m (piece s (16 * m)) (drop (suc m) (records s)) c (ap children_of (first_piece s (16 * m)) ∙ sym e)) (go c l)
    where
      go : (c : ℕ) → c ≤ 2 → place_or over (end_of_terms c (suc m)) ≡ pick_end c (suc m) (end_at s (suc m)) (end_at s (end_at s (suc m)))
      go zero l = ap (place_or over) (end_none wants (suc m) (drop (suc m) (records s)))
      go (suc zero) l = refl
      go (suc (suc zero)) l = end_two (suc m) (end_of_terms 1 (suc m)) refl
      go (suc (suc (suc c))) l = absurd (omega arith)

  -- The pass that finds the ends: its start, its turn, and an end that it reads.
  pub ends_start : (d : List ℕ) → length s / 16 ≤ 2048 → length s / 16 + 1 < length d
      → EndsFrom s (set (set d (length s / 16 + 1) (length s / 16 + 1)) (length s / 16) (length s / 16 + 1)) (length s / 16)
  ends_start d few room =
      record {
        few = few;
        room = omega (arith, length-set (set d (n + 1) (n + 1)) n (n + 1), length-set d (n + 1) (n + 1));
        end = λ m a b. at m a b ∙ sym (end_over m a);
      }
    where
      n : ℕ
      n = length s / 16

      at : (m : ℕ) → n ≤ m → m ≤ n + 1 → get_or (set (set d (n + 1) (n + 1)) n (n + 1)) m 0 ≡ n + 1
      at m a b =
          bool_case _ (eqb m n) (λ e. rw (eqb-true m n e) (get_or-set_same (set d (n + 1) (n + 1)) n (n + 1) 0 (omega (arith, length-set d (n + 1) (n + 1)))))
          (λ e.
          let f : m ≡ n + 1 = omega (arith, eqb-false m n e) in
          get_or-set_other (set d (n + 1) (n + 1)) n m (n + 1) 0 (eqb-false m n e) ∙ rw f (get_or-set_same d (n + 1) (n + 1) 0 room))

  pub end-bound : (d : List ℕ) (i : ℕ) → EndsFrom s d i → i ≤ length s / 16 → get_or d i 0 ≤ length s / 16 + 1
  end-bound d i h l = rw (h.end i (omega arith) (omega arith)) (end-within i (omega arith)).1

  pub ends_more : (d : List ℕ) (i a b c r : ℕ) → EndsFrom s d i → 0 < i → i ≤ length s / 16 → a ≡ get_or d i 0 → b ≡ get_or d a 0
      → (c ≡ children_of (get_or s (16 * (i - 1)) 0)) × (c ≤ 2) → r ≡ pick_end c i a b → EndsFrom s (set d (i - 1) r) (i - 1)
  ends_more d i a b c r h pos le ea eb ec er =
      record {
        few = h.few;
        room = rw (length-set d (i - 1) r) h.room;
        end = λ m lo hi.
            bool_case _ (eqb m (i - 1))
            (λ e. rw (eqb-true m (i - 1) e) (get_or-set_same d (i - 1) r 0 (omega (arith, h.room)) ∙ here))
            (λ e. get_or-set_other d (i - 1) m r 0 (eqb-false m (i - 1) e) ∙ h.end m (omega (arith, eqb-false m (i - 1) e)) hi);
      }
    where
      a_is : a ≡ end_at s i
      a_is = ea ∙ h.end i (omega arith) (omega arith)

      b_is : b ≡ end_at s (end_at s i)
      b_is = eb ∙ (h.end a (omega (arith, a_is, end-within i (omega arith))) (omega (arith, a_is, end-within i (omega arith))) ∙ ap (end_at s) a_is)

      here : r ≡ end_at s (i - 1)
      here =
          let z : i ≡ suc (i - 1) = omega arith in
          er ∙ (rw (a_is, b_is) (ap (λ j. pick_end c j (end_at s j) (end_at s (end_at s j))) z) ∙ sym (end_pick (i - 1) c (omega arith) ec.0 ec.1))

-- The shape of a table whose records are right, by the end at place 0: all records, some over, or too few.
abbrev pub Shape : ℕ → ℕ → Option ℕ → Type 0
Shape e n o = (e ≡ n → o ≡ none) × (e < n → o ≡ some e) × (n < e → o ≡ some n)

shape_end : (n : ℕ) (o : Option ℕ) → ((e : ℕ) → o ≡ some e → e ≤ n) → Shape (place_or (suc n) o) n (wrong_end n o)
unfolding wrong_end place_if
shape_end n none l = (λ h. absurd (omega arith), λ h. absurd (omega arith), λ h. refl)
shape_end n (some e) l = (λ h. rw (le-ltb e n (omega arith)), λ h. rw (lt-ltb e n h), λ h. absurd (omega (arith, l e refl)))

right_kind : (b : List ℕ) → right_record b ≡ true → byte b 0 ≡ kind (read_node b)
unfolding right_record kinds read_node
right_kind b h =
    kind-cases (λ k. byte b 0 ≡ k → k < 10 → byte b 0 ≡ kind (read_node b))
    (λ e l. rw e, λ e l. rw e, λ e l. rw e, λ e l. rw e, λ e l. rw e, λ e l. rw e, λ e l. rw e, λ e l. rw e, λ e l. rw e, λ e l. rw e) (λ n e l. absurd (omega arith))
    (byte b 0) refl (ltb-true (byte b 0) 10 (and_true (ltb (byte b 0) 10) _ h).0)

pub end_shape : (s : List ℕ) → first_wrong 0 (records s) ≡ none → Shape (end_at s 0) (length s / 16) (misshapen (map read_node (records s)))
unfolding end_at misshapen
end_shape s h =
    let ns = map read_node (records s) in
    let l : length ns ≡ length s / 16 = rw length-map (length_cut 16 s) in
    let e = end-map wants children read_node 1 0 (records s) (all_map _ _ (λ b r. ap children_of (right_kind b r)) (records s) (failing_none right_record 0 (records s) h)) in
    rw (e, l) (shape_end (length s / 16) (end_of children 1 0 ns) (λ k q. omega (arith, end_bounds children 1 0 ns k q)))

-- A term that stands at a place ends its size behind it.
module _ (s : List ℕ) where
  end-first : (t : Term) (m : ℕ) → StandsIn s (16 * m) t → end_at s m ≡ pick_end (arity t) (suc m) (end_at s (suc m)) (end_at s (end_at s (suc m)))
  end-first t m h =
      let e = stands_children t h in
      end_pick s m (arity t) (omega (arith, long t, stands_fits t h)) (sym e) (omega (arith, e, children_few (get_or s (16 * m) 0)))

  stands_next : (t : Term) (m : ℕ) → StandsIn s (16 * m + 16) t → StandsIn s (16 * suc m) t
  stands_next t m h = subst (λ i. StandsIn s i t) (omega arith) h

  pub end_stands : (t : Term) (m : ℕ) → StandsIn s (16 * m) t → end_at s m ≡ m + size t
  unfolding size pick_end
  end_stands (leaf x) m h = end-first (leaf x) m h ∙ omega arith
  end_stands (under u t) m h = end-first (under u t) m h ∙ (end_stands t (suc m) (stands_next t m (stands_under u t h)) ∙ omega arith)
  end_stands (both j l r) m h =
      let a = end_stands l (suc m) (stands_next l m (stands_left j l r h)) in
      let b = end_stands r (suc m + size l) (stands_right j l r (16 * (suc m + size l)) (omega (arith, length-encode l)) h) in
      end-first (both j l r) m h ∙ (ap (end_at s) a ∙ (b ∙ omega arith))

pub end_term : (t : Term) (m : ℕ) → m < size t → end_at (encode t) m ≡ m + size (sub t m)
end_term t m l = end_stands (encode t) (sub t m) m (part_stands t m l)
