-- New atoms: the search finds the smallest one that is not taken.
use mathlib.Core.Path.{◌≡◌, refl, sym, ap, ◌∙◌}
use mathlib.Core.Logic.{◌≢◌}
use mathlib.Core.Bool.{Bool, true, false, cond, ◌||◌}
use mathlib.Core.List.{List, ◌∷◌}
use Prim.Native.Nat.{ℕ, zero, suc, ◌+◌, ◌*◌, ◌/◌, ◌%◌, ◌≤◌, ◌<◌}
use native.Mathlib.Omega.{arith}
use lib.Dec.{eqb}
use lib.ListN.{length, get_or, set, length-set}
use borrow.Author.Tests.{eqb-true, eq-eqb, ne_eqb, lt-ltb, le-ltb}
use Rattle.cows.specs.Basics.{any, member}
use Rattle.cows.specs.Terms.{atom}
use Rattle.cows.specs.Moves.{first_free, least, fresh}
use Rattle.cows.specs.Allows.{SameSet, Smallest}
use Rattle.cows.proofs.Basics.{clash, cond_case, lt_case, or_false, or_left, or_right, not_so, eq_case}
use Rattle.cows.proofs.Sets.{in-values, in-variables, in_labels, Set, alike_sets, value-range, variable-range, label-range, set_case}
use Rattle.cows.proofs.Renaming.{fresh_smallest, smallest_least}
use Rattle.records.specs.Atoms.{class_of}
use Rattle.renaming.specs.Mapped.{slot_of, named}
use Rattle.renaming.specs.Names.{store, set_of, least_of, NextFree, Taking, Wanting, AtomWanted, NewAtom}
use Rattle.renaming.proofs.Occurring.{named_fits, after-set, after_store}

-- The sets by their numbers: set k goes from least_of k to end_of k (not included).
end_of : ℕ → ℕ
end_of zero = 32768
end_of (suc zero) = 49152
end_of (suc (suc k)) = 65536

record InSet (d k : ℕ) : Type 0 where
  start : least d ≡ least_of k
  number : k < 3
  first : 1 ≤ least_of k
  last : end_of k ≤ 65536
  range : (c : ℕ) → SameSet c d → (least_of k ≤ c) × (c < end_of k)
  alike : (c : ℕ) → least_of k ≤ c → c < end_of k → SameSet c d

-- as the three tests on d say
in_row : (p q r : Bool) (d k : ℕ) → set_of d ≡ k → k < 3 → Set p q r d → ((c : ℕ) → least_of k ≤ c → c < end_of k → Set p q r c) → ((c : ℕ) → SameSet c d → (least_of k ≤ c) × (c < end_of k))
    → least d ≡ least_of k → InSet d (set_of d)
unfolding least_of end_of
in_row p q r d k e l h on back s =
    rw e (record { start = s; number = l; first = (bounds k).0; last = (bounds k).1; range = back; alike = λ c m n. alike_sets p q r c d (on c m n) h })
  where
    bounds : (k : ℕ) → (1 ≤ least_of k) × (end_of k ≤ 65536)
    bounds zero = (omega arith, omega arith)
    bounds (suc zero) = (omega arith, omega arith)
    bounds (suc (suc k)) = (omega arith, omega arith)

in_set : (d : ℕ) → atom d ≡ true → InSet d (set_of d)
unfolding set_of class_of least_of end_of least
in_set d h =
    set_case (InSet d (set_of d)) d h
    (λ e.
    let (l, u) = value-range d e in
    let s = in-values d l u in
    in_row true false false d 0 (rw (ne_eqb d 0 (λ z. omega arith), lt-ltb d 32768 u)) (omega arith) s in-values (λ c q. value-range c (q.values ∙ e)) (rw s.0))
    (λ e.
    let (l, u) = variable-range d e in
    let s = in-variables d l u in
    in_row false true false d 1 (rw (ne_eqb d 0 (λ z. omega arith), le-ltb d 32768 l, lt-ltb d 49152 u)) (omega arith) s in-variables (λ c q. variable-range c (q.variables ∙ e)) (rw (s.0, s.1)))
    (λ e.
    let (l, u) = label-range d e in
    let s = in_labels d l u in
    in_row false false true d 2 (rw (ne_eqb d 0 (λ z. omega arith), le-ltb d 32768 (omega arith), le-ltb d 49152 l)) (omega arith) s in_labels (λ c q. label-range c (q.labels ∙ e)) (rw (s.0, s.1)))

-- An atom near the first of its set has a place, and more follow.
first_near : (k n : ℕ) (taken : List ℕ) → first_free k n taken ≤ n + k
unfolding first_free
first_near zero n taken = omega arith
first_near (suc k) n taken = cond_case (λ r. r ≤ n + suc k) (member n taken) (λ e. omega (arith, first_near k (suc n) taken)) (λ e. omega arith)

near_small : (k : ℕ) → k < 3 → (a n m : ℕ) → 4 * n + 8 < m → m ≤ 65536 → least_of k ≤ a → a ≤ least_of k + (1 + n) → (1 ≤ a) × (a < 65535) × (slot_of a < m)
unfolding least_of slot_of
near_small zero h a n m f r l u =
    let p : a / 65536 ≡ 0 = omega arith in
    let q : a / 16384 ≡ 0 = omega arith in
    let z : a % 16384 + 0 ≡ a = omega arith in
    (omega arith, omega arith, omega arith)
near_small (suc zero) h a n m f r l u =
    let p : a / 65536 ≡ 0 = omega arith in
    let q : a / 16384 ≡ 2 = omega arith in
    let z : a % 16384 + 32768 ≡ a = omega arith in
    (omega arith, omega arith, omega arith)
near_small (suc (suc zero)) h a n m f r l u =
    let p : a / 65536 ≡ 0 = omega arith in
    let q : a / 16384 ≡ 3 = omega arith in
    let z : a % 16384 + 49152 ≡ a = omega arith in
    (omega arith, omega arith, omega arith)
near_small (suc (suc (suc k))) h a n m f r l u = absurd (omega arith)

-- What the search from next[k] on finds is the smallest atom of d's set that is not taken.
module _ (names next taken : List ℕ) (d : ℕ) (w : Wanting names next taken d) where
  abbrev new : ℕ
  new = fresh taken d

  new_smallest : Smallest taken d new
  new_smallest = fresh_smallest taken d w.right (omega (arith, w.few, w.taking.room))

  place : InSet d (set_of d)
  place = in_set d w.right

  -- the new atom is of d's set
  new_low : least_of (set_of d) ≤ new
  new_low = (place.range new new_smallest.set).0

  new_high : new < end_of (set_of d)
  new_high = (place.range new new_smallest.set).1

  -- and near the first of it, so that it has a place
  new_near : new ≤ least_of (set_of d) + (1 + length taken)
  unfolding fresh
  new_near = rw (← place.start) (omega (arith, first_near (suc (length taken)) (least d) taken))

  pub new_small : (1 ≤ new) × (new < 65535) × (slot_of new < length names)
  new_small = near_small (set_of d) place.number new (length taken) (length names) w.few w.taking.room new_low new_near

  pub new_apart : (a : ℕ) → member a taken ≡ true → a ≢ new
  new_apart a m e = clash m (ap (λ b. member b taken) e ∙ new_smallest.free)

  taken_nonzero : (a : ℕ) → named names a ≡ 0 → member a taken ≡ false
  taken_nonzero a z = not_so (λ m. w.taking.used a m z)

  next-new : (r : ℕ) → NextFree names (get_or next (set_of d) 0) r → r ≡ new
  next-new r f =
      let k = set_of d in
      let none = new_smallest.free in
      let p : get_or next k 0 ≤ new = lt_case (get_or next k 0 ≤ new) new (get_or next k 0) (λ l. clash (w.taking.passed k place.number new new_low l) none) (λ l. l) in
      let q : r ≤ new = lt_case (r ≤ new) new r (λ l. absurd (f.used new p l (w.taking.free new none))) (λ l. l) in
      let z : named names r ≡ 0 = f.free (omega (arith, new_small)) in
      let s = place.alike r (omega (arith, w.taking.from k place.number, f.past)) (omega (arith, new_high)) in
      omega (arith, new_smallest.least r s (taken_nonzero r z))

  -- it is then taken
  names_after : (a : ℕ) → named (store names new new) a ≡ cond (eqb a new) new (named names a)
  names_after a = after_store names new new a new_small.2

  next-after : (k : ℕ) → get_or (set next (set_of d) (new + 1)) k 0 ≡ cond (eqb k (set_of d)) (new + 1) (get_or next k 0)
  next-after k = after-set next (set_of d) (new + 1) k (omega (arith, w.taking.sets, place.number))

  new_used : (a : ℕ) → member a (new ∷ taken) ≡ true → named (store names new new) a ≢ 0
  unfolding member any
  new_used a m = rw (names_after a) (go (eqb a new) m)
    where
      go : (p : Bool) → (p || any (eqb a) taken) ≡ true → cond p new (named names a) ≢ 0
      go true h z = omega (arith, new_small)
      go false h z = w.taking.used a (unfold member in h) z

  new_free : (a : ℕ) → member a (new ∷ taken) ≡ false → named (store names new new) a ≡ 0
  unfolding member any
  new_free a m =
      let (p, q) = or_false (eqb a new) (any (eqb a) taken) m in
      names_after a ∙ rw p (w.taking.free a (unfold member any in q))

  new-passed : (k : ℕ) → k < 3 → (a : ℕ) → least_of k ≤ a → a < get_or (set next (set_of d) (new + 1)) k 0 → member a (new ∷ taken) ≡ true
  unfolding member any fresh
  new-passed k h a l u = go (eqb k (set_of d)) refl (rw (next-after k) at u)
    where
      go : (p : Bool) → eqb k (set_of d) ≡ p → a < cond p (new + 1) (get_or next k 0) → (eqb a new || any (eqb a) taken) ≡ true
      go true e v =
          eq_case ((eqb a new || any (eqb a) taken) ≡ true) a new (λ q. or_left (eqb a new) _ (eq-eqb a new q))
          (λ n.
          let s : least d ≤ a = rw (place.start, ← eqb-true k (set_of d) e) l in
          or_right (eqb a new) (any (eqb a) taken) (unfold member any in smallest_least (suc (length taken)) (least d) taken a s (unfold fresh in omega arith)))
      go false e v = or_right (eqb a new) (any (eqb a) taken) (w.taking.passed k h a l v)

  new_taking : Taking (store names new new) (set next (set_of d) (new + 1)) (new ∷ taken)
  new_taking = record {
    room = rw (length-set names (slot_of new) new) w.taking.room;
    sets = length-set next (set_of d) (new + 1) ∙ w.taking.sets;
    none = names_after 0 ∙ rw (ne_eqb 0 new (λ e. omega (arith, new_small))) w.taking.none;
    used = new_used;
    free = new_free;
    from = λ k h. rw (next-after k) (cond_case (λ n. least_of k ≤ n) (eqb k (set_of d)) (λ e. rw (eqb-true k (set_of d) e) (omega (arith, new_low))) (λ e. w.taking.from k h));
    passed = new-passed;
  }

-- the same of what code found: the number k of the set, and the free place r
module _ (names next : List ℕ) (d k r : ℕ) (e : k ≡ set_of d) (f : NextFree names (get_or next k 0) r) where
  found-new : (taken : List ℕ) → Wanting names next taken d → r ≡ fresh taken d
  found-new taken w = next-new names next taken d w r (rw (← e) f)

  pub found_small : AtomWanted names next d → (r < 65535) × (slot_of r < length names)
  found_small w = let n = new_small names next w.taken d w.wanting in rw (found-new w.taken w.wanting) (n.1, n.2)

  pub found-taken : (taken : List ℕ) → Wanting names next taken d → NewAtom names next d (store names r r) (set next k (r + 1)) r taken
  found-taken taken w = record { is = found-new taken w; entered = refl; taking = rw (e, found-new taken w) (new_taking names next taken d w) }

-- a taken atom may get any name
pub taking_store : (names next taken : List ℕ) (d v : ℕ) → Taking names next taken → member d taken ≡ true → v ≢ 0 → Taking (store names d v) next taken
taking_store names next taken d v t m z = record {
  room = rw (length-set names (slot_of d) v) t.room;
  sets = t.sets;
  none = at 0 ∙ rw (ne_eqb 0 d (λ e. t.used d m (ap (named names) (sym e) ∙ t.none))) t.none;
  used = λ a n. rw (at a) (cond_case (λ x. x ≢ 0) (eqb a d) (λ e. z) (λ e. t.used a n));
  free = λ a n. at a ∙ rw (ne_eqb a d (λ e. clash m (ap (λ b. member b taken) (sym e) ∙ n))) (t.free a n);
  from = t.from;
  passed = t.passed;
}
  where
    at : (a : ℕ) → named (store names d v) a ≡ cond (eqb a d) v (named names a)
    at a = after_store names d v a (named_fits names d (t.used d m))
