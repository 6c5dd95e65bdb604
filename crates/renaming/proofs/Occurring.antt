-- Which atoms occur: the fields of a table's records are the atoms of its term, and 0; entering them marks just these.
use mathlib.Core.Path.{◌≡◌, refl, sym, ap, ap₂, ◌∙◌}
use mathlib.Core.Logic.{◌≢◌}
use mathlib.Core.Bool.{Bool, true, false, cond, ◌&&◌, ◌||◌}
use mathlib.Core.List.{List, [], ◌∷◌, ◌++◌, append-nil, flat_map}
use Prim.Native.Nat.{ℕ, ◌+◌, ◌-◌, ◌*◌, ◌/◌, ◌%◌, ◌≤◌, ◌<◌}
use native.Mathlib.Omega.{arith}
use native.Mathlib.Nat.{sub-zero}
use lib.Dec.{eqb}
use native.Mathlib.Numerals.{add-one}
use lib.ListN.{length, get_or, set, drop, length-set, get_or-eq_default, drop_of_length-le}
use lib.Seq.{drop-cons, get_or-set_same, get_or-set_other}
use borrow.Author.Tests.{eqb-true, eq-eqb, ne_eqb, ltb-true, lt-ltb}
use Rattle.std.specs.List.{list_all}
use Rattle.cows.specs.Basics.{any, every, member}
use Rattle.cows.specs.Terms.{Basic, nil, kill, invoke, Prefix, receive, wait, protection, delimitation, replication, Join, choice, parallel, Term, leaf, under, both, value, variable, label, datum, atom, size, delimits, uses_basic, uses_prefix, optional, atoms}
use Rattle.cows.specs.Kinds.{basic, prefix, join}
use Rattle.cows.specs.Format.{word, nodes, layout, record16, slots}
use Rattle.cows.specs.Within.{RightBasic, RightPrefix, Right}
use Rattle.cows.proofs.Basics.{never, and_true, true_and, or_left, or_right, or_case, member_append, every_append, eq_case, lt_case}
use Rattle.cows.proofs.Records.{small_atom}
use Rattle.cows.proofs.Format.{length-encode}
use Rattle.cows.proofs.Fields.{layout-first, layout_second, layout-slot}
use Rattle.cows.proofs.Cut.{flat_map_append}
use Rattle.records.specs.Holds.{Holds}
use Rattle.records.proofs.Pieces.{piece, word_piece}
use Rattle.records.proofs.StandsIn.{whole_stands}
use Rattle.renaming.specs.Mapped.{across, slot_of, named}
use Rattle.renaming.specs.Names.{action, fields, fits_in, store, entered, Entering, Marks}
use Rattle.renaming.proofs.Across.{across-next, across-end, across_term}

-- Places of atoms: no two have one, and a number of 16 bits has one below 65,536.
atom-at : ℕ → ℕ
atom-at k = 65536 * (k / 65536) + (16384 * (k % 4) + k % 65536 / 4)

slot_back : (a : ℕ) → atom-at (slot_of a) ≡ a
unfolding atom-at slot_of
slot_back a =
    let p = a / 65536 in
    let q = a / 16384 % 4 in
    let r = a % 16384 in
    let k = 65536 * p + (4 * r + q) in
    let whole : a ≡ 65536 * p + (16384 * q + r) = omega arith in
    let top : k / 65536 ≡ p = omega arith in
    let low : k % 4 ≡ q = omega arith in
    let middle : k % 65536 / 4 ≡ r = omega arith in
    rw (top, low, middle) (sym whole)

slot_apart : (a b : ℕ) → slot_of a ≡ slot_of b → a ≡ b
slot_apart a b e = sym (slot_back a) ∙ (ap atom-at e ∙ slot_back b)

pub slot_read : (a : ℕ) → a < 65536 → a % 16384 * 4 + a / 16384 ≡ slot_of a
unfolding slot_of
slot_read a h = omega arith

pub slot_small : (a : ℕ) → a < 65536 → slot_of a < 65536
unfolding slot_of
slot_small a h = omega arith

-- what has a name has a place
pub named_fits : (l : List ℕ) (a : ℕ) → named l a ≢ 0 → slot_of a < length l
named_fits l a h = lt_case (slot_of a < length l) (slot_of a) (length l) (λ k. k) (λ k. absurd (h (get_or-eq_default l 0 k)))

-- an entry after a store: of an array, and by name
pub after-set : (l : List ℕ) (i v a : ℕ) → i < length l → get_or (set l i v) a 0 ≡ cond (eqb a i) v (get_or l a 0)
after-set l i v a h =
    eq_case (get_or (set l i v) a 0 ≡ cond (eqb a i) v (get_or l a 0)) a i
    (λ e. rw (eq-eqb a i e, e) (get_or-set_same l i v 0 h))
    (λ n. rw (ne_eqb a i n) (get_or-set_other l i a v 0 n))

pub after_store : (l : List ℕ) (i v a : ℕ) → slot_of i < length l → named (store l i v) a ≡ cond (eqb a i) v (named l a)
after_store l i v a h =
    eq_case (named (store l i v) a ≡ cond (eqb a i) v (named l a)) a i
    (λ e. rw (eq-eqb a i e, e) (get_or-set_same l (slot_of i) v 0 h))
    (λ n. rw (ne_eqb a i n) (get_or-set_other l (slot_of i) (slot_of a) v 0 (λ e. n (slot_apart a i e))))

-- Entering a list of numbers, each under itself.
pub entered_append : (l xs ys : List ℕ) → entered l (xs ++ ys) ≡ entered (entered l xs) ys
unfolding entered
entered_append l [] ys = refl
entered_append l (x ∷ xs) ys = entered_append (store l x x) xs ys

pub length-entered : (l ws : List ℕ) → length (entered l ws) ≡ length l
unfolding entered
length-entered l [] = refl
length-entered l (w ∷ ws) = length-entered (store l w w) ws ∙ length-set l (slot_of w) w

entered_at : (l ws : List ℕ) → ((w : ℕ) → member w ws ≡ true → slot_of w < length l) → (a : ℕ) → named (entered l ws) a ≡ cond (member a ws) a (named l a)
unfolding entered member any
entered_at l [] h a = refl
entered_at l (w ∷ ws) h a =
    entered_at (store l w w) ws (λ b m. rw (length-set l (slot_of w) w) (h b (or_right (eqb b w) (any (eqb b) ws) m))) a
    ∙ rw (after_store l w w a (h w (or_left (eqb w w) (any (eqb w) ws) (eq-eqb w w refl)))) (go (any (eqb a) ws) (eqb a w) refl)
  where
    go : (m q : Bool) → eqb a w ≡ q → cond m a (cond q w (named l a)) ≡ cond (q || m) a (named l a)
    go true true e = refl
    go true false e = refl
    go false true e = sym (eqb-true a w e)
    go false false e = refl

-- `all` of an iterator, as the definitions have it
pub every_all : (f : ℕ → Bool) (l : List ℕ) → list_all f l ≡ every f l
unfolding every
every_all f [] = refl
every_all f (x ∷ l) = ap (λ b. f x && b) (every_all f l)

-- one turn of entering atoms that all have places: what is left of them, from the i-th on
pub every-drop : (f : ℕ → Bool) (l : List ℕ) (i : ℕ) → i < length l → every f (drop i l) ≡ (f (get_or l i 0) && every f (drop (i + 1) l))
unfolding every
every-drop f l i h = rw (add-one i, drop-cons l i 0 h)

pub entered-drop : (names l : List ℕ) (i : ℕ) → i < length l → entered names (drop i l) ≡ entered (store names (get_or l i 0) (get_or l i 0)) (drop (i + 1) l)
unfolding entered
entered-drop names l i h = rw (add-one i, drop-cons l i 0 h)

pub entered-none : (names l : List ℕ) (i : ℕ) → length l ≤ i → entered names (drop i l) ≡ names
unfolding entered
entered-none names l i h = rw (drop_of_length-le l h)

-- The fields of the record at byte k, as code reads them.
module _ (s : List ℕ) (k : ℕ) (l : List ℕ) where
  module _ {p : ℕ} (e : p ≡ word s (k + 2)) where
    pub entering_none : p ≡ 0 → Entering l (fields (piece s k)) l true
    unfolding fields entered every
    entering_none z = rw (word_piece s k 2 (omega arith), ← e, z) (record { fit = refl; left = λ t. refl })

    module _ (n : p ≢ 0) where
      pub entering_stop : fits_in (length l) p ≡ false → Entering l (fields (piece s k)) l false
      unfolding fields every
      entering_stop f = rw (word_piece s k 2 (omega arith), ← e, ne_eqb p 0 n) (record { fit = rw f; left = λ t. never t })

      module _ (f : fits_in (length l) p ≡ true) {l' : List ℕ} (q : l' ≡ store l p p) {o : ℕ} (g : o ≡ word s (k + 4)) where
        pub entering_one : o ≡ 0 → Entering l (fields (piece s k)) l' true
        unfolding fields entered every
        entering_one z = rw (word_piece s k 2 (omega arith), word_piece s k 4 (omega arith), ← e, ← g, ne_eqb p 0 n, z) (record { fit = rw f; left = λ t. q })

        pub entering_all : o ≢ 0 → {l'' : List ℕ} {r : Bool} → Entering l' (action (piece s k)) l'' r → Entering l (fields (piece s k)) l'' r
        unfolding fields entered every
        entering_all z h = rw (word_piece s k 2 (omega arith), word_piece s k 4 (omega arith), ← e, ← g, ne_eqb p 0 n, ne_eqb o 0 z) (record {
          fit = h.fit ∙ rw (f, q, length-set l (slot_of p) p);
          left = λ t. h.left t ∙ rw q;
        })

module _ (s : List ℕ) (k : ℕ) where
  pub action_read : {o w x y z : ℕ} → o ≡ word s (k + 4) → w ≡ word s (k + 6) → x ≡ word s (k + 8) → y ≡ word s (k + 10) → z ≡ word s (k + 12)
      → action (piece s k) ≡ o ∷ w ∷ x ∷ y ∷ z ∷ []
  unfolding action slots
  action_read o w x y z =
      rw (word_piece s k 4 (omega arith), word_piece s k 6 (omega arith), word_piece s k 8 (omega arith), word_piece s k 10 (omega arith), word_piece s k 12 (omega arith), o, w, x, y, z)

-- Record by record: whether all have places, all that is entered, is what was so far, and what is left from place i on.
pub record Marking-on (s l₀ l : List ℕ) (n i : ℕ) : Type 0 where
  pub same : length l ≡ length l₀
  pub fit : every (fits_in (length l₀)) (across fields s 0 n) ≡ every (fits_in (length l₀)) (across fields s i (n - i))
  pub so : entered l₀ (across fields s 0 n) ≡ entered l (across fields s i (n - i))

pub marking_start : (s l : List ℕ) (n : ℕ) → Marking-on s l l n 0
marking_start s l n = record { same = refl; fit = rw (sub-zero n); so = rw (sub-zero n) }

module _ (s l₀ l : List ℕ) (n i : ℕ) (m : Marking-on s l₀ l n i) where
  next-fit : i < n → every (fits_in (length l₀)) (across fields s 0 n) ≡ (every (fits_in (length l)) (fields (piece s (16 * i))) && every (fits_in (length l₀)) (across fields s (i + 1) (n - (i + 1))))
  next-fit h = m.fit ∙ rw (across-next fields s i n h, every_append (fits_in (length l₀)) (fields (piece s (16 * i))) (across fields s (i + 1) (n - (i + 1))), m.same)

  pub marking_turn : {e : List ℕ} {r : Bool} → i < n → Entering l (fields (piece s (16 * i))) e r → r ≡ true → Marking-on s l₀ e n (i + 1)
  marking_turn {e} h q t = record {
    same = ap length (q.left t) ∙ (length-entered l (fields (piece s (16 * i))) ∙ m.same);
    fit = next-fit h ∙ rw (← q.fit, t);
    so = m.so ∙ rw (across-next fields s i n h, entered_append l (fields (piece s (16 * i))) (across fields s (i + 1) (n - (i + 1))), q.left t);
  }

  pub marking_stop : {e : List ℕ} {r : Bool} → i < n → Entering l (fields (piece s (16 * i))) e r → r ≡ false → false ≡ every (fits_in (length l₀)) (across fields s 0 n)
  marking_stop h q f = sym (next-fit h ∙ rw (← q.fit, f))

  pub marking_end : n ≤ i → (true ≡ every (fits_in (length l₀)) (across fields s 0 n)) × (entered l₀ (across fields s 0 n) ≡ l)
  unfolding entered every
  marking_end h = (sym (m.fit ∙ rw (across-end fields s i n h)), m.so ∙ rw (across-end fields s i n h))

-- 0 is no atom
pub not-zero : (a : ℕ) → atom a ≡ true → a ≢ 0
unfolding atom datum value variable label
not-zero a h e = never (rw e at h)

value-atom : (a : ℕ) → value a ≡ true → atom a ≡ true
unfolding datum atom
value-atom a h = or_left (value a || variable a) (label a) (or_left (value a) (variable a) h)

datum-atom : (a : ℕ) → datum a ≡ true → atom a ≡ true
unfolding atom
datum-atom a h = or_left (datum a) (label a) h

label-atom : (a : ℕ) → label a ≡ true → atom a ≡ true
unfolding atom
label-atom a h = or_right (datum a) (label a) h

-- The fields of a record: its atoms, and 0. (a is any number but 0.)
module _ (a : ℕ) (z : eqb a 0 ≡ false) where
  member-slots : (ws : List ℕ) → length ws ≤ 4 → member a (get_or ws 0 0 ∷ get_or ws 1 0 ∷ get_or ws 2 0 ∷ get_or ws 3 0 ∷ []) ≡ member a ws
  unfolding member any
  member-slots [] h = rw z
  member-slots (b ∷ []) h = rw z
  member-slots (b ∷ c ∷ []) h = rw z
  member-slots (b ∷ c ∷ d ∷ []) h = rw z
  member-slots (b ∷ c ∷ d ∷ e ∷ []) h = refl
  member-slots (b ∷ c ∷ d ∷ e ∷ f ∷ ws) h = absurd (omega arith)

  member-layout : (k p o i : ℕ) (ws : List ℕ) → p ≢ 0 → o ≢ 0 → length ws ≤ 4 → member a (fields (layout k p o ws i)) ≡ (eqb a p || (eqb a o || member a ws))
  unfolding fields action slots
  member-layout k p o i ws y n h =
      rw (layout-first k p o i ws, layout_second k p o i ws, layout-slot k p o i ws 0 (omega arith), layout-slot k p o i ws 1 (omega arith), layout-slot k p o i ws 2 (omega arith), layout-slot k p o i ws 3 (omega arith), ne_eqb p 0 y, ne_eqb o 0 n)
      (unfold member any in ap (λ q. eqb a p || (eqb a o || q)) (unfold member any in member-slots ws h))

  member-bare : (k p i : ℕ) → p ≢ 0 → member a (fields (layout k p 0 [] i)) ≡ member a (p ∷ [])
  unfolding fields
  member-bare k p i y = rw (layout-first k p 0 i [], layout_second k p 0 i [], ne_eqb p 0 y)

  member-none : (k i : ℕ) → member a (fields (layout k 0 0 [] i)) ≡ false
  unfolding fields member any
  member-none k i = rw (layout-first k 0 0 i [])

  member-basic : (x : Basic) → RightBasic x → member a (fields (record16 (basic x))) ≡ member a (uses_basic x)
  unfolding record16 uses_basic member any
  member-basic nil h = member-none 0 0
  member-basic (kill k) h = member-bare 1 k 0 (not-zero k (label-atom k h))
  member-basic (invoke p o ws) h = member-layout 2 p o 0 ws (not-zero p (datum-atom p h.0)) (not-zero o (datum-atom o h.1)) h.2.0

  member-prefix : (u : Prefix) → RightPrefix u → member a (fields (record16 (prefix u))) ≡ member a (uses_prefix u ++ optional (delimits u))
  unfolding record16 uses_prefix delimits optional member any
  member-prefix (receive p o ws) h = member-layout 3 p o 0 ws (not-zero p (value-atom p h.0)) (not-zero o (value-atom o h.1)) h.2.0 ∙ rw (append-nil ws)
  member-prefix (wait n) h = member-none 4 n
  member-prefix protection h = member-none 7 0
  member-prefix (delimitation d) h = member-bare 8 d 0 (not-zero d h)
  member-prefix replication h = member-none 9 0

  member-join : (j : Join) → member a (fields (record16 (join j))) ≡ false
  unfolding record16
  member-join choice = member-none 5 0
  member-join parallel = member-none 6 0

  -- and of a term's records
  member-fields : (t : Term) → Right t → member a (flat_map (λ n. fields (record16 n)) (nodes t)) ≡ member a (atoms t)
  unfolding flat_map nodes atoms
  member-fields (leaf x) h = rw (append-nil (fields (record16 (basic x)))) (member-basic x h)
  member-fields (under u t) h =
      member_append a (fields (record16 (prefix u))) (flat_map (λ n. fields (record16 n)) (nodes t))
      ∙ (ap₂ ◌||◌ (member-prefix u h.0) (member-fields t h.1) ∙ sym (member_append a (uses_prefix u ++ optional (delimits u)) (atoms t)))
  member-fields (both j s t) h =
      member_append a (fields (record16 (join j))) (flat_map (λ n. fields (record16 n)) (nodes s ++ nodes t))
      ∙ rw (member-join j, flat_map_append (λ n. fields (record16 n)) (nodes s) (nodes t), member_append a (flat_map (λ n. fields (record16 n)) (nodes s)) (flat_map (λ n. fields (record16 n)) (nodes t)), member-fields s h.0, member-fields t h.1)
      (sym (member_append a (atoms s) (atoms t)))

-- The atoms of a right term are atoms.
every-atom : (ws : List ℕ) → every datum ws ≡ true → every atom ws ≡ true
unfolding every atom
every-atom [] h = refl
every-atom (w ∷ ws) h = let (p, q) = and_true (datum w) (every datum ws) h in true_and (datum-atom w p) (every-atom ws q)

basic-atoms : (x : Basic) → RightBasic x → every atom (uses_basic x) ≡ true
unfolding uses_basic every atom
basic-atoms nil h = refl
basic-atoms (kill k) h = true_and (label-atom k h) refl
basic-atoms (invoke p o ws) h = unfold every in every-atom (p ∷ o ∷ ws) (unfold every in true_and h.0 (true_and h.1 h.2.1))

prefix-atoms : (u : Prefix) → RightPrefix u → every atom (uses_prefix u ++ optional (delimits u)) ≡ true
unfolding uses_prefix delimits optional every
prefix-atoms (receive p o ws) h = rw (append-nil ws) (true_and (value-atom p h.0) (true_and (value-atom o h.1) (every-atom ws h.2.1)))
prefix-atoms (wait n) h = refl
prefix-atoms protection h = refl
prefix-atoms (delimitation d) h = true_and h refl
prefix-atoms replication h = refl

every-atoms : (t : Term) → Right t → every atom (atoms t) ≡ true
unfolding atoms
every-atoms (leaf x) h = basic-atoms x h
every-atoms (under u t) h = every_append atom (uses_prefix u ++ optional (delimits u)) (atoms t) ∙ true_and (prefix-atoms u h.0) (every-atoms t h.1)
every-atoms (both j s t) h = every_append atom (atoms s) (atoms t) ∙ true_and (every-atoms s h.0) (every-atoms t h.1)

every-member : (f : ℕ → Bool) (l : List ℕ) → every f l ≡ true → (a : ℕ) → member a l ≡ true → f a ≡ true
unfolding every member any
every-member f [] h a m = never m
every-member f (b ∷ l) h a m =
    let (p, q) = and_true (f b) (every f l) h in
    or_case (f a ≡ true) (eqb a b) (any (eqb a) l) m (λ e. ap f (eqb-true a b e) ∙ p) (every-member f l q a)

member-every : (f : ℕ → Bool) (l : List ℕ) → ((a : ℕ) → member a l ≡ true → f a ≡ true) → every f l ≡ true
unfolding every member any
member-every f [] h = refl
member-every f (b ∷ l) h = true_and (h b (or_left (eqb b b) (any (eqb b) l) (eq-eqb b b refl))) (member-every f l (λ a m. h a (or_right (eqb a b) (any (eqb a) l) m)))

pub atoms_right : (t : Term) → Right t → (a : ℕ) → member a (atoms t) ≡ true → atom a ≡ true
atoms_right t h = every-member atom (atoms t) (every-atoms t h)

same_cond : (b : Bool) → cond {A = ℕ} b 0 0 ≡ 0
same_cond true = refl
same_cond false = refl

-- Marks of a list and of another: those of both. (0 is marked by itself, or not at all.)
pub marks_entered : (l taken ws all : List ℕ) → Marks l taken → every (fits_in (length l)) all ≡ true → ((a : ℕ) → a ≢ 0 → member a all ≡ member a ws) → Marks (entered l all) (ws ++ taken)
marks_entered l taken ws all m fit same = record {
  room = rw (length-entered l all) m.room;
  entry = λ a. entered_at l all (λ w k. ltb-true (slot_of w) (length l) (every-member (fits_in (length l)) all fit w k)) a ∙ eq_case _ a 0 (zero a) (λ z. rw (same a z, m.entry a, member_append a ws taken) (both (member a ws) (member a taken) a));
}
  where
    both : (p q : Bool) (a : ℕ) → cond p a (cond q a 0) ≡ cond (p || q) a 0
    both true q a = refl
    both false q a = refl

    zero : (a : ℕ) → a ≡ 0 → cond (member a all) a (named l a) ≡ cond (member a (ws ++ taken)) a 0
    zero a e = rw (m.entry a, e) (rw (same_cond (member 0 taken), same_cond (member 0 all), same_cond (member 0 (ws ++ taken))))

-- What the whole table marks: its term's atoms, which have places if there is one for every atom.
module _ (s : List ℕ) (t : Term) (h : Holds s t) where
  all : List ℕ
  all = flat_map (λ r. fields (record16 r)) (nodes t)

  table_fields : across fields s 0 (length s / 16) ≡ all
  unfolding all
  table_fields =
      let n : length s / 16 ≡ size t = omega (arith, ap length h.is ∙ length-encode t) in
      rw n (across_term fields (λ r. fields (record16 r)) (λ r. refl) s 0 t (whole_stands t h.is))

  same : (b : ℕ) → b ≢ 0 → member b all ≡ member b (atoms t)
  unfolding all
  same b z = member-fields b (ne_eqb b 0 z) t h.right

  pub marked_term : (l taken : List ℕ) → every (fits_in (length l)) (across fields s 0 (length s / 16)) ≡ true → Marks l taken → Marks (entered l (across fields s 0 (length s / 16))) (atoms t ++ taken)
  marked_term l taken fit m = rw table_fields (marks_entered l taken (atoms t) all m (rw table_fields at fit) same)

  pub all_fit : (n : ℕ) → 65536 ≤ n → every (fits_in n) (across fields s 0 (length s / 16)) ≡ true
  all_fit n k = rw table_fields (member-every (fits_in n) all (λ w m. lt-ltb (slot_of w) n (omega (arith, slot_small w (small w m)))))
    where
      small : (w : ℕ) → member w all ≡ true → w < 65536
      small w m = eq_case (w < 65536) w 0 (λ e. omega arith) (λ z. small_atom w (atoms_right t h.right w (sym (same w z) ∙ m)))
