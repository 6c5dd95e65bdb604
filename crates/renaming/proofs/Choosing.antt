-- Renaming one delimited atom after the other: the names so far, and the renaming of those that are left, are the whole renaming.
use mathlib.Core.Path.{◌≡◌, refl, sym, ap, ap₂, ◌∙◌}
use mathlib.Core.Logic.{◌≢◌}
use mathlib.Core.Bool.{Bool, true, false, cond, ◌||◌}
use mathlib.Core.Option.{Option, none, some}
use mathlib.Core.List.{List, [], ◌∷◌, ◌++◌, flat_map}
use Prim.Native.Nat.{ℕ, zero, suc, ◌+◌, ◌-◌, ◌*◌, ◌≤◌, ◌<◌}
use native.Mathlib.Omega.{arith}
use lib.Dec.{eqb}
use lib.ListN.{length, get_or, length-set}
use borrow.Author.Tests.{eq-eqb, ne_eqb}
use Rattle.cows.specs.Basics.{any, every, member, found_with, one_if}
use Rattle.cows.specs.Terms.{nil, kill, invoke, receive, wait, protection, delimitation, replication, choice, parallel, Term, leaf, under, both, atom, size, delimits, delimits_atom, optional, binders}
use Rattle.cows.specs.Kinds.{Node, basic, prefix, join}
use Rattle.cows.specs.Format.{byte, word, nodes, layout, record16}
use Rattle.cows.specs.Within.{counts}
use Rattle.cows.specs.Moves.{image, fresh, renaming}
use Rattle.cows.proofs.Basics.{never, bool_case, cond_case, and_true, or_left, or_right}
use Rattle.cows.proofs.Scopes.{member-counts}
use Rattle.cows.proofs.Atoms.{In, in_refl, counts-atoms, few_binders, binders_right}
use Rattle.cows.proofs.Renaming.{image_other, times, times_append}
use Rattle.cows.proofs.Fields.{layout-first}
use Rattle.cows.proofs.Cut.{flat_map_append}
use Rattle.records.proofs.Pieces.{word_piece, first_piece}
use Rattle.records.specs.Rewrites.{StandsIn}
use Rattle.renaming.specs.Mapped.{across, slot_of, named}
use Rattle.renaming.specs.Names.{delimited, store, least_of, Marks, Taking, Wanting, AtomWanted, NewAtom, Marking, Marked, Chosen}
use Rattle.renaming.proofs.Across.{across-next, across-end, across_term}
use Rattle.renaming.proofs.Occurring.{named_fits, after_store, not-zero}
use Rattle.renaming.proofs.Fresh.{new_small, new_apart, taking_store}

-- how often a list has an atom that is in it; a term's delimitations
times_member : (a : ℕ) (ds : List ℕ) → member a ds ≡ true → 1 ≤ times a ds
unfolding member any
times_member a [] m = never m
times_member a (d ∷ ds) m = bool_case (1 ≤ one_if (eqb a d) + times a ds) (eqb a d) (λ e. rw e (omega arith)) (λ e. omega (arith, times_member a ds (unfold member any in (rw e at m))))

times_optional : (a : ℕ) (o : Option ℕ) → times a (optional o) ≡ one_if (found_with (eqb a) o)
unfolding optional found_with
times_optional a none = refl
times_optional a (some d) = omega arith

times_binders : (a : ℕ) (t : Term) → times a (binders t) ≡ counts a t
unfolding binders delimits_atom
times_binders a (leaf x) = refl
times_binders a (under u t) = omega (arith, times_append a (optional (delimits u)) (binders t), times_optional a (delimits u), times_binders a t)
times_binders a (both j s t) = omega (arith, times_append a (binders s) (binders t), times_binders a s, times_binders a t)

-- Of the atoms `known`, those in `all` are renamed; those in `left` are still to be renamed.
pub record Choosing (known all names next left : List ℕ) : Type 0 where
  pub taken : List ℕ
  pub taking : Taking names next taken
  pub few : 4 * (length taken + length left) + 8 < length names
  pub keeps : In known taken
  pub among : In left known
  pub right : every atom left ≡ true
  pub once : (a : ℕ) → times a left ≤ 1
  pub answer : (a : ℕ) → member a known ≡ true → image (renaming known all) a ≡ cond (member a left) (image (renaming taken left) a) (named names a)

module _ (known all names next : List ℕ) where
  -- the next one
  module _ (d : ℕ) (left : List ℕ) (c : Choosing known all names next (d ∷ left)) where
    pub choosing_wants : Wanting names next c.taken d
    unfolding every member any
    choosing_wants = record {
      taking = c.taking;
      few = omega (arith, c.few);
      right = (and_true (atom d) (every atom left) c.right).0;
    }

    known_next : member d c.taken ≡ true
    unfolding member any
    known_next = unfold member any in c.keeps d (c.among d (or_left (eqb d d) (any (eqb d) left) (eq-eqb d d refl)))

    pub choosing_fits : slot_of d < length names
    choosing_fits = named_fits names d (c.taking.used d known_next)

    abbrev new : ℕ
    new = fresh c.taken d

    next_taking : {next' : List ℕ} → Taking (store names new new) next' (new ∷ c.taken) → Taking (store (store names new new) d new) next' (new ∷ c.taken)
    unfolding member any
    next_taking t = taking_store _ _ (new ∷ c.taken) d new t (unfold member any in or_right (eqb d new) _ known_next) (λ z. omega (arith, new_small names next c.taken d choosing_wants))

    step_answer : (a : ℕ) → member a known ≡ true → named (store (store names new new) d new) a ≡ cond (eqb a d) new (named names a)
    step_answer a m =
        after_store (store names new new) d new a (rw (length-set names (slot_of new) new) choosing_fits)
        ∙ ap (cond (eqb a d) new) (after_store names new new a (new_small names next c.taken d choosing_wants).2 ∙ rw (ne_eqb a new (new_apart names next c.taken d choosing_wants a (c.keeps a m))))

    pub choosing_step : (next' : List ℕ) → Taking (store names new new) next' (new ∷ c.taken) → Choosing known all (store (store names new new) d new) next' left
    unfolding every member any image renaming
    choosing_step next' t = record {
      taken = new ∷ c.taken;
      taking = next_taking t;
      few = omega (arith, c.few, length-set names (slot_of new) new, length-set (store names new new) (slot_of d) new);
      keeps = λ a m. or_right (eqb a new) _ (c.keeps a m);
      among = λ a m. c.among a (or_right (eqb a d) _ m);
      right = (and_true (atom d) (every atom left) c.right).1;
      once = λ a. omega (arith, c.once a);
      answer = λ a m. c.answer a m ∙ rw (step_answer a m) (go a (eqb a d) refl (member a left) refl);
    }
      where
        go : (a : ℕ) (p : Bool) → eqb a d ≡ p → (q : Bool) → member a left ≡ q
            → cond (p || q) (cond p new (image (renaming (new ∷ c.taken) left) a)) (named names a) ≡ cond q (image (renaming (new ∷ c.taken) left) a) (cond p new (named names a))
        go a true e true m = absurd (omega (arith, times_member a left m, c.once a, ap one_if e))
        go a true e false m = refl
        go a false e true m = refl
        go a false e false m = refl

  -- none is left
  pub choosing_end : Choosing known all names next [] → (a : ℕ) → member a known ≡ true → named names a ≡ image (renaming known all) a
  unfolding member any
  choosing_end c a m = sym (c.answer a m)

-- The atoms that a term's records delimit, in record order: read off 16 bytes, and off a record.
binds : Node → List ℕ
binds (basic x) = []
binds (prefix u) = optional (delimits u)
binds (join j) = []

other_binds : (k p o i : ℕ) (ws : List ℕ) → eqb k 8 ≡ false → delimited (layout k p o ws i) ≡ []
unfolding byte layout
other_binds k p o i ws e = rw e

record_binds : (n : Node) → delimited (record16 n) ≡ binds n
unfolding binds delimits optional record16 byte layout
record_binds (basic nil) = other_binds 0 0 0 0 [] refl
record_binds (basic (kill k)) = other_binds 1 k 0 0 [] refl
record_binds (basic (invoke p o ws)) = other_binds 2 p o 0 ws refl
record_binds (prefix (receive p o ws)) = other_binds 3 p o 0 ws refl
record_binds (prefix (wait n)) = other_binds 4 0 0 n [] refl
record_binds (prefix protection) = other_binds 7 0 0 0 [] refl
record_binds (prefix (delimitation d)) = ap (λ a. a ∷ []) (unfold layout in layout-first 8 d 0 0 [])
record_binds (prefix replication) = other_binds 9 0 0 0 [] refl
record_binds (join choice) = other_binds 5 0 0 0 [] refl
record_binds (join parallel) = other_binds 6 0 0 0 [] refl

nodes-binders : (t : Term) → flat_map binds (nodes t) ≡ binders t
unfolding flat_map binds nodes binders
nodes-binders (leaf x) = refl
nodes-binders (under u t) = ap (λ l. optional (delimits u) ++ l) (nodes-binders t)
nodes-binders (both j s t) = flat_map_append binds (nodes s) (nodes t) ∙ ap₂ ◌++◌ (nodes-binders s) (nodes-binders t)

pub part_binders : (s : List ℕ) (from to : ℕ) (body : Term) → StandsIn s (16 * from) body → to ≡ from + size body → across delimited s from (to - from) ≡ binders body
part_binders s from to body h e =
    let z : to - from ≡ size body = omega arith in
    rw z (across_term delimited binds record_binds s from body h ∙ nodes-binders body)

-- the record at place i delimits an atom, or not
module _ (s : List ℕ) (i to : ℕ) (l : i < to) where
  next-delimited : get_or s (16 * i) 0 ≡ 8 → across delimited s i (to - i) ≡ word s (16 * i + 2) ∷ across delimited s (i + 1) (to - (i + 1))
  next-delimited e =
      across-next delimited s i to l
      ∙ rw (first_piece s (16 * i), e, word_piece s (16 * i) 2 (omega arith))

  pub next_other : get_or s (16 * i) 0 ≢ 8 → across delimited s i (to - i) ≡ across delimited s (i + 1) (to - (i + 1))
  next_other n = across-next delimited s i to l ∙ rw (first_piece s (16 * i), ne_eqb (get_or s (16 * i) 0) 8 n)

-- Before place i: what is left to rename, whatever body stands there and whatever is marked.
pub record Going (s : List ℕ) (from to : ℕ) (names₀ names next : List ℕ) (i : ℕ) : Type 0 where
  pub marked : Marked s from to names₀
  pub choosing : (body : Term) (taken : List ℕ) → Marking s from to names₀ body taken → Choosing taken (binders body) names next (across delimited s i (to - i))

-- the first atoms of the sets
abbrev pub starts : List ℕ
starts = 1 ∷ 32768 ∷ 49152 ∷ []

pub marked_taking : (names known : List ℕ) → Marks names known → ((a : ℕ) → member a known ≡ true → atom a ≡ true) → Taking names starts known
unfolding least_of
marked_taking names known m right = record {
  room = m.room;
  sets = refl;
  none = m.entry 0 ∙ cond_case (λ r. r ≡ 0) (member 0 known) (λ e. refl) (λ e. refl);
  used = λ a k z. not-zero a (right a k) (sym (m.entry a ∙ rw k) ∙ z);
  free = λ a k. m.entry a ∙ rw k;
  from = λ k l. (first k l).0;
  passed = λ k l a m n. absurd (omega (arith, (first k l).1));
}
  where
    first : (k : ℕ) → k < 3 → (least_of k ≤ get_or starts k 0) × (get_or starts k 0 ≤ least_of k)
    first zero l = (omega arith, omega arith)
    first (suc zero) l = (omega arith, omega arith)
    first (suc (suc zero)) l = (omega arith, omega arith)
    first (suc (suc (suc k))) l = absurd (omega arith)

module _ (s : List ℕ) (from to : ℕ) (names₀ : List ℕ) where
  marked_choosing : (body : Term) (taken : List ℕ) → Marking s from to names₀ body taken → Choosing taken (binders body) names₀ starts (binders body)
  marked_choosing body taken m = record {
    taken = taken;
    taking = marked_taking names₀ taken m.marks m.known;
    few = omega (arith, few_binders body, m.few);
    keeps = in_refl taken;
    among = λ a k. m.among a (counts-atoms a body (member-counts a body k));
    right = binders_right body m.right;
    once = λ a. omega (arith, times_binders a body, m.unique a);
    answer = λ a k. cond_same (member a (binders body)) refl (λ e. image_other taken (binders body) a e ∙ sym (m.marks.entry a ∙ rw k));
  }
    where
      cond_same : (b : Bool) {x y z : ℕ} → x ≡ y → (b ≡ false → x ≡ z) → x ≡ cond b y z
      cond_same true e f = e
      cond_same false e f = f refl

  pub going_start : Marked s from to names₀ → Going s from to names₀ names₀ starts from
  going_start w = record {
    marked = w;
    choosing = λ body taken m. rw (part_binders s from to body m.stands m.end) (marked_choosing body taken m);
  }

  module _ (names next : List ℕ) (i : ℕ) (g : Going s from to names₀ names next i) where
    pub going_other : i < to → get_or s (16 * i) 0 ≢ 8 → Going s from to names₀ names next (i + 1)
    going_other l n = record { marked = g.marked; choosing = λ body taken m. rw (next_other s i to l n) at (g.choosing body taken m) }

    module _ (l : i < to) (k : get_or s (16 * i) 0 ≡ 8) {d : ℕ} (e : d ≡ word s (16 * i + 2)) where
      here : (body : Term) (taken : List ℕ) → Marking s from to names₀ body taken → Choosing taken (binders body) names next (d ∷ across delimited s (i + 1) (to - (i + 1)))
      here body taken m = rw (e, ← next-delimited s i to l k) (g.choosing body taken m)

      now_here : Choosing g.marked.taken (binders g.marked.body) names next (d ∷ across delimited s (i + 1) (to - (i + 1)))
      now_here = here g.marked.body g.marked.taken g.marked.marking

      pub going_wants : AtomWanted names next d
      going_wants = record { taken = now_here.taken; wanting = choosing_wants _ _ _ _ _ _ now_here }

      pub going_fits : slot_of d < length names
      going_fits = choosing_fits _ _ _ _ _ _ now_here

      pub going_turn : (names' next' : List ℕ) {v : ℕ} → ((taken : List ℕ) → Wanting names next taken d → NewAtom names next d names' next' v taken) → {names'' : List ℕ} → names'' ≡ store names' d v → Going s from to names₀ names'' next' (i + 1)
      going_turn names' next' r q = record {
        marked = g.marked;
        choosing = λ body taken m.
            let c = here body taken m in
            let n = r c.taken (choosing_wants _ _ _ _ _ _ c) in
            rw (q, n.entered, n.is) (choosing_step _ _ _ _ _ _ c next' (rw (n.entered, n.is) at n.taking));
      }

    pub going_end : to ≤ i → (body : Term) (taken : List ℕ) → Marking s from to names₀ body taken → Chosen taken body names
    going_end l body taken m =
        let c = rw (across-end delimited s i to l) at (g.choosing body taken m) in
        record { none = c.taking.none; new = choosing_end _ _ _ _ c }
