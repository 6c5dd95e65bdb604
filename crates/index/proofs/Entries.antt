-- Laws of the index of delimitations: how it is entered, and what right entries and right uses show of a table's term.
use mathlib.Core.Path.{◌≡◌, refl, sym, ap, ◌∙◌}
use mathlib.Core.Logic.{◌≢◌}
use mathlib.Core.Bool.{Bool, true, false, ◌&&◌, ◌||◌}
use mathlib.Core.List.{List, [], ◌∷◌}
use Prim.Native.Nat.{ℕ, zero, suc, ◌+◌, ◌*◌, ◌-◌, ◌/◌, ◌%◌, ◌≤◌, ◌<◌}
use native.Mathlib.Omega.{arith}
use native.Mathlib.Nat.{zero-add}
use lib.Dec.{leb, ltb, eqb}
use lib.ListN.{length, get_or, set, replicate, length-set, length-replicate}
use lib.Seq.{get_or-set_same, get_or-set_other}
use borrow.Author.Count.{below_more}
use borrow.Author.Tests.{ltb-true, leb-true, eqb-true, eqb-false, not-true, ne_eqb, eq-eqb}
use Rattle.cows.specs.Basics.{any, every, member}
use Rattle.cows.specs.Terms.{delimitation, Term, under, size, value, variable, label, atom, bindable, below, binders, uses, delimits, prefixed}
use Rattle.cows.specs.Kinds.{root, kind_of, distinct}
use Rattle.cows.specs.Places.{spot_at, way_to, sub, enclosed, first}
use Rattle.cows.specs.Format.{byte, word, layout, record16}
use Rattle.cows.specs.Tables.{unbound, escaped, again, delimited_before, clash}
use Rattle.cows.proofs.Basics.{clash as refute, bool_case, and_true, and_none, or_case, or_false, not_so, holds_some, none-first_from, eq_case, get_d_zeros}
use Rattle.cows.proofs.Sets.{value-range, variable-range, label-range, set_case}
use Rattle.cows.proofs.Stands.{looks, prefixed_is, member-delimited}
use Rattle.cows.specs.Records.{reach_of}
use Rattle.cows.proofs.Reach.{delimits_at_is, is_delimits_at, reach_some, reaches_enclosed, before_reach}
use Rattle.records.specs.Ends.{EndsFrom}
use Rattle.records.specs.Holds.{Holds}
use Rattle.records.proofs.StandsIn.{holds_size}
use Rattle.scopes.specs.Scopes.{open_use, strays}
use Rattle.scopes.proofs.NextPlace.{ends_of}
use Rattle.scopes.proofs.Uses.{place_inside, kind_here, delimitation_is, delimitation_here, endpoint_here, kill_here, none_used}
use Rattle.ranges.specs.Lists.{Listed, Inside}
use Rattle.ranges.specs.Ranges.{pattern_right}
use Rattle.ranges.proofs.Lists.{listed_all}
use Rattle.index.specs.Index.{slot_of, entry_of, Entering, OnlyEntries, HasEntry, Entered, fault_of, fault_by, Clear, Fine, UsesRight, TableLists, BlankIndex, ScopesRight}
use Rattle.index.proofs.Bounds.{entry_atom, entry_large, entry_same, entry_clear}

pub cleared : (k shift mask : ℕ) → shift < 64 → mask < k → BlankIndex (replicate k 0) shift mask
cleared k shift mask small room = record { slots = record { small = small; room = rw (length-replicate {A = ℕ} k 0) room }; empty = get_d_zeros k }

-- a blank index in which slot 0 has the number by which 0 is right everywhere
pub ready : (s ends marks users index : List ℕ) (shift mask : ℕ) → TableLists s ends marks users → BlankIndex index shift mask → Entering s ends marks (set index 0 32767) shift mask
ready s ends marks users index shift mask r b = record {
  end = r.end;
  inside = r.delimitations.inside;
  kinds = λ q l.
      let k = get_or s (16 * get_or marks q 0) 0 in
      let (x, y) = and_true (leb 8 k) (leb k 8) (r.delimitations.only q l) in
      omega (arith, leb-true 8 k x, leb-true k 8 y);
  slots = record { small = b.slots.small; room = rw (length-set index 0 32767) b.slots.room };
  free = λ p. eq_case (get_or (set index 0 32767) p 0 < 65536) p 0 (λ z. rw (z, get_or-set_same index 0 32767 0 (omega (arith, b.slots.room))) (omega arith))
      (λ z. rw (get_or-set_other index 0 p 32767 0 z, b.empty p) (omega arith));
}

-- Entering: at the start nothing is entered
pub enter-none : (s ends marks index₀ : List ℕ) (shift mask : ℕ) → ((p : ℕ) → get_or index₀ p 0 < 65536) → Entered s ends marks 0 index₀ shift mask
enter-none s ends marks index₀ shift mask free = record { only = λ p l. absurd (omega (arith, free p)); all = λ q l. absurd (omega arith) }

-- and a turn, by the code's numbers, in which the delimitation at place i of the list is entered in slot p as v
module _ (s ends marks : List ℕ) (shift mask : ℕ) (end : EndsFrom s ends 0) (inside : Inside s marks)
    (kinds : (q : ℕ) → q < length marks → get_or s (16 * get_or marks q 0) 0 ≡ 8) where
  pub enter-turn : (index : List ℕ) (i p a w x v : ℕ) → i < length marks → p < length index → get_or index p 0 < 65536 → w ≡ get_or marks i 0 → x ≡ get_or marks i 0 → a ≡ word s (16 * w + 2) → p ≡ slot_of shift mask a
      → v ≡ 32768 + get_or marks i 0 + 65536 * (32768 - get_or ends x 0) + 4294967296 * a → Entered s ends marks i index shift mask → Entered s ends marks (i + 1) (set index p v) shift mask
  unfolding entry_of
  enter-turn index i p a w x v l n free ew ex ea ep ev e =
      let d = get_or marks i 0 in
      let same = get_or-set_same index p v 0 n in
      let entry : v ≡ entry_of s ends d = rw (ea, ew, ex) at ev in
      record {
        only = λ q h. eq_case _ q p (λ z. (d, inside i l, kinds i l, rw z (same ∙ entry)))
            (λ z. let o = get_or-set_other index p q v 0 z in let (x, y, k, f) = e.only q (rw o at h) in (x, y, k, o ∙ f));
        all = below_more (λ q. HasEntry s ends (set index p v) shift mask (get_or marks q 0)) i
            (λ q h.
            let f = e.all q h in
            get_or-set_other index p _ v 0 (λ z. omega (arith, ap (λ x. get_or index x 0) z, f, entry_large s ends (get_or marks q 0) end (inside q (omega arith)))) ∙ f)
            (let z : slot_of shift mask (word s (16 * d + 2)) ≡ p = rw (ea, ew) at (sym ep) in rw z (same ∙ entry));
      }

any_none : (f : ℕ → Bool) (ws : List ℕ) → ((i : ℕ) → i < length ws → f (get_or ws i 0) ≡ false) → any f ws ≡ false
unfolding any
any_none f [] h = refl
any_none f (w ∷ ws) h = rw (h 0 (omega arith), any_none f ws (λ i l. h (suc i) (omega arith)))

-- an atom in a tuple is not 0
some-atom : (ws : List ℕ) (i : ℕ) → every atom ws ≡ true → i < length ws → 0 < get_or ws i 0
unfolding every
some-atom [] i e l = absurd (omega arith)
some-atom (w ∷ ws) zero e l =
    set_case (0 < w) w (and_true (atom w) (every atom ws) e).0 (λ v. omega (arith, value-range w v)) (λ v. omega (arith, variable-range w v)) (λ v. omega (arith, label-range w v))
some-atom (w ∷ ws) (suc i) e l = some-atom ws i (and_true (atom w) (every atom ws) e).1 (omega arith)

-- the index has the entry of every delimitation, and no other
module _ (s ends index : List ℕ) (shift mask : ℕ) (t : Term) (h : Holds s t) (e : EndsFrom s ends 0)
    (only : OnlyEntries s ends index) (entered : (d : ℕ) → d < length s / 16 → get_or s (16 * d) 0 ≡ 8 → HasEntry s ends index shift mask d) where
  entry_of_lem : (a m : ℕ) (r : Term) → m < size t → sub t m ≡ under (delimitation a) r → (m < length s / 16) × (word s (16 * m + 2) ≡ a) × (get_or index (slot_of shift mask a) 0 ≡ entry_of s ends m)
  unfolding kind_of root record16 layout byte
  entry_of_lem a m r l q =
      let i : m < length s / 16 = omega (arith, holds_size s t h) in
      let w = (delimitation_is s t h m i a r q).0 in
      (i, w, rw w at (entered m i (kind_here s t h m i ∙ ap kind_of q)))

  -- a use inside the delimitation at place p
  enclosed_by : (j a p : ℕ) → j < length s / 16 → p < length s / 16 → get_or s (16 * p) 0 ≡ 8 → word s (16 * p + 2) ≡ a → p < j → j < get_or ends p 0 → enclosed a (way_to t j) ≡ true
  enclosed_by j a p l i k w u v =
      let y = (delimitation_here s t h p i (sym (kind_here s t h p i) ∙ k)).0 in
      reaches_enclosed t a j (place_inside s t j h l)
      (p, u, is_delimits_at a (sub t p) (below (sub t p)) (rw w at y), omega (arith, (ends_of s ends e).right t h p (place_inside s t p h i)))

  abbrev Bound : ℕ → ℕ → Type 0
  Bound j a = (open_use t j a ≡ false) × (strays t j a ≡ false)

  -- a use of what is no variable and no label, and, if it is a value, not delimited
  free_use : (j a : ℕ) → Clear a → (value a ≡ true → member a (binders t) ≡ true → ⊥) → Bound j a
  free_use j a c f = (
    not_so (λ b. or_case ⊥ (variable a) (label a) (and_true (bindable a) _ b).0 (λ v. omega (arith, variable-range a v)) (λ v. omega (arith, label-range a v))),
    not_so (λ b. let (v, m) = and_true (value a) _ (and_true (value a && member a (binders t)) _ b).0 in f v m),
  )

  use_hit : (j a : ℕ) → j < length s / 16 → 0 < a → get_or index (slot_of shift mask a) 0 / 4294967296 ≡ a → Clear (get_or index (slot_of shift mask a) 0 % 4294967296 + 65535 * j) → Bound j a
  use_hit j a l n q c =
      let (d, i, k, v) = only (slot_of shift mask a) (omega arith) in
      let (x, y) = entry_clear s ends d j e i l (rw v at c) in
      let b = enclosed_by j a d l i k (sym (entry_atom s ends d (omega (arith, e.few))) ∙ (rw v at q)) x y in (
        not_so (λ z. refute b (not-true _ (and_true (bindable a) _ z).1)),
        not_so (λ z. refute b (not-true _ (and_true (value a && member a (binders t)) _ z).1)),
      )

  use-none : (j a : ℕ) → j < length s / 16 → Clear (fault_by index shift mask a (65535 * j)) → Bound j a
  unfolding fault_of
  use-none j a l c =
      let n = get_or index (slot_of shift mask a) 0 in
      eq_case (Bound j a) a 0 (λ z. free_use j a (rw z (record { low = refl; high = refl })) (λ v. absurd (omega (arith, value-range a v))))
      (λ z. eq_case (Bound j a) (n / 4294967296) a (λ q. use_hit j a l (omega arith) q (rw (eq-eqb _ a q) at c))
      (λ q. free_use j a (rw (ne_eqb _ a q) at c)
      (λ v m.
      let (d, r, k) = member-delimited a t m in
      let (i, w, f) = entry_of_lem a d r k.placed k.stands in
      q (ap (λ x. x / 4294967296) f ∙ (entry_atom s ends d (omega (arith, e.few)) ∙ w)))))

  -- Each record, by its kind.
  abbrev pub Right : ℕ → Type 0
  Right j = (unbound j (spot_at t j) ≡ false) × (escaped t j (spot_at t j) ≡ false)

  by_uses : (j : ℕ) (l : List ℕ) → uses (sub t j) ≡ l → (any (open_use t j) l ≡ false) × (any (strays t j) l ≡ false) → Right j
  unfolding unbound escaped way_to sub
  by_uses j l q f = rw q f

  -- atom i of the three from byte k on
  atom-none : (j k i b a : ℕ) → j < length s / 16 → Fine s index shift mask k (65535 * j) → i < 3 → k + 2 * i ≡ b → word s b ≡ a → Bound j a
  atom-none j k i b a l f m z w = rw (ap (word s) z ∙ w) at (use-none j (word s (k + 2 * i)) l (f i m))

  tuple-none : (j : ℕ) → j < length s / 16 → (eqb (get_or s (16 * j) 0) 2 || eqb (get_or s (16 * j) 0) 3) ≡ true → UsesRight s index shift mask j → Right j
  unfolding any
  tuple-none j l k f =
      let (p, o, ws, q) = endpoint_here s t h j l (rw (kind_here s t h j l) at k) in
      let few = q.tuple.few in
      let second : 1 < length ws → 0 < word s (16 * j + 8) = λ m. rw (ap (word s) (let z : 16 * j + 8 ≡ 16 * j + 6 + 2 * 1 = omega arith in z) ∙ q.tuple.slot 1 (omega arith)) (some-atom ws 1 q.tuple-atoms m) in
      let slot : (i : ℕ) → i < length ws → Bound j (get_or ws i 0) = λ i m.
      eq_case (Bound j (get_or ws i 0)) i 0 (λ z. atom-none j (16 * j + 2) 2 _ _ l f.ends (omega arith) (omega arith) (q.tuple.slot i (omega arith)))
      (λ z. atom-none j (16 * j + 8) (i - 1) _ _ l (f.rest (second (omega arith))) (omega arith) (omega arith) (q.tuple.slot i (omega arith))) in
      let (p₁, p₂) = atom-none j (16 * j + 2) 0 _ p l f.ends (omega arith) (omega arith) q.partner in
      let (o₁, o₂) = atom-none j (16 * j + 2) 1 _ o l f.ends (omega arith) (omega arith) q.operation in
      by_uses j (p ∷ o ∷ ws) q.used (rw (p₁, o₁) (any_none (open_use t j) ws (λ i m. (slot i m).0)), rw (p₂, o₂) (any_none (strays t j) ws (λ i m. (slot i m).1)))

  kill-none : (j : ℕ) → j < length s / 16 → get_or s (16 * j) 0 ≡ 1 → UsesRight s index shift mask j → Right j
  unfolding any
  kill-none j l k f =
      let (x, u) = kill_here s t h j l (sym (kind_here s t h j l) ∙ k) in
      let (p, q) = atom-none j (16 * j + 2) 0 (16 * j + 2) _ l f.ends (omega arith) (omega arith) refl in
      by_uses j (word s (16 * j + 2) ∷ []) u (rw p, rw q)

  other_none : (j : ℕ) → j < length s / 16 → get_or s (16 * j) 0 ≢ 1 → get_or s (16 * j) 0 ≢ 2 → get_or s (16 * j) 0 ≢ 3 → Right j
  unfolding any
  other_none j l x y z = let k = kind_here s t h j l in by_uses j [] (none_used (sub t j) (λ e. x (k ∙ e)) (λ e. y (k ∙ e)) (λ e. z (k ∙ e))) (refl, refl)

  -- no delimitation is a second one: two of an atom would have one entry
  again-none : (j : ℕ) → j < length s / 16 → again t j (spot_at t j) ≡ false
  unfolding again sub
  again-none j l =
      not_so
      (λ x.
      let (d, y, k) = holds_some (delimited_before t j) (prefixed delimits (sub t j)) x in
      let (q, m, z, w) = reach_some t d j 0 (ltb-true 0 (reach_of t d j) (sym (before_reach t d j) ∙ k)) in
      let a = entry_of_lem d j (below (sub t j)) (place_inside s t j h l) (prefixed_is delimits delimitation (λ u. (looks u).delimiting) (sub t j) d y) in
      let b = entry_of_lem d q (below (sub t q)) (omega (arith, place_inside s t j h l)) (delimits_at_is d (sub t q) z) in
      omega (arith, entry_same s ends j q (omega (arith, e.few)) (omega (arith, e.few)) (sym a.2 ∙ b.2)))

  pub scopes_bound : ((j : ℕ) → j < length s / 16 → 1 ≤ get_or s (16 * j) 0 → get_or s (16 * j) 0 ≤ 3 → UsesRight s index shift mask j) → ScopesRight t
  unfolding first clash
  scopes_bound right = (
    none-first_from (λ n. unbound n (spot_at t n)) 0 (size t) (λ i l. rw zero-add (fine i (omega (arith, holds_size s t h))).0),
    none-first_from (λ n. clash t n (spot_at t n)) 0 (size t) (λ i l. let m : i < length s / 16 = omega (arith, holds_size s t h) in rw (zero-add, again-none i m) (fine i m).1),
  )
    where
      fine : (j : ℕ) → j < length s / 16 → Right j
      fine j l =
          bool_case (Right j) (eqb (get_or s (16 * j) 0) 2 || eqb (get_or s (16 * j) 0) 3)
          (λ k. or_case (Right j) (eqb (get_or s (16 * j) 0) 2) (eqb (get_or s (16 * j) 0) 3) k
          (λ x. let z = eqb-true (get_or s (16 * j) 0) 2 x in tuple-none j l k (right j l (omega arith) (omega arith)))
          (λ x. let z = eqb-true (get_or s (16 * j) 0) 3 x in tuple-none j l k (right j l (omega arith) (omega arith))))
          (λ k.
          let (x, y) = or_false _ _ k in
          eq_case (Right j) (get_or s (16 * j) 0) 1 (λ z. kill-none j l z (right j l (omega arith) (omega arith)))
          (λ z. other_none j l z (eqb-false (get_or s (16 * j) 0) 2 x) (eqb-false (get_or s (16 * j) 0) 3 y)))

-- By the lists of the delimitations and of the uses: the scopes, and the patterns.
module _ (s users index : List ℕ) (u shift mask : ℕ) (listed : Listed s 1 3 users (length s / 16) u) (right : (q : ℕ) → q < u → UsesRight s index shift mask (get_or users q 0)) where
  uses-right : (j : ℕ) → j < length s / 16 → 1 ≤ get_or s (16 * j) 0 → get_or s (16 * j) 0 ≤ 3 → UsesRight s index shift mask j
  uses-right = listed_all s 1 3 users _ u (UsesRight s index shift mask) listed right

  pub listed-bound : (ends marks : List ℕ) (m : ℕ) → EndsFrom s ends 0 → Listed s 8 8 marks (length s / 16) m → Entered s ends marks m index shift mask → (t : Term) → Holds s t → ScopesRight t
  listed-bound ends marks m e delimitations entered t h =
      scopes_bound s ends index shift mask t h e entered.only
      (λ d l x. listed_all s 8 8 marks _ m (HasEntry s ends index shift mask) delimitations entered.all d l (omega arith) (omega arith)) uses-right

  short_apart : (a : ℕ) → distinct (a ∷ 0 ∷ 0 ∷ 0 ∷ []) ≡ true
  unfolding distinct variable member any
  short_apart a = eq_case (distinct (a ∷ 0 ∷ 0 ∷ 0 ∷ []) ≡ true) a 0 (λ z. rw z) (λ z. rw (ne_eqb a 0 z, and_none (leb 32768 a && ltb a 49152)))

  pub patterns_apart : (i : ℕ) → i < length s / 16 → get_or s (16 * i) 0 ≡ 3 → (word s (16 * i + 8) ≡ 0 → (word s (16 * i + 10) ≡ 0) × (word s (16 * i + 12) ≡ 0)) → pattern_right s (16 * i) ≡ true
  unfolding pattern_right
  patterns_apart i l k f =
      eq_case (pattern_right s (16 * i) ≡ true) (word s (16 * i + 8)) 0 (λ z. let (x, y) = f z in rw (z, x, y) (short_apart (word s (16 * i + 6))))
      (λ z. (uses-right i l (omega arith) (omega arith)).apart (omega arith) k)
