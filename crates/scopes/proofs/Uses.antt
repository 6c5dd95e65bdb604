-- How bad the uses of a record are, by the marks of its atoms.
use mathlib.Core.Path.{◌≡◌, refl, sym, ap, ◌∙◌}
use mathlib.Core.Logic.{◌≢◌}
use mathlib.Core.Bool.{Bool, true, false, cond, not, ◌&&◌, ◌||◌}
use mathlib.Core.List.{List, [], ◌∷◌}
use Prim.Native.Nat.{ℕ, zero, suc, ◌+◌, ◌*◌, ◌/◌, ◌<◌}
use native.Mathlib.Omega.{arith}
use native.Mathlib.Numerals.{add-one}
use lib.Dec.{ltb, leb, eqb}
use lib.ListN.{length, get_or, take}
use lib.Seq.{take-suc}
use borrow.Author.Tests.{lt-ltb, le-ltb, le-leb, lt-leb, ne_eqb, eqb-true, eqb-false}
use Rattle.cows.specs.Basics.{any, every, member}
use Rattle.cows.specs.Terms.{nil, kill, invoke, receive, wait, protection, delimitation, replication, choice, parallel, Term, leaf, under, both, size, value, variable, label, datum, atom, bindable, below, binders, uses, uses_basic, uses_prefix}
use Rattle.cows.specs.Kinds.{root, kind_of}
use Rattle.cows.specs.Places.{spot_at, way_to, sub, enclosed}
use Rattle.cows.specs.Format.{byte, word, layout, record16}
use Rattle.cows.specs.Tables.{unbound, escaped}
use Rattle.cows.proofs.Basics.{lt_case, and_true, true_and, or_left, or_right, or_false, or_none, or_case, any_append}
use Rattle.cows.proofs.Sets.{set_case, value-range, variable-range, label-range}
use Rattle.cows.proofs.Stands.{right_at}
use Rattle.cows.specs.Records.{reach_of}
use Rattle.cows.proofs.Reach.{reaches_on, reach_some, some_reach, enclosed_reach, binders_reach}
use Rattle.records.proofs.StandsIn.{holds_size, holds_kind, holds_word}
use Rattle.cows.proofs.Fields.{byte_at, kind-kill, kind-invoke, kind-receive, kind-delimitation, first-kill, first-delimitation, first-invoke, second_invoke, count-invoke, slot-invoke, first-receive, second_receive, count-receive, slot-receive}
use Rattle.records.specs.Holds.{Holds}
use Rattle.std.specs.Ordering.{ord_max}
use Rattle.scopes.specs.contracts.LevelOrd.TheImpl.{cmp-value}
use Rattle.scopes.specs.declared.Level.{Level}
use Rattle.scopes.specs.declared.Level.TheVariants.{Fine, Escaped, Unbound}
use Rattle.scopes.specs.Scopes.{directory_slot, mark_of, PassedTo, level, open_use, strays, fault_by, Levels, TupleAt}

-- The places of a table that holds a term.
pub place_inside : (s : List ℕ) (t : Term) (j : ℕ) → Holds s t → j < length s / 16 → j < size t
place_inside s t j h l = omega (arith, holds_size s t h)

-- An atom is bindable from 32,768 on, and a value below.
pub atom_small : (a : ℕ) → atom a ≡ true → a < 65536
atom_small a h = set_case (a < 65536) a h (λ e. omega (arith, value-range a e)) (λ e. omega (arith, variable-range a e)) (λ e. omega (arith, label-range a e))

atom-sets : (a : ℕ) → atom a ≡ true → (bindable a ≡ leb 32768 a) × (value a ≡ not (leb 32768 a))
unfolding value variable label
atom-sets a h =
    set_case ((bindable a ≡ leb 32768 a) × (value a ≡ not (leb 32768 a))) a h
    (λ e. let l = value-range a e in rw (lt-leb 32768 a l.1, lt-leb 49152 a (omega arith), le-leb 1 a l.0, lt-ltb a 32768 l.1) (refl, refl))
    (λ e. let l = variable-range a e in rw (le-leb 32768 a l.0, lt-ltb a 49152 l.1, le-leb 1 a (omega arith), le-ltb a 32768 l.0) (refl, refl))
    (λ e. let l = label-range a e in rw (le-leb 32768 a (omega arith), le-ltb a 49152 l.0, le-leb 49152 a l.0, lt-ltb a 65536 l.1, le-leb 1 a (omega arith), le-ltb a 32768 (omega arith)) (refl, refl))

-- What the mark of an atom says of its use at place j: whether it is enclosed, and whether the term delimits it at all.
module _ (t : Term) (j : ℕ) (l : j < size t) (a : ℕ) where
  reach_late : reach_of t a (size t) ≡ 0 → reach_of t a j ≡ 0
  reach_late e =
      lt_case (reach_of t a j ≡ 0) 0 (reach_of t a j) (λ h. let k = some_reach t a (size t) 0 (reaches_on t a j (size t) 0 (omega arith) (reach_some t a j 0 h)) in absurd (omega arith)) (λ h. omega arith)

  mark_enclosed : ltb (j + 1) (mark_of t j a) ≡ enclosed a (way_to t j)
  unfolding mark_of
  mark_enclosed = rw (enclosed_reach t a j l, binders_reach t a) (go (reach_of t a (size t)) refl)
    where
      go : (r : ℕ) → reach_of t a (size t) ≡ r → ltb (j + 1) (cond (ltb 0 r) (suc (reach_of t a j)) 0) ≡ ltb j (reach_of t a j)
      go zero e = rw (le-ltb (j + 1) 0 (omega arith), reach_late e, le-ltb j 0 (omega arith))
      go (suc r) e = rw (lt-ltb 0 (suc r) (omega arith)) (lt_case (ltb (j + 1) (suc (reach_of t a j)) ≡ ltb j (reach_of t a j)) j (reach_of t a j)
          (λ h. rw (lt-ltb (j + 1) (suc (reach_of t a j)) (omega arith), lt-ltb j (reach_of t a j) h)) (λ h. rw (le-ltb (j + 1) (suc (reach_of t a j)) (omega arith), le-ltb j (reach_of t a j) h)))

  pub fault_mark : atom a ≡ true → fault_by (mark_of t j a) a j ≡ level (open_use t j a) (strays t j a)
  unfolding fault_by level
  fault_mark h =
      let (p, q) = atom-sets a h in
      rw (mark_enclosed, p, q) (unfold mark_of in go (enclosed a (way_to t j)) (leb 32768 a) (member a (binders t)))
    where
      go : (e b m : Bool) → ◌≡◌ {A = Level} (cond e Fine (cond b Unbound (cond (eqb (cond m (suc (reach_of t a j)) 0) 0) Fine Escaped))) (cond (b && not e) Unbound (cond ((not b && m) && not e) Escaped Fine))
      go true true m = refl
      go true false true = refl
      go true false false = refl
      go false true m = refl
      go false false true = rw (ne_eqb (suc (reach_of t a j)) 0 (λ z. omega arith))
      go false false false = refl

-- The worse of two levels.
abbrev pub worse_of : Level → Level → Level
worse_of = ord_max cmp-value.it

pub level_worse : (p q p' q' : Bool) → worse_of (level p q) (level p' q') ≡ level (p || p') (q || q')
unfolding level
level_worse true q true q' = refl
level_worse true q false true = refl
level_worse true q false false = refl
level_worse false true true q' = refl
level_worse false true false true = refl
level_worse false true false false = refl
level_worse false false true q' = refl
level_worse false false false true = refl
level_worse false false false false = refl

-- A tuple, from its front.
any-take : (p : ℕ → Bool) (ws : List ℕ) (i : ℕ) → i < length ws → any p (take (suc i) ws) ≡ (any p (take i ws) || p (get_or ws i 0))
unfolding any
any-take p ws i l = rw (take-suc ws i 0 l, any_append p (take i ws) (get_or ws i 0 ∷ []), or_none (p (get_or ws i 0)))

every_at : (f : ℕ → Bool) (ws : List ℕ) (i : ℕ) → every f ws ≡ true → i < length ws → f (get_or ws i 0) ≡ true
unfolding every
every_at f [] i h l = absurd (omega arith)
every_at f (w ∷ ws) zero h l = (and_true (f w) (every f ws) h).0
every_at f (w ∷ ws) (suc i) h l = every_at f ws i (and_true (f w) (every f ws) h).1 (omega arith)

pub tuple-start : (p q : ℕ → Bool) (ws : List ℕ) → Fine ≡ level (any p (take 0 ws)) (any q (take 0 ws))
unfolding level any
tuple-start p q ws = refl

pub tuple-turn : (s pages marks ws : List ℕ) (j i : ℕ) (p q : ℕ → Bool) → Levels pages marks j p q → TupleAt s j ws → every atom ws ≡ true → i < length ws
    → (x : Level) (w : ℕ) (f y : Level) → x ≡ level (any p (take i ws)) (any q (take i ws)) → w ≡ word s (16 * j + 6 + 2 * i) → f ≡ fault_by (get_or marks (directory_slot pages w) 0) w j → y ≡ worse_of x f
    → y ≡ level (any p (take (i + 1) ws)) (any q (take (i + 1) ws))
tuple-turn s pages marks ws j i p q v h e l x w f y ex ew ef ey =
    let z = ew ∙ h.slot i (omega (arith, h.few)) in
    let k = get_or ws i 0 in
    rw (add-one i, any-take p ws i l, any-take q ws i l, ← level_worse (any p (take i ws)) (any q (take i ws)) (p k) (q k), ← v.at k (every_at atom ws i e l), ← ex, ← z, ← ef) ey

every_mono : (f g : ℕ → Bool) → ((a : ℕ) → f a ≡ true → g a ≡ true) → (ws : List ℕ) → every f ws ≡ true → every g ws ≡ true
unfolding every
every_mono f g h [] e = refl
every_mono f g h (w ∷ ws) e = let (p, q) = and_true (f w) (every f ws) e in true_and (h w p) (every_mono f g h ws q)

datum-atom : (a : ℕ) → datum a ≡ true → atom a ≡ true
unfolding atom
datum-atom a h = or_left (datum a) (label a) h

-- An endpoint and its tuple at place j: the fields and what they are used for.
pub record Endpoint (s : List ℕ) (t : Term) (j p o : ℕ) (ws : List ℕ) : Type 0 where
  pub used : uses (sub t j) ≡ p ∷ o ∷ ws
  pub partner : word s (16 * j + 2) ≡ p
  pub operation : word s (16 * j + 4) ≡ o
  pub tuple : TupleAt s j ws
  pub partner-atom : atom p ≡ true
  pub operation-atom : atom o ≡ true
  pub tuple-atoms : every atom ws ≡ true

module _ (s : List ℕ) (t : Term) (h : Holds s t) (j : ℕ) (i : j < length s / 16) where
  l : j < size t
  l = place_inside s t j h i

  pub word_here : (i : ℕ) → i < 15 → word s (16 * j + i) ≡ word (record16 (root (sub t j))) i
  word_here i k = holds_word s t j i h l k

  slots_here : (ws : List ℕ) → ((i : ℕ) → i < 4 → word (record16 (root (sub t j))) (6 + 2 * i) ≡ get_or ws i 0) → (i : ℕ) → i < 4 → word s (16 * j + 6 + 2 * i) ≡ get_or ws i 0
  slots_here ws f i k = ap (word s) (let z : 16 * j + 6 + 2 * i ≡ 16 * j + (6 + 2 * i) = omega arith in z) ∙ (word_here (6 + 2 * i) (omega arith) ∙ f i k)

  count_here : byte s (16 * j + 1) ≡ byte (record16 (root (sub t j))) 1
  count_here = ap (λ b. byte b (16 * j + 1)) h.is ∙ byte_at t j 1 l (omega arith)

  invoke_here : (p o : ℕ) (ws : List ℕ) → sub t j ≡ leaf (invoke p o ws) → Endpoint s t j p o ws
  unfolding uses uses_basic
  invoke_here p o ws e =
      let r = rw e at (right_at t j h.right) in record {
        used = rw e;
        partner = word_here 2 (omega arith) ∙ (rw e (first-invoke p o ws));
        operation = word_here 4 (omega arith) ∙ (rw e (second_invoke p o ws));
        tuple = record { few = r.2.0; count = count_here ∙ (rw e (count-invoke p o ws)); slot = slots_here ws (rw e (slot-invoke p o ws)) };
        partner-atom = datum-atom p r.0;
        operation-atom = datum-atom o r.1;
        tuple-atoms = every_mono datum atom datum-atom ws r.2.1;
      }

  receive_here : (p o : ℕ) (ws : List ℕ) (c : Term) → sub t j ≡ under (receive p o ws) c → Endpoint s t j p o ws
  unfolding uses uses_prefix datum
  receive_here p o ws c e =
      let r = rw e at (right_at t j h.right) in record {
        used = rw e;
        partner = word_here 2 (omega arith) ∙ (rw e (first-receive p o ws c));
        operation = word_here 4 (omega arith) ∙ (rw e (second_receive p o ws c));
        tuple = record { few = r.0.2.0; count = count_here ∙ (rw e (count-receive p o ws c)); slot = slots_here ws (rw e (slot-receive p o ws c)) };
        partner-atom = datum-atom p (or_left (value p) (variable p) r.0.0);
        operation-atom = datum-atom o (or_left (value o) (variable o) r.0.1);
        tuple-atoms = every_mono datum atom datum-atom ws r.0.2.1;
      }

  -- one of the two
  pub endpoint_here : (eqb (kind_of (sub t j)) 2 || eqb (kind_of (sub t j)) 3) ≡ true → (p : ℕ) × (o : ℕ) × (ws : List ℕ) × Endpoint s t j p o ws
  endpoint_here h =
      or_case ((p : ℕ) × (o : ℕ) × (ws : List ℕ) × Endpoint s t j p o ws) (eqb (kind_of (sub t j)) 2) (eqb (kind_of (sub t j)) 3) h
      (λ k. let (p, o, ws, e) = kind-invoke (sub t j) (eqb-true _ _ k) in (p, o, ws, invoke_here p o ws e))
      (λ k. let (p, o, ws, e) = kind-receive (sub t j) (eqb-true _ _ k) in (p, o, ws, receive_here p o ws (below (sub t j)) e))

  pub kind_here : get_or s (16 * j) 0 ≡ kind_of (sub t j)
  kind_here = holds_kind s t j h l

  kill_is : (i : ℕ) → sub t j ≡ leaf (kill i) → (atom (word s (16 * j + 2)) ≡ true) × (uses (sub t j) ≡ word s (16 * j + 2) ∷ [])
  unfolding uses uses_basic atom
  kill_is i e =
      let z : word s (16 * j + 2) ≡ i = word_here 2 (omega arith) ∙ (rw e (first-kill i)) in
      rw z (or_right (datum i) (label i) (rw e at (right_at t j h.right)), rw e)

  pub kill_here : kind_of (sub t j) ≡ 1 → (atom (word s (16 * j + 2)) ≡ true) × (uses (sub t j) ≡ word s (16 * j + 2) ∷ [])
  kill_here k = let (i, e) = kind-kill (sub t j) k in kill_is i e

  pub delimitation_is : (d : ℕ) (c : Term) → sub t j ≡ under (delimitation d) c → (word s (16 * j + 2) ≡ d) × (atom d ≡ true)
  delimitation_is d c e = (word_here 2 (omega arith) ∙ (rw e (first-delimitation d c)), (rw e at (right_at t j h.right)).0)

  pub delimitation_here : kind_of (sub t j) ≡ 8 → (sub t j ≡ under (delimitation (word s (16 * j + 2))) (below (sub t j))) × (atom (word s (16 * j + 2)) ≡ true)
  delimitation_here k =
      let (d, e) = kind-delimitation (sub t j) k in
      let (x, y) = delimitation_is d (below (sub t j)) e in
      rw x (e, y)

pub none_used : (s : Term) → kind_of s ≢ 1 → kind_of s ≢ 2 → kind_of s ≢ 3 → uses s ≡ []
unfolding uses uses_basic uses_prefix kind_of root record16 layout byte
none_used (leaf nil) x y z = refl
none_used (leaf (kill k)) x y z = absurd (x refl)
none_used (leaf (invoke p o ws)) x y z = absurd (y refl)
none_used (under (receive p o ws) t) x y z = absurd (z refl)
none_used (under (wait n) t) x y z = refl
none_used (under protection t) x y z = refl
none_used (under (delimitation d) t) x y z = refl
none_used (under replication t) x y z = refl
none_used (both choice l r) x y z = refl
none_used (both parallel l r) x y z = refl

-- The level of a record, by its uses; of one use, of an endpoint with its tuple, of a kill, of any other record.
level-uses : (t : Term) (j : ℕ) (l : List ℕ) → uses (sub t j) ≡ l → level (any (open_use t j) l) (any (strays t j) l) ≡ level (unbound j (spot_at t j)) (escaped t j (spot_at t j))
unfolding unbound escaped way_to sub
level-uses t j l e = rw e

module _ (s pages marks : List ℕ) (j : ℕ) (t : Term) (h : PassedTo s pages marks j t) (l : j < length s / 16) where
  abbrev fault : ℕ → Level
  fault a = fault_by (get_or marks (directory_slot pages a) 0) a j

  pub use-level : Levels pages marks j (open_use t j) (strays t j)
  use-level = record { at = λ a e. rw (h.keeps.kept a (atom_small a e)) (fault_mark t j (place_inside s t j h.holds l) a e) }

  pub endpoint_level : (eqb (get_or s (16 * j) 0) 2 || eqb (get_or s (16 * j) 0) 3) ≡ true
      → (f : Level) → ((ws : List ℕ) → TupleAt s j ws → every atom ws ≡ true → f ≡ level (any (open_use t j) ws) (any (strays t j) ws))
      → worse_of (fault (word s (16 * j + 2))) (worse_of (fault (word s (16 * j + 4))) f) ≡ level (unbound j (spot_at t j)) (escaped t j (spot_at t j))
  unfolding any
  endpoint_level k f g =
      let (p, o, ws, e) = endpoint_here s t h.holds j l (rw (kind_here s t h.holds j l) at k) in
      rw (
        e.partner,
        e.operation,
        g ws e.tuple e.tuple-atoms,
        use-level.at p e.partner-atom,
        use-level.at o e.operation-atom,
        level_worse (open_use t j o) (strays t j o) (any (open_use t j) ws) (any (strays t j) ws),
        level_worse (open_use t j p) (strays t j p) (open_use t j o || any (open_use t j) ws) (strays t j o || any (strays t j) ws),
      )
      (level-uses t j (p ∷ o ∷ ws) e.used)

  pub kill-level : get_or s (16 * j) 0 ≡ 1 → fault (word s (16 * j + 2)) ≡ level (unbound j (spot_at t j)) (escaped t j (spot_at t j))
  unfolding any
  kill-level k =
      let (e, u) = kill_here s t h.holds j l (sym (kind_here s t h.holds j l) ∙ k) in
      let x = word s (16 * j + 2) in
      use-level.at x e ∙ (rw (or_none (open_use t j x), or_none (strays t j x)) at (level-uses t j (x ∷ []) u))

  pub none-level : (eqb (get_or s (16 * j) 0) 2 || eqb (get_or s (16 * j) 0) 3) ≡ false → get_or s (16 * j) 0 ≢ 1 → Fine ≡ level (unbound j (spot_at t j)) (escaped t j (spot_at t j))
  unfolding any level
  none-level y x =
      let k = kind_here s t h.holds j l in
      let (p, q) = or_false (eqb (get_or s (16 * j) 0) 2) (eqb (get_or s (16 * j) 0) 3) y in
      level-uses t j [] (none_used (sub t j) (λ e. x (k ∙ e)) (λ e. eqb-false _ _ p (k ∙ e)) (λ e. eqb-false _ _ q (k ∙ e)))
