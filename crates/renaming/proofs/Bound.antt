-- Laws of bound records (specs/Bound): what becomes of one record.
use mathlib.Core.Path.{◌≡◌, refl, sym, ap, ap₂, ◌∙◌}
use mathlib.Core.Logic.{◌≢◌}
use mathlib.Core.Bool.{true, false, ◌&&◌}
use mathlib.Core.List.{List, [], ◌∷◌, ◌++◌, map}
use Prim.Native.Nat.{ℕ, ◌+◌, ◌*◌, ◌-◌, ◌≤◌, ◌<◌}
use native.Mathlib.Omega.{arith}
use lib.Dec.{eqb}
use lib.ListN.{length, get_or, take, drop}
use borrow.Author.Tests.{eq-eqb, ne_eqb, not-true}
use Rattle.cows.specs.Basics.{any, member, found_with}
use Rattle.cows.specs.Terms.{nil, kill, invoke, receive, wait, protection, delimitation, replication, choice, parallel, Term, leaf, under, both, variable, prefixed, delimits, delimits_at, uses_basic, uses_prefix, uses}
use Rattle.cows.specs.Kinds.{basic, prefix, root}
use Rattle.cows.specs.Format.{byte, word, layout, record16}
use Rattle.cows.specs.Moves.{map_basic, map_prefix}
use Rattle.cows.proofs.Rows.{length_record16}
use Rattle.cows.proofs.Basics.{clash, and_none, or_false, or_left, or_right}
use Rattle.cows.proofs.Fields.{first-delimitation}
use Rattle.records.specs.declared.Variable as variables
use Rattle.records.specs.declared.Atom.{Atom}
use Rattle.records.specs.declared.Atom.TheVariants.{Variable}
use Rattle.records.specs.declared.Binding.{Binding}
use Rattle.std.specs.Prelude as rust
use Rattle.std.specs.Prelude.{Some, None}
use Rattle.std.specs.List.{list_any}
use Rattle.records.specs.Atoms.{class_of, number_of, closed_at, takes_variable, image_of}
use Rattle.records.proofs.Atoms.{class_case}
use Rattle.records.proofs.Pieces.{piece, word_piece, first_piece}
use Rattle.renaming.specs.Mapped.{map_node, map_record}
use Rattle.renaming.specs.Bound.{first_image, takes_atom, image_atom, takes_one, image_of_all, goes, record_bound, bound_records, Unchanged}
use Rattle.renaming.proofs.Across.{along-between, between_lengths}
use Rattle.renaming.proofs.Mapped.{record_mapped, length-map_record}

-- a record whose atoms f leaves as they are
list_same : (f : ℕ → ℕ) (l : List ℕ) → ((a : ℕ) → member a l ≡ true → f a ≡ a) → map f l ≡ l
unfolding member any
list_same f [] h = refl
list_same f (x ∷ l) h = ap₂ ◌∷◌ (h x (or_left (eqb x x) (any (eqb x) l) (eq-eqb x x refl))) (list_same f l (λ a m. h a (or_right (eqb a x) (any (eqb a) l) m)))

node_same : (f : ℕ → ℕ) (r : Term) → ((a : ℕ) → member a (uses r) ≡ true → f a ≡ a) → ((d : ℕ) → delimits_at d r ≡ true → f d ≡ d) → map_node f (root r) ≡ root r
unfolding root map_node map_basic map_prefix uses uses_basic uses_prefix prefixed delimits found_with
node_same f (leaf nil) h k = refl
node_same f (leaf (kill i)) h k = cc (list_same f (i ∷ []) h)
node_same f (leaf (invoke p o ws)) h k = cc (list_same f (p ∷ o ∷ ws) h)
node_same f (under (receive p o ws) t) h k = cc (list_same f (p ∷ o ∷ ws) h)
node_same f (under (wait n) t) h k = refl
node_same f (under protection t) h k = refl
node_same f (under (delimitation d) t) h k = ap (λ e. prefix (delimitation e)) (k d (eq-eqb d d refl))
node_same f (under replication t) h k = refl
node_same f (both j s t) h k = refl

-- an atom that none of them takes stays
image_same : (t : rust.Option Binding) (x : variables.Variable) (a : Atom) → takes_variable t x ≡ false → image_of t x a ≡ a
image_same (Some b) x a e = rw e
image_same None x a e = refl

first_untaken : (ts : List (rust.Option Binding)) (x : variables.Variable) (a : Atom) → list_any (λ t. takes_variable t x) ts ≡ false → first_image ts x a ≡ a
first_untaken [] x a e = refl
first_untaken (t ∷ ts) x a e = let (p, q) = or_false (takes_variable t x) _ e in image_same t x (first_image ts x a) p ∙ first_untaken ts x a q

module _ (ts : List (rust.Option Binding)) where
  -- the test as the code reads it
  pub goes_read : (s : List ℕ) (k : ℕ) {d : Atom} → d ≡ class_of (word s (k + 2)) → (eqb (get_or s k 0) 8 && takes_atom ts d) ≡ goes ts (piece s k)
  unfolding goes
  goes_read s k e = rw (first_piece s k, word_piece s k 2 (omega arith), e)

  -- an atom that is no variable
  pub not_taken : (n : ℕ) → variable n ≡ false → takes_one ts n ≡ false
  not_taken n e = class_case (λ a. takes_atom ts a ≡ false) n (λ z. refl) (λ h. refl) (λ h. clash h e) (λ l. refl)

  pub not_changed : (n : ℕ) → variable n ≡ false → image_of_all ts n ≡ n
  not_changed n e = class_case (λ a. number_of (image_atom ts a) ≡ n) n sym (λ h. refl) (λ h. clash h e) (λ l. refl)

  -- a record without one stays
  module _ (s : List ℕ) (k : ℕ) (c : closed_at s k ≡ true) where
    abbrev none_at : ℕ → Type 0
    none_at i = variable (word s (k + i)) ≡ false

    none_of_six : none_at 2 × none_at 4 × none_at 6 × none_at 8 × none_at 10 × none_at 12
    unfolding closed_at
    none_of_six =
        let (a, p) = or_false (variable (word s (k + 2))) _ (not-true _ c) in
        let (b, q) = or_false (variable (word s (k + 4))) _ p in
        let (d, r) = or_false (variable (word s (k + 6))) _ q in
        let (e, f) = or_false (variable (word s (k + 8))) _ r in
        let (g, h) = or_false (variable (word s (k + 10))) _ f in
        (a, b, d, e, g, h)

    pub closed-goes : goes ts (piece s k) ≡ false
    unfolding goes
    closed-goes = rw (word_piece s k 2 (omega arith), not_taken (word s (k + 2)) none_of_six.0) (and_none (eqb (byte (piece s k) 0) 8))

    pub closed_stays : map_record (λ n. n) (piece s k) ≡ map_record (image_of_all ts) (piece s k)
    unfolding map_record
    closed_stays =
        rw (
          word_piece s k 2 (omega arith),
          word_piece s k 4 (omega arith),
          word_piece s k 6 (omega arith),
          word_piece s k 8 (omega arith),
          word_piece s k 10 (omega arith),
          word_piece s k 12 (omega arith),
          not_changed (word s (k + 2)) none_of_six.0,
          not_changed (word s (k + 4)) none_of_six.1,
          not_changed (word s (k + 6)) none_of_six.2,
          not_changed (word s (k + 8)) none_of_six.3,
          not_changed (word s (k + 10)) none_of_six.4,
          not_changed (word s (k + 12)) none_of_six.5,
        )

  -- the three cases
  module _ (b i : ℕ) (r : List ℕ) where
    pub bound-nil : i ≡ b → record_bound ts b i r ≡ record16 (basic nil)
    unfolding record_bound
    bound-nil e = rw (eq-eqb i b e)

    pub bound-gone : i ≢ b → goes ts r ≡ true → record_bound ts b i r ≡ []
    unfolding record_bound
    bound-gone n e = rw (ne_eqb i b n, e)

    pub bound-kept : i ≢ b → goes ts r ≡ false → record_bound ts b i r ≡ map_record (image_of_all ts) r
    unfolding record_bound
    bound-kept n e = rw (ne_eqb i b n, e)

    -- where a record is written, room for what becomes of it is room for a record
    pub room_nil : (at n : ℕ) → i ≡ b → at + length (record_bound ts b i r) ≤ n → at + 15 < n
    room_nil at n e h = omega (arith, ap length (bound-nil e), length_record16 (basic nil))

  pub room_kept : (b i : ℕ) (s : List ℕ) (at n : ℕ) → 16 * i + 15 < length s → i ≢ b → goes ts (piece s (16 * i)) ≡ false
      → at + length (record_bound ts b i (piece s (16 * i))) ≤ n → at + 15 < n
  room_kept b i s at n l e g h = omega (arith, ap length (bound-kept b i (piece s (16 * i)) e g), length-map_record (image_of_all ts) s (16 * i) l)

  untaken_same : (n : ℕ) → takes_one ts n ≡ false → image_of_all ts n ≡ n
  untaken_same n = class_case (λ a. takes_atom ts a ≡ false → number_of (image_atom ts a) ≡ n) n (λ z e. sym z) (λ h e. refl) (λ h e. ap number_of (first_untaken ts (record { 0 = n }) (Variable (record { 0 = n })) e)) (λ l e. refl)

  -- and so does a record that holds no other
  pub goes-delimitation : (d : ℕ) → goes ts (record16 (prefix (delimitation d))) ≡ takes_one ts d
  unfolding goes
  goes-delimitation d =
      let z : word (record16 (prefix (delimitation d))) 2 ≡ d = unfold root in first-delimitation d (leaf nil) in
      rw z (unfold record16 layout byte in refl)

  untaken_goes : (r : Term) → ((d : ℕ) → delimits_at d r ≡ true → takes_one ts d ≡ false) → goes ts (record16 (root r)) ≡ false
  unfolding goes root record16 layout byte prefixed delimits found_with
  untaken_goes (leaf nil) h = refl
  untaken_goes (leaf (kill k)) h = refl
  untaken_goes (leaf (invoke p o ws)) h = refl
  untaken_goes (under (receive p o ws) t) h = refl
  untaken_goes (under (wait n) t) h = refl
  untaken_goes (under protection t) h = refl
  untaken_goes (under (delimitation d) t) h = goes-delimitation d ∙ h d (eq-eqb d d refl)
  untaken_goes (under replication t) h = refl
  untaken_goes (both choice s t) h = refl
  untaken_goes (both parallel s t) h = refl

  module _ (r : Term) (used : (a : ℕ) → member a (uses r) ≡ true → takes_one ts a ≡ false) (delimited : (d : ℕ) → delimits_at d r ≡ true → takes_one ts d ≡ false) where
    untaken_node : map_node (image_of_all ts) (root r) ≡ root r
    untaken_node = node_same (image_of_all ts) r (λ a m. untaken_same a (used a m)) (λ d e. untaken_same d (delimited d e))

    pub untaken_stays : (b i : ℕ) → i ≢ b → record_bound ts b i (record16 (root r)) ≡ record16 (root r)
    unfolding variable
    untaken_stays b i n = bound-kept b i (record16 (root r)) n (untaken_goes r delimited) ∙ (sym (record_mapped (image_of_all ts) (not_changed 0 refl) (root r)) ∙ ap record16 untaken_node)

  -- The records from place `from` to place `to`, where what changes stands at places `low` to `high`: those to place `first` and those from place `last` on stay.
  module _ (b : ℕ) (s : List ℕ) {low high from first last to : ℕ} (u : Unchanged ts b s low high) (l : 16 * to ≤ length s)
      (m : (from ≤ first) × (first ≤ to) × (from < first → first ≤ low) × (first < to → low ≤ first)) (n : (first ≤ last) × (last ≤ to) × (first < last → last ≤ high) × (last < to → high ≤ last)) where
    abbrev pub bound : ℕ → ℕ → List ℕ
    bound i j = bound_records ts b s i (j - i)

    before_first : (j : ℕ) → from ≤ j → j < first → record_bound ts b j (piece s (16 * j)) ≡ piece s (16 * j)
    before_first j i k = let z = m.2 (omega arith) in u.ahead j (omega arith) (omega arith)

    from_last : (j : ℕ) → last ≤ j → j < to → record_bound ts b j (piece s (16 * j)) ≡ piece s (16 * j)
    from_last j i k = let z = n.3 (omega arith) in u.behind j (omega arith) (omega arith)

    pub bound-between : bound from to ≡ take (16 * (first - from)) (drop (16 * from) s) ++ (bound first last ++ take (16 * (to - last)) (drop (16 * last) s))
    bound-between = along-between (record_bound ts b) s from first last to m.0 n.0 n.1 l before_first from_last

    pub bound_lengths : (length (take (16 * (first - from)) (drop (16 * from) s)) ≡ 16 * (first - from)) × (length (take (16 * (to - last)) (drop (16 * last) s)) ≡ 16 * (to - last))
        × (length (bound from to) ≡ 16 * (first - from) + length (bound first last) + 16 * (to - last))
    bound_lengths = between_lengths (record_bound ts b) s from first last to m.0 n.0 n.1 l before_first from_last
