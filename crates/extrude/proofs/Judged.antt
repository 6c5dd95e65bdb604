-- Extrude (specs/Moves, extrude_at) as it is judged and written.
use mathlib.Core.Path.{◌≡◌, refl, sym, ap, subst, ◌∙◌}
use mathlib.Core.Logic.{◌≢◌}
use mathlib.Core.Bool.{Bool, true, false, not, ◌||◌}
use mathlib.Core.Option.{some}
use mathlib.Core.List.{List, [], ◌∷◌, ◌++◌, append_assoc}
use Prim.Native.Nat.{ℕ, suc, ◌+◌, ◌*◌, ◌-◌, ◌/◌, ◌≤◌, ◌<◌, max}
use native.Mathlib.Omega.{arith}
use lib.Dec.{ltb, eqb}
use lib.Seq.{take_at, drop_at, drop-drop, take-append-le, drop-append-le}
use lib.ListN.{length, get_or, take, drop, length-append, length-drop, drop_of_length-le}
use borrow.Author.Tests.{eq-eqb, ne_eqb, eqb-true, eqb-false, not-false, ltb-true, ltb-false, lt-ltb, le-ltb}
use Rattle.cows.specs.Basics.{place_if, refuse, accept, ◌>>=◌, ◌>>◌, forbid}
use Rattle.cows.specs.Terms.{Prefix, receive, wait, protection, delimitation, replication, choice, parallel, Term, under, size, depth, prefixed, delimits, atom, label, below}
use Rattle.cows.specs.Kinds.{prefix, root, kind_of, floats_over, open_kinds}
use Rattle.cows.specs.Places.{Frame, inside, left_of, right_of, plug, Way, fill, way_to, sub}
use Rattle.cows.specs.Format.{byte, word, layout, record16, bytes, encode}
use Rattle.cows.specs.Active.{wanted, on_kind}
use Rattle.cows.specs.Moves.{fitting, exchange, after_extrude, extrude_at}
use Rattle.cows.specs.Step.{over_limits}
use Rattle.cows.proofs.Rows.{length_record16, plug-kind}
use Rattle.cows.proofs.Basics.{never, bind-accept, forbid-accept, same_accept, or_right, or_case, or_false, place_if-none}
use Rattle.cows.specs.Records.{At, opens, closes, ahead, behind}
use Rattle.cows.proofs.Places.{size_pos, fill_spot, spot_left, spot_right}
use Rattle.cows.proofs.Format.{length-nodes, length-bytes, length-encode}
use Rattle.cows.proofs.Fields.{record_at_lem, append_bytes, kind-delimitation, first-delimitation}
use Rattle.cows.proofs.Stands.{right_at, looks, prefixed_is, wanted_is, wanted-live, live-wanted}
use Rattle.cows.proofs.Ways.{length-ahead, take-ahead, drop_here, encode-plug, encode-fill, above_at, depth_part, depth_most, size_frame, size-swap}
use Rattle.records.specs.Rewrites.{StandsIn}
use Rattle.records.proofs.StandsIn.{encode-under, holds_kind, holds_word, holds_stands}
use Rattle.ways.specs.Known.{Table}
use Rattle.ways.specs.Ways.{live_there, LiveAt, parent_of}
use Rattle.depths.specs.Depths.{Standing}
use Rattle.ways.proofs.KnownTables.{table_size, table_ended}
use Rattle.depths.proofs.Deep.{standing}
use Rattle.std.specs.Prelude as rust
use Rattle.plans.specs.declared.Refusal.{Refusal}
use Rattle.plans.specs.declared.Plan.{Plan}
use Rattle.plans.specs.declared.Refusal.TheVariants.{Stuck, Large}
use Rattle.cows.specs.Within.{Right}
use Rattle.cows.proofs.Sets.{in-values, in-variables, in_labels, value-range, variable-range, label-range, set_case}
use Rattle.records.specs.Atoms.{class_of}
use Rattle.plans.specs.Plans.{Allowed, Refused, Planned, Asks}
use Rattle.extrude.specs.Extruding.{is_label, beside_of, lift_at, Lifting, Liftable, Lifts, lifted}
use Rattle.plans.proofs.Planning.{within_limits, planned_refused, planned_allowed, planned_large, absent}
use Rattle.plans.proofs.Joining.{length_part}

-- behind a prefix all goes deeper by one
plain_depth : (f : Frame) (s r : Term) → kind_of (plug f s) ≢ 6 → floats_over (kind_of (plug f s)) ≡ true → depth s ≡ suc (depth r) → depth (plug f s) ≡ suc (depth (plug f r))
unfolding plug open_kinds depth
plain_depth (inside u) s r n e h = omega arith
plain_depth (left_of choice t) s r n e h = never e
plain_depth (left_of parallel t) s r n e h = absurd (n refl)
plain_depth (right_of choice t) s r n e h = never e
plain_depth (right_of parallel t) s r n e h = absurd (n refl)

no-parallel : (u : Prefix) (s : Term) → kind_of (under u s) ≢ 6
unfolding kind_of root
no-parallel (receive p o ws) s e = omega arith
no-parallel (wait n) s e = omega arith
no-parallel protection s e = omega arith
no-parallel (delimitation d) s e = omega arith
no-parallel replication s e = omega arith

opens-some : (f : Frame) → 1 ≤ length (opens f)
unfolding opens
opens-some (inside u) = omega arith
opens-some (left_of j t) = omega arith
opens-some (right_of j s) = omega arith

-- the other side of a parallel, at place q
pub record Sibling (t : Term) (q : ℕ) (f : Frame) : Type 0 where
  pub other : Term
  pub placed : q < size t
  pub stands : sub t q ≡ other
  pub deep : (x : Term) → depth (plug f x) ≡ suc (max (depth x) (depth other))

-- The delimitation and the record above it.
module _ (s ends : List ℕ) (a p k : ℕ) (t : Term) (d : ℕ) (h : Lifting s ends a p k t d) where
  abbrev f : Frame
  f = h.frame

  abbrev w : Way
  w = h.rest

  abbrev body : Term
  body = below (sub t a)

  pub way_is : way_to t a ≡ f ∷ w
  way_is = h.way

  at : At t p w (plug f (sub t a))
  at = h.above

  place : length (ahead w) ≡ p
  place = ap (λ y. length (ahead y)) (sym at.2) ∙ length-ahead t p at.0

  offset : a ≡ p + length (opens f)
  unfolding ahead
  offset = sym (length-ahead t a h.inside) ∙ (ap (λ y. length (ahead y)) way_is ∙ omega (arith, length-append (ahead w) (opens f), place))

  pub lift_before : p < a
  lift_before = omega (arith, offset, opens-some f)

  fitting_at : fitting (way_to t a) ≡ floats_over (get_or s (16 * p) 0)
  unfolding fitting on_kind
  fitting_at = ap fitting way_is ∙ ap floats_over (sym (plug-kind f (sub t a)) ∙ sym (holds_kind s t p h.table.holds at.0 ∙ ap kind_of at.1))

  pub lift_stuck : floats_over (get_or s (16 * p) 0) ≡ false → Refused (lift_at d t a) p (Stuck a)
  unfolding lift_at ◌>>◌ forbid place_if
  lift_stuck e = planned_refused (Stuck a) (rw (fitting_at, e))

  -- the successor
  abbrev new : Term
  new = under (delimitation d) (plug f body)

  after_is : after_extrude d t a ≡ fill w new
  unfolding after_extrude exchange
  after_is = ap (exchange d body) way_is

  size_here : size (sub t a) ≡ suc (size body)
  unfolding size
  size_here = ap size h.stands

  depth_here : depth (sub t a) ≡ suc (depth body)
  unfolding depth
  depth_here = ap depth h.stands

  size-new : size new ≡ suc (size (plug f body))
  unfolding size
  size-new = refl

  depth-new : depth new ≡ suc (depth (plug f body))
  unfolding depth
  depth-new = refl

  lift_size : size (after_extrude d t a) ≡ length s / 16
  lift_size =
      rw after_is
      (omega (arith, size-swap w (plug f (sub t a)) new, size_frame f body (sub t a), size-new, size_here, ap size (ap (λ y. fill y (plug f (sub t a))) (sym at.2) ∙ (ap (fill (way_to t p)) (sym at.1) ∙ fill_spot t p)), table_size s ends t h.table))

  old : fill w (plug f (sub t a)) ≡ t
  old = ap (λ y. fill y (plug f (sub t a))) (sym at.2) ∙ (ap (fill (way_to t p)) (sym at.1) ∙ fill_spot t p)

  level : k ≡ suc (length w)
  level = h.count ∙ ap length way_is

  few : length s / 16 ≤ 2048
  few = omega (arith, table_size s ends t h.table, h.table.within.small)

  shallow_enough : k + depth (plug f body) ≤ 256 → over_limits (after_extrude d t a) ≡ false
  shallow_enough l =
      within_limits (after_extrude d t a) (omega (arith, lift_size, few))
      (rw after_is (depth_most w (plug f (sub t a)) new 256 (omega (arith, ap depth old, h.table.within.shallow)) (omega (arith, level, depth-new))))

  too_deep_lem : 256 < k + depth (plug f body) → over_limits (after_extrude d t a) ≡ true
  unfolding over_limits
  too_deep_lem l =
      let z : 256 < depth (after_extrude d t a) = rw after_is (omega (arith, level, depth-new, depth_part w new)) in
      rw (lt-ltb 256 (depth (after_extrude d t a)) z) (or_right (ltb 2048 (size (after_extrude d t a))) true refl)

  old_shallow : k + depth (plug f (sub t a)) ≤ 257
  old_shallow = omega (arith, level, depth_part w (plug f (sub t a)), ap depth old, h.table.within.shallow)

  lifts : floats_over (get_or s (16 * p) 0) ≡ true → lift_at d t a ≡ accept (after_extrude d t a)
  unfolding lift_at ◌>>◌ forbid place_if
  lifts e = rw (fitting_at, e)

  lift_allowed : floats_over (get_or s (16 * p) 0) ≡ true → over_limits (after_extrude d t a) ≡ false → Allowed (lift_at d t a) p (record { records = length s / 16; from = p })
  lift_allowed e o = planned_allowed (after_extrude d t a) (lifts e) _ o (sym lift_size) refl

  -- above it a prefix: no record goes deeper
  pub lift_plain : floats_over (get_or s (16 * p) 0) ≡ true → get_or s (16 * p) 0 ≢ 6 → Allowed (lift_at d t a) p (record { records = length s / 16; from = p })
  lift_plain e n =
      let z = holds_kind s t p h.table.holds at.0 ∙ ap kind_of at.1 in
      let q = plain_depth f (sub t a) body (λ y. n (z ∙ y)) (rw z at e) depth_here in
      lift_allowed e (shallow_enough (omega (arith, old_shallow)))

  -- above it a parallel: the other side goes deeper by one
  abbrev q : ℕ
  q = beside_of p a (get_or ends a 0)

  sibling : get_or s (16 * p) 0 ≡ 6 → Sibling t q f
  unfolding plug opens depth kind_of root record16 layout byte
  sibling e = go f at offset (sym (holds_kind s t p h.table.holds at.0 ∙ ap kind_of at.1) ∙ e)
    where
      go : (g : Frame) → At t p w (plug g (sub t a)) → a ≡ p + length (opens g) → kind_of (plug g (sub t a)) ≡ 6 → Sibling t q g
      go (inside u) z o y = absurd (no-parallel u (sub t a) y)
      go (left_of choice r) z o y = absurd (omega arith)
      go (left_of parallel r) z o y =
          let (l, k, v) = spot_right t p parallel (sub t a) r z.0 z.1 in
          let n : suc p + size (sub t a) ≡ q = rw (eq-eqb a (p + 1) o) (omega (arith, table_ended s ends t h.table a h.inside)) in
          record { other = r; placed = omega arith; stands = ap (sub t) (sym n) ∙ k; deep = λ x. refl }
      go (right_of choice r) z o y = absurd (omega arith)
      go (right_of parallel r) z o y =
          let (l, k, v) = spot_left t p parallel r (sub t a) z.0 z.1 in
          let n : suc p ≡ q = rw (ne_eqb a (p + 1) (λ b. omega (arith, length-nodes r, size_pos r))) (omega arith) in
          record { other = r; placed = omega arith; stands = ap (sub t) (sym n) ∙ k; deep = λ x. omega arith }

  pub beside_standing : get_or s (16 * p) 0 ≡ 6 → Standing s ends q
  beside_standing e = standing (sub t q) (holds_stands s t q h.table.holds (sibling e).placed) h.table.end

  -- b is whether it is then too deep, below k records and its own parallel
  module _ (e : get_or s (16 * p) 0 ≡ 6) (b : Bool) (g : (u : Term) → StandsIn s (16 * q) u → b ≡ ltb (255 - k) (depth u)) where
    beside-deep : b ≡ ltb (255 - k) (depth (sibling e).other)
    beside-deep = g (sub t q) (holds_stands s t q h.table.holds (sibling e).placed) ∙ ap (λ u. ltb (255 - k) (depth u)) (sibling e).stands

    fits : floats_over (get_or s (16 * p) 0) ≡ true
    fits = rw e (unfold open_kinds in refl)

    pub lift_beside : b ≡ false → Allowed (lift_at d t a) p (record { records = length s / 16; from = p })
    lift_beside l = lift_allowed fits (shallow_enough (omega (arith, ltb-false (255 - k) _ (sym beside-deep ∙ l), (sibling e).deep body, (sibling e).deep (sub t a), old_shallow, depth_here)))

    pub lift_deep : b ≡ true → Refused (lift_at d t a) p (Large p)
    lift_deep l = planned_large (after_extrude d t a) (lifts fits) (too_deep_lem (omega (arith, ltb-true (255 - k) _ (sym beside-deep ∙ l), (sibling e).deep body)))

-- Which of the three sets an atom is of, by its class.
pub class_label : (d : ℕ) → atom d ≡ true → is_label (class_of d) ≡ label d
unfolding class_of
class_label d h =
    set_case (is_label (class_of d) ≡ label d) d h
    (λ v. let (l, m) = value-range d v in rw (ne_eqb d 0 (λ z. omega arith), lt-ltb d 32768 m, (in-values d l m).2))
    (λ v. let (l, m) = variable-range d v in rw (ne_eqb d 0 (λ z. omega arith), le-ltb d 32768 l, lt-ltb d 49152 m, (in-variables d l m).2))
    (λ v. let (l, m) = label-range d v in rw (ne_eqb d 0 (λ z. omega arith), le-ltb d 32768 (omega arith), le-ltb d 49152 l, (in_labels d l m).2))

kind_of_delimitation : (s : Term) (d : ℕ) → prefixed delimits s ≡ some d → kind_of s ≡ 8
unfolding kind_of root
kind_of_delimitation s d e = ap kind_of (prefixed_is delimits delimitation (λ u. (looks u).delimiting) s d e)

pub no-delimitation : (t : Term) (a : ℕ) → live_there t a 8 ≡ false → extrude_at t a ≡ refuse 11 a
unfolding extrude_at ◌>>=◌
no-delimitation t a h = rw (absent (prefixed delimits) 8 kind_of_delimitation t a h)

some_frame : (w : Way) → 0 < length w → (f : Frame) × (v : Way) × (w ≡ f ∷ v)
some_frame [] l = absurd (omega arith)
some_frame (f ∷ v) l = (f, v, refl)

-- a live delimitation, and the move on it
module _ (s : List ℕ) (t : Term) (a k : ℕ) (h : LiveAt s t a 8) (count : k ≡ length (way_to t a)) where
  pub delimitation_at : (d : ℕ) × (sub t a ≡ under (delimitation d) (below (sub t a)))
  delimitation_at = kind-delimitation (sub t a) h.kind_is

  abbrev d : ℕ
  d = delimitation_at.0

  atom_read : word s (16 * a + 2) ≡ d
  atom_read =
      holds_word s t a 2 h.holds h.inside (omega arith)
      ∙ (ap (λ x. word (record16 (root x)) 2) delimitation_at.1 ∙ first-delimitation d (below (sub t a)))

  delimitation-wanted : wanted (prefixed delimits) t a ≡ accept d
  unfolding prefixed delimits
  delimitation-wanted =
      live-wanted (prefixed delimits) t a d (under (delimitation d) (below (sub t a))) refl
      (record { at = record { placed = h.inside; stands = delimitation_at.1 }; live = h.live })

  is_atom : atom d ≡ true
  is_atom = (subst Right delimitation_at.1 (right_at t a h.holds.right)).0

  label_read : is_label (class_of (word s (16 * a + 2))) ≡ label d
  label_read = rw atom_read (class_label d is_atom)

  root_way : k ≡ 0 → way_to t a ≡ []
  root_way e = drop_of_length-le (way_to t a) {i = 0} (omega (arith, count))

  pub stuck : (is_label (class_of (word s (16 * a + 2))) || eqb k 0) ≡ true → extrude_at t a ≡ refuse 18 a
  unfolding extrude_at ◌>>=◌ ◌>>◌ forbid place_if fitting
  stuck e =
      or_case (extrude_at t a ≡ refuse 18 a) (is_label (class_of (word s (16 * a + 2)))) (eqb k 0) e
      (λ l. rw (delimitation-wanted, sym label_read ∙ l))
      (λ l. rw (delimitation-wanted, root_way (eqb-true k 0 l), or_right (label d) true refl))

  module _ (ends : List ℕ) (z : Table s ends t) (p : ℕ) (at : p ≡ parent_of (way_to t a)) (e : (is_label (class_of (word s (16 * a + 2))) || eqb k 0) ≡ false) where
    way_there : (f : Frame) × (w : Way) × (way_to t a ≡ f ∷ w)
    way_there = some_frame (way_to t a) (omega (arith, count, eqb-false k 0 (or_false (is_label (class_of (word s (16 * a + 2)))) (eqb k 0) e).1))

    pub live_lifting : Lifting s ends a p k t d
    unfolding parent_of
    live_lifting =
        let (f, w, v) = way_there in
        record {
          table = z;
          inside = h.inside;
          frame = f;
          rest = w;
          way = v;
          above = subst (λ n. At t n w (plug f (sub t a))) (sym (at ∙ ap parent_of v)) (above_at t a f w (sub t a) (h.inside, refl, v)).2;
          count = count;
          stands = delimitation_at.1;
        }

    -- the move is what the record above it allows
    pub lift_is : extrude_at t a ≡ lift_at d t a
    unfolding extrude_at lift_at ◌>>=◌
    lift_is = rw (delimitation-wanted, sym label_read ∙ (or_false (is_label (class_of (word s (16 * a + 2)))) (eqb k 0) e).0)

    -- judged as the record above it tells
    pub lift_planned : (j : rust.Result Plan Refusal) → Planned (lift_at d t a) p j → Planned (extrude_at t a) (parent_of (way_to t a)) j
    lift_planned j q = subst (λ m. Planned m (parent_of (way_to t a)) j) (sym lift_is) (subst (λ n. Planned (lift_at d t a) n j) at q)

    pub live_below : length s / 16 + 1 < length ends → k < 256 → Liftable s ends a p k
    live_below m n = record {
      term = t;
      atom = d;
      lifting = live_lifting;
      before = lift_before s ends a p k t d live_lifting;
      place = omega (arith, table_size s ends t z, h.inside);
      few = few s ends a p k t d live_lifting;
      room = omega arith;
      short = n;
    }

-- as many bytes as before
lifted-length : (s : List ℕ) (a p : ℕ) → p < a → 16 * (a + 1) ≤ length s → length (lifted s a p) ≡ length s
unfolding lifted
lifted-length s a p h l =
    simp length-append
    (omega (arith, length_part s 0 (16 * p) (omega arith), length_part s (16 * a) 16 (omega arith), length_part s (16 * p) (16 * (a - p)) (omega arith), length-drop (16 * (a + 1)) s))

-- what an allowed move had
allowed_lift : (t : Term) (a : ℕ) (r : Term) → extrude_at t a ≡ accept r
    → (d : ℕ) × (a < size t) × (sub t a ≡ under (delimitation d) (below (sub t a))) × (fitting (way_to t a) ≡ true) × (r ≡ after_extrude d t a)
unfolding extrude_at
allowed_lift t a r e =
    let (d, w, k) = bind-accept (wanted (prefixed delimits) t a) _ r e in
    let (f, g) = forbid-accept 18 _ _ r k in
    let z = (or_false (label d) (not (fitting (way_to t a))) (place_if-none _ a f)).1 in (
      d,
      (wanted-live (prefixed delimits) t a d (sub t a) (λ y. refl) w).at.placed,
      prefixed_is delimits delimitation (λ u. (looks u).delimiting) (sub t a) d (wanted_is (prefixed delimits) t a d w),
      not-false _ z,
      same_accept (sym g),
    )

-- The records exchanged are those of the successor.
module _ (t : Term) (a d : ℕ) (f : Frame) (w : Way) (l : a < size t) (e : sub t a ≡ under (delimitation d) (below (sub t a))) (way : way_to t a ≡ f ∷ w) where
  abbrev p : ℕ
  p = length (ahead w)

  above : (p < a) × (a + size (sub t a) ≤ p + size (plug f (sub t a))) × At t p w (plug f (sub t a))
  above = above_at t a f w (sub t a) (l, refl, way)

  gap : length (bytes (opens f)) ≡ 16 * (a - p)
  unfolding ahead
  gap = omega (arith, length-bytes (opens f), length-append (ahead w) (opens f), length-ahead t a l, ap (λ y. length (ahead y)) way)

  from_above : drop (16 * p) (encode t) ≡ bytes (opens f) ++ (encode (sub t a) ++ (bytes (closes f) ++ bytes (behind (way_to t p))))
  from_above =
      let (b, s, v) = above.2 in
      drop_here t p b ∙ (ap (λ x. encode x ++ bytes (behind (way_to t p))) s ∙ (rw (encode-plug f (sub t a)) (simp append_assoc)))

  between : take (16 * (a - p)) (drop (16 * p) (encode t)) ≡ bytes (opens f)
  between = rw from_above (take_at (bytes (opens f)) _ (16 * (a - p)) gap)

  record_here : take 16 (drop (16 * a) (encode t)) ≡ record16 (prefix (delimitation d))
  unfolding root
  record_here = record_at_lem t a l ∙ ap (λ x. record16 (root x)) e

  from_here : drop (16 * a) (encode t) ≡ record16 (prefix (delimitation d)) ++ (encode (below (sub t a)) ++ (bytes (closes f) ++ bytes (behind w)))
  unfolding behind
  from_here =
      drop_here t a l
      ∙ (ap (λ v. encode (sub t a) ++ bytes (behind v)) way
      ∙ (ap (λ x. encode x ++ bytes (closes f ++ behind w)) e ∙ (rw (encode-under (delimitation d) (below (sub t a)), append_bytes (closes f) (behind w)) (simp append_assoc))))

  rest_here : drop (16 * (a + 1)) (encode t) ≡ encode (below (sub t a)) ++ (bytes (closes f) ++ bytes (behind w))
  rest_here =
      let z : 16 * (a + 1) ≡ 16 * a + 16 = omega arith in
      rw (z, ← drop-drop 16 (16 * a) (encode t), from_here) (drop_at (record16 (prefix (delimitation d))) _ 16 (length_record16 (prefix (delimitation d))))

  lifted-bytes : lifted (encode t) a p ≡ encode (after_extrude d t a)
  unfolding lifted after_extrude exchange
  lifted-bytes =
      let (b, s, v) = above.2 in
      rw (take-ahead t p b, v, record_here, between, rest_here, way, encode-fill w (under (delimitation d) (plug f (below (sub t a)))), encode-under (delimitation d) (plug f (below (sub t a))), encode-plug f (below (sub t a)))
      (simp append_assoc)

fitting_frame : (w : Way) → fitting w ≡ true → (f : Frame) × (v : Way) × (w ≡ f ∷ v)
unfolding fitting
fitting_frame [] e = never e
fitting_frame (f ∷ v) e = (f, v, refl)

-- so what writing asks is what lifting asks, and what is lifted is the successor
module _ (s ends : List ℕ) (a from : ℕ) (out : List ℕ) (q : Asks (λ t. extrude_at t a) (λ t. parent_of (way_to t a)) s ends from out) where
  pub lift_asked : Lifts (length s) a from (length out) × (lifted s a from ≡ encode q.successor)
  unfolding parent_of
  lift_asked =
      let t = q.known.term in
      let h = q.known.table in
      let (d, l, e, g, r) = allowed_lift t a q.successor q.accepted in
      let (f, w, v) = fitting_frame (way_to t a) g in
      let z : from ≡ length (ahead w) = q.place_is ∙ ap parent_of v in
      let n : length s ≡ 16 * size t = ap length h.holds.is ∙ length-encode t in
      let o = lifted-bytes t a d f w l e v in
      let y : lifted s a from ≡ encode q.successor = ap (λ b. lifted b a from) h.holds.is ∙ (ap (lifted (encode t) a) z ∙ (o ∙ ap encode (sym r))) in
      let m : length s ≡ 16 * size q.successor = sym (lifted-length s a from (omega (arith, z, above t a d f w l e v)) (omega arith)) ∙ (ap length y ∙ length-encode q.successor) in
      (record { before = omega (arith, z, above t a d f w l e v); inside = omega arith; fits = omega (arith, q.room) }, y)

-- What was exchanged: the delimitation of `atom` at place a, around `inner`, and the frame above it at place p.
pub record Exchanged (t r : Term) (a p : ℕ) : Type 0 where
  pub frame : Frame
  pub rest : Way
  pub atom : ℕ
  pub inner : Term
  pub was : t ≡ fill rest (plug frame (under (delimitation atom) inner))
  pub is : r ≡ fill rest (under (delimitation atom) (plug frame inner))
  pub above : p ≡ length (ahead rest)
  pub here : a ≡ length (ahead (frame ∷ rest))

pub lift_exchanged : (s ends : List ℕ) (a from : ℕ) (out : List ℕ) (q : Asks (λ t. extrude_at t a) (λ t. parent_of (way_to t a)) s ends from out) → Exchanged q.known.term q.successor a from
unfolding parent_of fill after_extrude exchange
lift_exchanged s ends a from out q =
    let t = q.known.term in
    let (d, l, e, g, r) = allowed_lift t a q.successor q.accepted in
    let (f, w, v) = fitting_frame (way_to t a) g in
    record {
      frame = f;
      rest = w;
      atom = d;
      inner = below (sub t a);
      was = sym (fill_spot t a) ∙ (ap (λ y. fill y (sub t a)) v ∙ ap (λ x. fill w (plug f x)) e);
      is = r ∙ ap (exchange d (below (sub t a))) v;
      above = q.place_is ∙ ap parent_of v;
      here = sym (length-ahead t a l) ∙ ap (λ y. length (ahead y)) v;
    }

-- lifted among other bytes
pub lifted_among : (x y : List ℕ) (a p : ℕ) → p < a → 16 * (a + 1) ≤ length x → lifted (x ++ y) a p ≡ lifted x a p ++ y
unfolding lifted
lifted_among x y a p h l =
    let e₁ = drop-append-le (16 * a) x y (omega arith) in
    let e₂ = drop-append-le (16 * p) x y (omega arith) in
    rw (
      take-append-le (16 * p) x y (omega arith),
      e₁,
      take-append-le 16 (drop (16 * a) x) y (omega (arith, length-drop (16 * a) x)),
      e₂,
      take-append-le (16 * (a - p)) (drop (16 * p) x) y (omega (arith, length-drop (16 * p) x)),
      drop-append-le (16 * (a + 1)) x y l,
    ) (simp append_assoc)
