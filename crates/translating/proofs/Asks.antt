-- What the pass asks of the parts of an expression, from what it asks of the whole (specs/Writing, Writable).
use mathlib.Core.Path.{◌≡◌, sym, subst, ◌∙◌}
use mathlib.Core.Logic.{◌≢◌}
use mathlib.Core.Bool.{Bool}
use mathlib.Core.List.{List}
use Prim.Native.Nat.{ℕ, ◌+◌, ◌*◌, ◌≤◌, ◌<◌}
use native.Mathlib.Omega.{arith}
use lib.ListN.{length, get_or}
use Rattle.cows.specs.Limits.{first_label, no_atom}
use Rattle.orc.specs.Expressions.{Composition, sequential, symmetric, asymmetric, Orc, act, composed, records_in}
use Rattle.scripts.specs.Standing.{ScriptAt}
use Rattle.orc.proofs.Format.{records_pos}
use Rattle.scripts.proofs.Standing.{at_fits, at_kind, part_left, part_right, orc_kind_is, orc_kind-below}
use Rattle.spares.specs.Spares.{NextSpare}
use Rattle.extents.specs.Extents.{out_size}
use Rattle.translating.specs.Writing.{spent, Writable, Wrote, Writes}
use Rattle.translating.specs.declared.Pass.{Pass}
use Rattle.translating.proofs.Steps.{pass, ends_spent}

-- what is asked of the expression e
pub record AskedOf (s : List ℕ) (used : List Bool) (at : Pass) (out : List ℕ) (e : Orc) : Type 0 where
  pub stands : ScriptAt s at.place e
  pub room : at.byte + 16 * out_size e ≤ length out
  pub start : 1 ≤ at.value
  pub values : spent used at.value + 2 * records_in e < 4096
  pub first : first_label ≤ at.label
  pub labels : at.label + records_in e < no_atom

size_pos : (e : Orc) → 1 ≤ out_size e
unfolding out_size
size_pos (act x) = omega arith
size_pos (composed c f g) = omega (arith, size_pos f)

pub writable : {s : List ℕ} {used : List Bool} {at : Pass} {out : List ℕ} (e : Orc) → AskedOf s used at out e → Writable s used at out
writable e a = record {
  expression = e;
  stands = a.stands;
  room = a.room;
  start = a.start;
  values = a.values;
  first = a.first;
  labels = a.labels;
  inside = omega (arith, at_fits e a.stands, records_pos e);
  space = omega (arith, a.room, size_pos e);
}

module _ {s : List ℕ} {used : List Bool} {at : Pass} {out : List ℕ} where
  pub asked : (w : Writable s used at out) → AskedOf s used at out w.expression
  asked w = record { stands = w.stands; room = w.room; start = w.start; values = w.values; first = w.first; labels = w.labels }

  -- by the kind of the record there
  pub asked-parallel : get_or s (8 * at.place) 0 ≡ 3 → Writable s used at out → (f : Orc) × (g : Orc) × AskedOf s used at out (composed symmetric f g)
  asked-parallel k w =
      let (f, g, q) = orc_kind_is 3 w.expression (sym (at_kind w.expression w.stands) ∙ k) in
      (f, g, subst (AskedOf s used at out) q (asked w))

  pub asked_sequence : get_or s (8 * at.place) 0 ≡ 2 → Writable s used at out → (x : ℕ) × (f : Orc) × (g : Orc) × AskedOf s used at out (composed (sequential x) f g)
  asked_sequence k w =
      let (x, f, g, q) = orc_kind_is 2 w.expression (sym (at_kind w.expression w.stands) ∙ k) in
      (x, f, g, subst (AskedOf s used at out) q (asked w))

  pub asked_where : get_or s (8 * at.place) 0 ≡ 4 → Writable s used at out → (x : ℕ) × (g : Orc) × (f : Orc) × AskedOf s used at out (composed (asymmetric x) g f)
  asked_where k w =
      let (x, g, f, q) = orc_kind_is 4 w.expression (sym (at_kind w.expression w.stands) ∙ k) in
      (x, g, f, subst (AskedOf s used at out) q (asked w))

  -- what is left when a record is no parallel, no sequence and no where
  pub act-kind : Writable s used at out → get_or s (8 * at.place) 0 ≢ 3 → get_or s (8 * at.place) 0 ≢ 2 → get_or s (8 * at.place) 0 ≢ 4 → get_or s (8 * at.place) 0 < 2
  act-kind w a b c = omega (arith, at_kind w.expression w.stands, orc_kind-below w.expression)

  -- a sequence writes three records before its parts, a where four
  pub sequence_room : (x : ℕ) × (f : Orc) × (g : Orc) × AskedOf s used at out (composed (sequential x) f g) → at.byte + 48 ≤ length out
  unfolding out_size
  sequence_room (x, f, g, a) = omega (arith, a.room)

  pub where_room : (x : ℕ) × (g : Orc) × (f : Orc) × AskedOf s used at out (composed (asymmetric x) g f) → at.byte + 64 ≤ length out
  unfolding out_size
  where_room (x, g, f, a) = omega (arith, a.room)

  -- The parts of a composition: at the left part v is the first value to be had, and h bytes are written before it; its records are then read, and v may be at most two
  -- values further than before the composition.
  module _ (c : Composition) (f g : Orc) (a : AskedOf s used at out (composed c f g)) (h v : ℕ) (one : 1 ≤ v) (few : spent used v ≤ spent used at.value + 2) where
    pub left-asked : {d : List ℕ} → at.byte + h + 16 * out_size f ≤ length d → Writable s used (pass (at.place + 1) (at.byte + h) v at.label) d
    unfolding records_in
    left-asked room = writable f (record {
      stands = part_left c f g a.stands;
      room = room;
      start = one;
      values = omega (arith, a.values);
      first = a.first;
      labels = omega (arith, a.labels);
    })

    -- behind the left part a label may be taken, and bytes are written up to byte j
    module _ {p o : ℕ} {d e : List ℕ} {l : Pass} (w : Writes s used (pass (at.place + 1) (at.byte + h) v at.label) p o d e l) where
      pub left_wrote : Wrote used f (pass (at.place + 1) (at.byte + h) v at.label) p o d e l
      left_wrote = w.done f (part_left c f g a.stands)

      pub right_asked : {d' : List ℕ} (j k : ℕ) → l.label ≤ k → k ≤ l.label + 1 → j + 16 * out_size g ≤ length d' → Writable s used (pass l.place j l.value k) d'
      unfolding records_in
      right_asked j k low high room =
          let z = w.done f (part_left c f g a.stands) in
          writable g (record {
            stands = part_right c f g l.place z.next a.stands;
            room = room;
            start = omega (arith, z.start);
            values = omega (arith, a.values, z.values);
            first = omega (arith, a.first, z.labels);
            labels = omega (arith, a.labels, z.labels);
          })

  -- f | g
  module _ (f g : Orc) (a : AskedOf s used at out (composed symmetric f g)) where
    pub parallel-left : {d : List ℕ} → length d ≡ length out → Writable s used (pass (at.place + 1) (at.byte + 16) at.value at.label) d
    unfolding out_size
    parallel-left l = left-asked symmetric f g a 16 at.value a.start (omega arith) (omega (arith, a.room))

    pub parallel_right : {p o : ℕ} {d e : List ℕ} {l : Pass} → length e ≡ length out → Writes s used (pass (at.place + 1) (at.byte + 16) at.value at.label) p o d e l → Writable s used l e
    unfolding out_size
    parallel_right {l = l} n w = right_asked symmetric f g a 16 at.value a.start (omega arith) w l.byte l.label (omega arith) (omega arith) (omega (arith, a.room, (left_wrote symmetric f g a 16 at.value a.start (omega arith) w).then))

  -- the two values that a sequence or a where takes
  module _ {q r : ℕ} (partner : NextSpare used at.value q) (operation : NextSpare used (q + 1) r) where
    -- f >x> g
    module _ (x : ℕ) (f g : Orc) (a : AskedOf s used at out (composed (sequential x) f g)) where
      pub sequence_left : {d : List ℕ} → length d ≡ length out → Writable s used (pass (at.place + 1) (at.byte + 48) (r + 1) at.label) d
      unfolding out_size
      sequence_left l = left-asked (sequential x) f g a 48 (r + 1) (omega arith) (ends_spent partner operation) (omega (arith, a.room))

      module _ {d e : List ℕ} {l : Pass} (w : Writes s used (pass (at.place + 1) (at.byte + 48) (r + 1) at.label) q r d e l) where
        sequence_wrote : Wrote used f (pass (at.place + 1) (at.byte + 48) (r + 1) at.label) q r d e l
        sequence_wrote = left_wrote (sequential x) f g a 48 (r + 1) (omega arith) (ends_spent partner operation) w

        pub sequence_middle_lem : l.byte + 64 ≤ length out
        unfolding out_size
        sequence_middle_lem = omega (arith, a.room, sequence_wrote.then, size_pos g)

        pub sequence_right : {d' : List ℕ} → length d' ≡ length out → Writable s used (pass l.place (l.byte + 48) l.value l.label) d'
        unfolding out_size
        sequence_right k = right_asked (sequential x) f g a 48 (r + 1) (omega arith) (ends_spent partner operation) w (l.byte + 48) l.label (omega arith) (omega arith) (omega (arith, a.room, sequence_wrote.then))

    -- g where x :∈ f
    module _ (x : ℕ) (g f : Orc) (a : AskedOf s used at out (composed (asymmetric x) g f)) where
      pub where_left : {d : List ℕ} → length d ≡ length out → Writable s used (pass (at.place + 1) (at.byte + 64) (r + 1) at.label) d
      unfolding out_size
      where_left l = left-asked (asymmetric x) g f a 64 (r + 1) (omega arith) (ends_spent partner operation) (omega (arith, a.room))

      module _ {p o : ℕ} {d e : List ℕ} {l : Pass} (w : Writes s used (pass (at.place + 1) (at.byte + 64) (r + 1) at.label) p o d e l) where
        where_wrote : Wrote used g (pass (at.place + 1) (at.byte + 64) (r + 1) at.label) p o d e l
        where_wrote = left_wrote (asymmetric x) g f a 64 (r + 1) (omega arith) (ends_spent partner operation) w

        pub where_middle_lem : (l.byte + 80 ≤ length out) × (l.label + 1 < no_atom)
        unfolding out_size records_in
        where_middle_lem = (omega (arith, a.room, where_wrote.then, size_pos f), omega (arith, a.labels, where_wrote.labels, records_pos f))

        pub where_right : {d' : List ℕ} → length d' ≡ length out → Writable s used (pass l.place (l.byte + 32) l.value (l.label + 1)) d'
        unfolding out_size
        where_right k = right_asked (asymmetric x) g f a 64 (r + 1) (omega arith) (ends_spent partner operation) w (l.byte + 32) (l.label + 1) (omega arith) (omega arith) (omega (arith, a.room, where_wrote.then))

        pub where_tail_lem : {d' e' : List ℕ} {t : Pass} → Writes s used (pass l.place (l.byte + 32) l.value (l.label + 1)) q r d' e' t → t.byte + 32 ≤ length out
        unfolding out_size
        where_tail_lem b = omega (arith, a.room, where_wrote.then, (b.done f (part_right (asymmetric x) g f l.place where_wrote.next a.stands)).then)
