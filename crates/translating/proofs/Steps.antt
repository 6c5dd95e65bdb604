-- The steps of the pass (specs/Writing): what is written for each kind of record, from what is written for its parts.
use mathlib.Core.Path.{◌≡◌, refl, sym, ap, ◌∙◌}
use mathlib.Core.Bool.{Bool, true}
use mathlib.Core.List.{List, [], ◌∷◌, ◌++◌, append_assoc}
use Prim.Native.Nat.{ℕ, ◌+◌, ◌*◌, ◌≤◌, ◌<◌}
use native.Mathlib.Omega.{arith}
use lib.ListN.{length, length-append}
use Rattle.cows.specs.Limits.{first_label}
use Rattle.cows.specs.Terms.{parallel, leaf, both, value}
use Rattle.cows.specs.Kinds.{basic, join}
use Rattle.cows.specs.Format.{record16, bytes, encode}
use Rattle.cows.proofs.Sets.{in-values, in_labels}
use Rattle.cows.proofs.Format.{length-bytes, length-encode}
use Rattle.cows.proofs.Rows.{length_record16}
use Rattle.records.specs.Rewrites.{put}
use Rattle.records.proofs.Put.{and_then}
use Rattle.records.proofs.StandsIn.{encode-leaf, encode-both}
use Rattle.orc.specs.Expressions.{Act, nothing, call, sequential, symmetric, asymmetric, Orc, act, composed, records_in}
use Rattle.orc.specs.Translation.{introduced}
use Rattle.orc.specs.Clauses.{Translates, by_nothing, by_symmetric, by_call, by_sequential, by_asymmetric}
use Rattle.spares.specs.Spares.{NextSpare}
use Rattle.extents.specs.Extents.{out_size}
use Rattle.extents.proofs.Sizes.{size_translates}
use Rattle.clauses.specs.Parts.{sends, sequence_head, sequence_middle, where_head, where_middle, where_tail}
use Rattle.clauses.proofs.Parts.{encode-sequenced, encode-pruned}
use Rattle.translating.specs.Writing.{Supplied, none_left, a_value, a_label, spent, Wrote}
use Rattle.translating.specs.declared.Pass.{Pass}
use Rattle.translating.proofs.Supply.{supplied_append}

-- a pass that stands at these places
abbrev pub pass : (place byte value label : ℕ) → Pass
pass n j v k = record { place = n; byte = j; value = v; label = k }

-- as many bytes as the expression's extent says
wrote_length : {used : List Bool} {e : Orc} {at : Pass} {p o : ℕ} {out after : List ℕ} {r : Pass} (w : Wrote used e at p o out after r) → length (encode w.term) ≡ 16 * out_size e
wrote_length w = length-encode w.term ∙ ap (λ n. 16 * n) (size_translates w.clauses)

-- the next value without a mark is a value
next-value : {used : List Bool} {v n : ℕ} → 1 ≤ v → NextSpare used v n → value n ≡ true
next-value {n = n} l f = (in-values n (omega (arith, f.from)) (omega (arith, f.below))).0

-- two values are taken
pub ends_spent : {used : List Bool} {v q r : ℕ} → NextSpare used v q → NextSpare used (q + 1) r → spent used (r + 1) ≤ spent used v + 2
ends_spent partner operation = omega (arith, partner.few, operation.few)

module _ (used : List Bool) (p o : ℕ) where
  by_act : (x : Act) → Translates (act x) p o (leaf (sends p o x)) []
  unfolding sends
  by_act nothing = by_nothing
  by_act (call s q w) = by_call

  -- 0 and a call: one record
  pub wrote_act : (x : Act) (n j v k : ℕ) {out after : List ℕ} → after ≡ put out j (record16 (basic (sends p o x))) → Wrote used (act x) (pass n j v k) p o out after (pass (n + 1) (j + 16) v k)
  unfolding records_in out_size introduced
  wrote_act x n j v k {out = out} h = record {
    next = refl;
    then = omega arith;
    values = omega arith;
    labels = (omega arith, omega arith);
    start = omega arith;
    news = [];
    supplied = none_left;
    term = leaf (sends p o x);
    clauses = by_act x;
    bytes = h ∙ ap (put out j) (sym (encode-leaf (sends p o x)));
  }

  -- f | g: a record, then f, then g
  pub wrote_symmetric : (f g : Orc) (n j v k : ℕ) {l r : Pass} {out d e after : List ℕ} → d ≡ put out j (record16 (join parallel))
      → Wrote used f (pass (n + 1) (j + 16) v k) p o d e l → Wrote used g l p o e after r → Wrote used (composed symmetric f g) (pass n j v k) p o out after r
  unfolding records_in out_size introduced
  wrote_symmetric f g n j v k {l = l} {out = out} h a b = record {
    next = omega (arith, a.next, b.next);
    then = omega (arith, a.then, b.then);
    values = omega (arith, a.values, b.values);
    labels = (omega (arith, a.labels, b.labels), omega (arith, a.labels, b.labels));
    start = omega (arith, a.start, b.start);
    news = a.news ++ b.news;
    supplied = supplied_append a.supplied b.supplied;
    term = both parallel a.term b.term;
    clauses = by_symmetric a.clauses b.clauses;
    bytes = and_then out j l.byte (record16 (join parallel) ++ encode a.term) (encode b.term)
        (omega (arith, a.then, wrote_length a, length-append (record16 (join parallel)) (encode a.term), length_record16 (join parallel)))
        (and_then out j (j + 16) (record16 (join parallel)) (encode a.term) (omega (arith, length_record16 (join parallel))) h a.bytes) b.bytes
        ∙ ap (put out j) (append_assoc (record16 (join parallel)) (encode a.term) (encode b.term) ∙ sym (encode-both parallel a.term b.term));
  }

  module _ (x q r n j v k : ℕ) (one : 1 ≤ v) (partner : NextSpare used v q) (operation : NextSpare used (q + 1) r) where
    -- the two values are chosen, and what follows is behind them
    ends_taken : {v' k' : ℕ} {ds ns : List ℕ} → Supplied used (r + 1) k ds ns v' k' → Supplied used v k (1 ∷ 1 ∷ ds) (q ∷ r ∷ ns) v' k'
    ends_taken s = a_value partner (a_value operation s)

    ends_rise : v < r + 1
    ends_rise = omega (arith, partner.from, operation.from)

    value_q : value q ≡ true
    value_q = next-value one partner

    value_r : value r ≡ true
    value_r = next-value (omega arith) operation

    -- f >x> g: three records, then f, three more, then g
    pub wrote_sequential : (f g : Orc) {l s : Pass} {out d e d' after : List ℕ} → d ≡ put out j (bytes (sequence_head q r))
        → Wrote used f (pass (n + 1) (j + 48) (r + 1) k) q r d e l → d' ≡ put e l.byte (bytes (sequence_middle q r x))
        → Wrote used g (pass l.place (l.byte + 48) l.value l.label) p o d' after s → Wrote used (composed (sequential x) f g) (pass n j v k) p o out after s
    unfolding records_in out_size introduced
    wrote_sequential f g {l = l} {out = out} h a m b =
        let H = bytes (sequence_head q r) in
        let M = bytes (sequence_middle q r x) in
        let A = encode a.term in
        let B = encode b.term in
        record {
          next = omega (arith, a.next, b.next);
          then = omega (arith, a.then, b.then);
          values = omega (arith, a.values, b.values, ends_spent partner operation);
          labels = (omega (arith, a.labels, b.labels), omega (arith, a.labels, b.labels));
          start = omega (arith, a.start, b.start, ends_rise);
          news = q ∷ r ∷ (a.news ++ b.news);
          supplied = ends_taken (supplied_append a.supplied b.supplied);
          term = _;
          clauses = by_sequential value_q value_r a.clauses b.clauses;
          bytes = and_then out j (l.byte + 48) ((H ++ A) ++ M) B
              (omega (arith, a.then, wrote_length a, length-append (H ++ A) M, length-append H A, length-bytes (sequence_head q r), length-bytes (sequence_middle q r x)))
              (and_then out j l.byte (H ++ A) M (omega (arith, a.then, wrote_length a, length-append H A, length-bytes (sequence_head q r)))
              (and_then out j (j + 48) H A (omega (arith, length-bytes (sequence_head q r))) h a.bytes) m) b.bytes
              ∙ ap (put out j) (append_assoc (H ++ A) M B ∙ (append_assoc H A (M ++ B) ∙ sym (encode-sequenced q r x a.term b.term)));
        }

    -- g where x :∈ f: four records, then g, two more, then f, and two behind it
    pub wrote_asymmetric : (g f : Orc) → first_label ≤ k → {l s : Pass} {out d e d' e' after : List ℕ} → d ≡ put out j (bytes (where_head q r x))
        → Wrote used g (pass (n + 1) (j + 64) (r + 1) k) p o d e l → l.label < 65536 → d' ≡ put e l.byte (bytes (where_middle l.label))
        → Wrote used f (pass l.place (l.byte + 32) l.value (l.label + 1)) q r d' e' s → after ≡ put e' s.byte (bytes (where_tail q r x l.label))
        → Wrote used (composed (asymmetric x) g f) (pass n j v k) p o out after (pass s.place (s.byte + 32) s.value s.label)
    unfolding records_in out_size introduced
    wrote_asymmetric g f low {l = l} {s = s} {out = out} h a few m b t =
        let H = bytes (where_head q r x) in
        let M = bytes (where_middle l.label) in
        let T = bytes (where_tail q r x l.label) in
        let A = encode a.term in
        let B = encode b.term in
        let x₁ = and_then out j (j + 64) H A (omega (arith, length-bytes (where_head q r x))) h a.bytes in
        let x₂ = and_then out j l.byte (H ++ A) M (omega (arith, a.then, wrote_length a, length-append H A, length-bytes (where_head q r x))) x₁ m in
        let x₃ = and_then out j (l.byte + 32) ((H ++ A) ++ M) B
        (omega (arith, a.then, wrote_length a, length-append (H ++ A) M, length-append H A, length-bytes (where_head q r x), length-bytes (where_middle l.label))) x₂ b.bytes in
        record {
          next = omega (arith, a.next, b.next);
          then = omega (arith, a.then, b.then);
          values = omega (arith, a.values, b.values, ends_spent partner operation);
          labels = (omega (arith, a.labels, b.labels), omega (arith, a.labels, b.labels));
          start = omega (arith, a.start, b.start, ends_rise);
          news = q ∷ r ∷ (a.news ++ (l.label ∷ b.news));
          supplied = ends_taken (supplied_append a.supplied (a_label b.supplied));
          term = _;
          clauses = by_asymmetric value_q value_r (in_labels l.label (omega (arith, a.labels)) few).2 a.clauses b.clauses;
          bytes = and_then out j s.byte (((H ++ A) ++ M) ++ B) T
              (omega (arith, a.then, b.then, wrote_length a, wrote_length b, length-append ((H ++ A) ++ M) B, length-append (H ++ A) M, length-append H A, length-bytes (where_head q r x), length-bytes (where_middle l.label))) x₃ t
              ∙ ap (put out j) (append_assoc ((H ++ A) ++ M) B T ∙ (append_assoc (H ++ A) M (B ++ T) ∙ (append_assoc H A (M ++ (B ++ T)) ∙ sym (encode-pruned q r x l.label a.term b.term))));
        }
