-- Time goes over a table in one walk that lowers its live waits in place: the records before its place are the successor's; from there on stand terms, one behind the other, as they were.
use mathlib.Core.Path.{◌≡◌, refl, sym, ap, subst, ◌∙◌}
use mathlib.Core.Logic.{◌≢◌}
use mathlib.Core.Bool.{cond}
use mathlib.Core.List.{List, [], ◌∷◌, ◌++◌, append_assoc, append-nil, flat_map}
use Prim.Native.Nat.{ℕ, ◌+◌, ◌*◌, ◌-◌, ◌≤◌, ◌<◌}
use native.Mathlib.Omega.{arith}
use lib.ListN.{length, drop, get_or, length-append}
use lib.Seq.{sets-eq, take_at, drop_at, drop-append-add}
use Rattle.cows.specs.Terms.{receive, wait, protection, delimitation, replication, choice, parallel, Term, leaf, under, both, below, size}
use Rattle.cows.specs.Kinds.{root, kind_of, live_kind, open_kinds}
use Rattle.cows.specs.Format.{bytes2, word, layout, record16, encode}
use Rattle.cows.specs.Moves.{lower, elapse}
use Rattle.cows.proofs.Basics.{cond_case}
use Rattle.cows.proofs.Fields.{kind-wait, interval-wait}
use Rattle.cows.proofs.Format.{length-encode}
use Rattle.cows.proofs.Rows.{length_record16}
use Rattle.records.specs.Ends.{EndsFrom}
use Rattle.records.specs.Rewrites.{put, StandsIn, unchanged}
use Rattle.records.proofs.Pieces.{word_piece}
use Rattle.records.proofs.StandsIn.{encode-under, stands_kind, stands_record}
use Rattle.elapse.proofs.Walking.{tables, tables_first, Still, Through, live-through, shut-still, past_wait, child_terms, encode-children, Ahead, ahead-start, ahead_none, First, first, ahead_past, next-bytes}

-- Time at the first of them: it makes `after` of the first bytes, `before`, and passes on to what these leave.
record Elapses (d : ℕ) (t : Term) (before after : List ℕ) (left : List Term) : Type 0 where
  was : encode t ≡ before ++ tables unchanged left
  is : encode (elapse d t) ≡ after ++ tables (elapse d) left
  same : length after ≡ length before

module _ (d : ℕ) where
  pub elapse_still : (t : Term) → Still t → elapse d t ≡ t
  unfolding elapse lower open_kinds
  elapse_still (leaf x) h = refl
  elapse_still (under (receive p o ws) t) h = refl
  elapse_still (under (wait n) t) h = absurd (omega (arith, h (omega arith)))
  elapse_still (under protection t) h = absurd (omega (arith, h (omega arith)))
  elapse_still (under (delimitation a) t) h = absurd (omega (arith, h (omega arith)))
  elapse_still (under replication t) h = refl
  elapse_still (both choice l r) h = absurd (omega (arith, h (omega arith)))
  elapse_still (both parallel l r) h = absurd (omega (arith, h (omega arith)))

  -- there its first record is kept, and it passes on to the children
  elapse_through : (t : Term) → Through t → encode (elapse d t) ≡ record16 (root t) ++ tables (elapse d) (child_terms t)
  unfolding elapse lower open_kinds root flat_map
  elapse_through (leaf x) h = encode-children (leaf x)
  elapse_through (under (receive p o ws) t) h = absurd (omega arith)
  elapse_through (under (wait n) t) h = absurd (omega arith)
  elapse_through (under protection t) h = encode-children (under protection (elapse d t))
  elapse_through (under (delimitation a) t) h = encode-children (under (delimitation a) (elapse d t))
  elapse_through (under replication t) h = absurd (omega arith)
  elapse_through (both j l r) h = encode-children (both j (elapse d l) (elapse d r))

  elapses_still : (t : Term) → Still t → Elapses d t (encode t) (encode t) []
  unfolding flat_map
  elapses_still t h = record { was = sym (append-nil (encode t)); is = ap encode (elapse_still t h) ∙ sym (append-nil (encode t)); same = refl }

  elapses_through : (t : Term) → Through t → Elapses d t (record16 (root t)) (record16 (root t)) (child_terms t)
  elapses_through t h = record { was = encode-children t; is = elapse_through t h; same = refl }

-- A wait's table: 14 bytes, its interval, its continuation's table.
wait_start : List ℕ
wait_start = 4 ∷ 0 ∷ 0 ∷ 0 ∷ 0 ∷ 0 ∷ 0 ∷ 0 ∷ 0 ∷ 0 ∷ 0 ∷ 0 ∷ 0 ∷ 0 ∷ []

encode-wait : (n : ℕ) (t : Term) → encode (under (wait n) t) ≡ wait_start ++ (bytes2 n ++ encode t)
unfolding wait_start record16 layout bytes2
encode-wait n t = encode-under (wait n) t

elapses_wait : (d n : ℕ) (t : Term) → Elapses d (under (wait n) t) (encode (under (wait n) t)) (encode (under (wait (n - d)) t)) []
unfolding flat_map elapse lower open_kinds size
elapses_wait d n t = record {
  was = sym (append-nil _);
  is = sym (append-nil _);
  same = length-encode (under (wait (n - d)) t) ∙ sym (length-encode (under (wait n) t));
}

-- the interval of a wait that stands in a table
pub stands_interval : (s : List ℕ) (k n : ℕ) (t : Term) → StandsIn s k (under (wait n) t) → word s (k + 14) ≡ n
stands_interval s k n t h = sym (word_piece s k 14 (omega arith)) ∙ (ap (λ b. word b 14) (stands_record (under (wait n) t) h) ∙ interval-wait n t)

-- bytes written over as many others
put_over : (a b c e : List ℕ) (j : ℕ) → length a ≡ j → length e ≡ length b → put (a ++ (b ++ c)) j e ≡ a ++ (e ++ c)
unfolding put
put_over a b c e j at same =
    let l = a ++ (b ++ c) in
    let n : j + length e ≡ length a + length b = omega arith in
    let z : drop (j + length e) l ≡ c = rw n (drop-append-add a (b ++ c) (length b) ∙ drop_at b c (length b) refl) in
    sets-eq e l j (omega (arith, length-append a (b ++ c), length-append b c)) ∙ rw (z, take_at a (b ++ c) j at) (append_assoc a e c)

-- an interval written over that of a wait, among other bytes
pub put-interval : (n m : ℕ) (t : Term) (a c : List ℕ) (j : ℕ) → 14 + length a ≡ j → put (a ++ (encode (under (wait n) t) ++ c)) j (bytes2 m) ≡ a ++ (encode (under (wait m) t) ++ c)
unfolding wait_start bytes2
put-interval n m t a c j at =
    let e : (k : ℕ) → a ++ (encode (under (wait k) t) ++ c) ≡ (a ++ wait_start) ++ (bytes2 k ++ (encode t ++ c)) = λ k. rw (encode-wait k t) (simp append_assoc) in
    rw (e n, e m) (put_over (a ++ wait_start) (bytes2 n) (encode t ++ c) (bytes2 m) j (omega (arith, length-append a wait_start)) refl)

-- The walk is at place p: `done` is written, the terms ahead and the bytes behind the table are as they were, and the successor is what is done and what
-- time makes of the terms ahead.
pub record Lapsing (s : List ℕ) (d : ℕ) (t : Term) (behind out : List ℕ) (p : ℕ) : Type 0 where
  pub done : List ℕ
  pub ahead : Ahead s p
  pub at : length done ≡ 16 * p
  pub now : out ≡ done ++ (tables unchanged ahead.terms ++ behind)
  pub whole : encode (elapse d t) ≡ done ++ tables (elapse d) ahead.terms

module _ (s : List ℕ) (d : ℕ) (t : Term) (behind : List ℕ) where
  pub lapsing_start : (out : List ℕ) → s ≡ encode t → out ≡ s ++ behind → Lapsing s d t behind out 0
  unfolding flat_map ahead-start
  lapsing_start out h e = record {
    done = [];
    ahead = ahead-start s t h;
    at = refl;
    now = e ∙ ap (λ x. x ++ behind) (h ∙ sym (append-nil (encode t)));
    whole = sym (append-nil (encode (elapse d t)));
  }

  module _ (out : List ℕ) (p : ℕ) (h : Lapsing s d t behind out p) where
    pub lapsing_end : length s ≤ 16 * p → out ≡ encode (elapse d t) ++ behind
    unfolding flat_map
    lapsing_end l =
        let z = ahead_none s p h.ahead l in
        (h.now ∙ ap (λ x. h.done ++ (tables unchanged x ++ behind)) z) ∙ ap (λ x. x ++ behind) (sym (h.whole ∙ (ap (λ x. h.done ++ tables (elapse d) x) z ∙ append-nil h.done)))

    module _ (l : 16 * p < length s) where
      abbrev f : First s p h.ahead
      f = first s p h.ahead l

      -- it stands in what is written too
      lies : StandsIn out (16 * p) f.term
      unfolding flat_map
      lies = record {
        rest = tables unchanged f.rest ++ behind;
        is =
            ap (drop (16 * p)) h.now
            ∙ (drop_at h.done _ (16 * p) h.at ∙ (ap (λ x. tables unchanged x ++ behind) f.is ∙ append_assoc (encode f.term) (tables unchanged f.rest) behind));
      }

      -- time passes on
      onward : {b a : List ℕ} {ts : List Term} {next : ℕ} {after : List ℕ} → Elapses d f.term b a ts → 16 * next ≡ 16 * p + length b → after ≡ h.done ++ (a ++ (tables unchanged (ts ++ f.rest) ++ behind))
          → Lapsing s d t behind after next
      unfolding ahead_past
      onward {b} {a} {ts} {next} q n e = record {
        done = h.done ++ a;
        ahead = ahead_past s p h.ahead f b ts q.was n;
        at = omega (arith, length-append h.done a, h.at, q.same);
        now = e ∙ sym (append_assoc h.done a _);
        whole = h.whole ∙ (ap (λ x. h.done ++ x) (ap (tables (elapse d)) f.is ∙ tables_first (elapse d) f.term a ts f.rest q.is) ∙ sym (append_assoc h.done a _));
      }

      -- what it does not change stays
      apart : (b : List ℕ) (ts : List Term) → encode f.term ≡ b ++ tables unchanged ts → out ≡ h.done ++ (b ++ (tables unchanged (ts ++ f.rest) ++ behind))
      apart b ts e =
          h.now ∙ ap (λ x. h.done ++ x) (ap (λ x. x ++ behind) (ap (tables unchanged) f.is ∙ tables_first unchanged f.term b ts f.rest e) ∙ append_assoc b _ behind)

      kept : {b : List ℕ} {ts : List Term} {next : ℕ} → Elapses d f.term b b ts → 16 * next ≡ 16 * p + length b → Lapsing s d t behind out next
      kept {b} {ts} q n = onward q n (apart b ts q.was)

      here_kind : get_or out (16 * p) 0 ≡ kind_of f.term
      here_kind = stands_kind f.term lies

      lapsing_through : (5 ≤ get_or out (16 * p) 0) × (get_or out (16 * p) 0 ≢ 9) → Lapsing s d t behind out (p + 1)
      lapsing_through k = kept (elapses_through d f.term (omega (arith, here_kind))) (omega (arith, length_record16 (root f.term)))

      module _ {ends : List ℕ} (e : EndsFrom s ends 0) {next : ℕ} (at : next ≡ get_or ends p 0) where
        as_far : 16 * next ≡ 16 * p + length (encode f.term)
        as_far = next-bytes s p h.ahead f e at

        lapsing_still : (4 ≤ get_or out (16 * p) 0 → 9 ≤ get_or out (16 * p) 0) → Lapsing s d t behind out next
        lapsing_still k = kept (elapses_still d f.term (λ m. omega (arith, here_kind, k (omega (arith, here_kind))))) as_far

        pub lapsing_past : get_or out (16 * p) 0 ≢ 4 → {r : ℕ} → r ≡ cond (live_kind (get_or out (16 * p) 0)) (p + 1) next → Lapsing s d t behind out r
        lapsing_past n {r} q =
            rw q (cond_case (Lapsing s d t behind out) (live_kind (get_or out (16 * p) 0)) (λ e. lapsing_through (live-through _ e)) (λ e. lapsing_still (shut-still _ e n)))

        pub lapsing_wait : get_or out (16 * p) 0 ≡ 4 → {r : ℕ} → r ≡ cond (live_kind (get_or out (16 * p) 0)) (p + 1) next → {w : ℕ} {after : List ℕ} → w ≡ word out (16 * p + 14) - d → after ≡ put out (16 * p + 14) (bytes2 w) → Lapsing s d t behind after r
        lapsing_wait k {r} z {w} {after} v o =
            let (n, q) = kind-wait f.term (sym here_kind ∙ k) in
            let u = below f.term in
            let i = stands_interval out (16 * p) n u (subst (StandsIn out (16 * p)) q lies) in
            let (a, c) : Elapses d f.term (encode f.term) (encode (under (wait (n - d)) u)) [] × (encode f.term ≡ encode (under (wait n) u)) =
            (subst (λ x. Elapses d x (encode x) (encode (under (wait (n - d)) u)) []) (sym q) (elapses_wait d n u), ap encode q) in
            rw (past_wait p k z) (onward a as_far
            (o ∙ (ap (λ x. put x (16 * p + 14) (bytes2 w)) (apart (encode f.term) [] a.was) ∙ rw (c, v, i) (put-interval n (n - d) u h.done (tables unchanged f.rest ++ behind) (16 * p + 14) (omega (arith, h.at))))))
