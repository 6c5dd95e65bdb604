-- A walk over the terms that a kill reaches (specs/Losses): what stands ahead is a row of terms, one behind the other.
use mathlib.Core.Path.{◌≡◌, refl, sym, ap, subst, ◌∙◌}
use mathlib.Core.Bool.{true, false, ◌||◌}
use mathlib.Core.List.{List, [], ◌∷◌}
use Prim.Native.Nat.{ℕ, suc, ◌+◌, ◌*◌, ◌-◌, ◌/◌, ◌≤◌, ◌<◌}
use native.Mathlib.Omega.{arith}
use native.Mathlib.Numerals.{add-one}
use lib.Dec.{leb, ltb}
use lib.ListN.{length, get_or}
use Rattle.cows.specs.Terms.{Basic, Prefix, receive, wait, protection, delimitation, replication, Join, choice, parallel, Term, leaf, under, both, size}
use Rattle.cows.specs.Kinds.{root, kind_of}
use Rattle.cows.specs.Places.{sub}
use Rattle.cows.proofs.Fields.{kind_is}
use Rattle.cows.proofs.Format.{length-encode}
use Rattle.cows.proofs.Places.{size_pos, spot_fits}
use Rattle.records.specs.Ends.{EndsFrom}
use Rattle.records.specs.Rewrites.{StandsIn}
use Rattle.records.proofs.StandsIn.{long, stands_kind, stands_fits, stands_under, stands_left, stands_right, holds_stands}
use Rattle.records.proofs.Shapes.{end_stands}
use Rattle.ways.specs.Known.{Table, Known}
use Rattle.kill.specs.Losses.{left}
use Rattle.ways.proofs.KnownTables.{table_size, table_ended}

-- the terms stand one behind the other from place i on; their records, and what is left of them
abbrev pub Row : List ℕ → ℕ → List Term → Type 0
Row s i [] = Unit {0}
Row s i (t ∷ ts) = StandsIn s (16 * i) t × Row s (i + size t) ts

abbrev pub sizes : List Term → ℕ
sizes [] = 0
sizes (t ∷ ts) = size t + sizes ts

abbrev pub lefts : ℕ → ℕ → List Term → ℕ
lefts a i [] = 0
lefts a i (t ∷ ts) = left a i t + lefts a (i + size t) ts

-- The walk is at place i, and of the term t at place p so many records are gone.
pub record Losing (s : List ℕ) (a p end : ℕ) (t : Term) (gone i : ℕ) : Type 0 where
  pub ahead : List Term
  pub row : Row s i ahead
  pub ends : end ≡ i + sizes ahead
  pub count : i + lefts a i ahead ≡ p + gone + left a p t

kind-gone : (a i : ℕ) (t : Term) → kind_of t < 6 → left a i t ≡ 1
unfolding left kind_of root
kind-gone a i (leaf x) h = refl
kind-gone a i (under (receive p o ws) t) h = refl
kind-gone a i (under (wait n) t) h = refl
kind-gone a i (under protection t) h = absurd (omega arith)
kind-gone a i (under (delimitation d) t) h = absurd (omega arith)
kind-gone a i (under replication t) h = absurd (omega arith)
kind-gone a i (both choice l r) h = refl
kind-gone a i (both parallel l r) h = absurd (omega arith)

kind-kept : (a i : ℕ) (t : Term) → kind_of t ≡ 7 → (ltb a i || leb (i + size t) a) ≡ true → left a i t ≡ size t
unfolding left size
kind-kept a i t h e = subst (λ r. (ltb a i || leb (i + size r) a) ≡ true → left a i r ≡ size r) (sym (kind_is 7 t h)) (λ e. rw e) e

-- it starts at p, and ends behind the term there
module _ (s ends : List ℕ) (t : Term) (h : Table s ends t) (p : ℕ) (l : p < length s / 16) (end : ℕ) (at : end ≡ get_or ends p 0) where
  end_is : end ≡ p + size (sub t p)
  end_is = at ∙ table_ended s ends t h p (omega (arith, table_size s ends t h))

  pub end_fits : (p ≤ end) × (end ≤ length s / 16)
  end_fits = omega (arith, end_is, table_size s ends t h, spot_fits t p (omega (arith, table_size s ends t h)))

  pub losing_start : (a : ℕ) → Losing s a p end (sub t p) 0 p
  losing_start a = record { ahead = sub t p ∷ []; row = (holds_stands s t p h.holds (omega (arith, table_size s ends t h)), tt); ends = omega (arith, end_is); count = omega arith }

  pub losing_end : (a gone i : ℕ) → Losing s a p end (sub t p) gone i → end ≤ i → gone + left a p (sub t p) ≡ size (sub t p)
  losing_end a gone i h l = go h.ahead h.ends h.count
    where
      go : (ts : List Term) → end ≡ i + sizes ts → i + lefts a i ts ≡ p + gone + left a p (sub t p) → gone + left a p (sub t p) ≡ size (sub t p)
      go [] x c = omega (arith, end_is)
      go (r ∷ rs) x c = absurd (omega (arith, size_pos r))

-- one record of it
module _ (s ends : List ℕ) (e : EndsFrom s ends 0) (a p end : ℕ) (t : Term) (gone i : ℕ) (h : Losing s a p end t gone i) where
  -- the first of the terms ahead
  record First : Type 0 where
    term : Term
    rest : List Term
    stands : StandsIn s (16 * i) term
    row : Row s (i + size term) rest
    until : end ≡ i + size term + sizes rest
    count : i + (left a i term + lefts a (i + size term) rest) ≡ p + gone + left a p t

  first : i < end → First
  first l = go h.ahead h.row h.ends h.count
    where
      go : (ts : List Term) → Row s i ts → end ≡ i + sizes ts → i + lefts a i ts ≡ p + gone + left a p t → First
      go [] w x c = absurd (omega arith)
      go (r ∷ rs) w x c = record { term = r; rest = rs; stands = w.0; row = w.1; until = omega arith; count = c }

  module _ (l : i < end) (next : ℕ) (at : next ≡ get_or ends i 0) where
    abbrev f : First
    f = first l

    here_kind : get_or s (16 * i) 0 ≡ kind_of f.term
    here_kind = stands_kind f.term f.stands

    next_is : next ≡ i + size f.term
    next_is = at ∙ (e.end i (omega arith) (omega (arith, stands_fits f.term f.stands, long f.term)) ∙ end_stands s f.term i f.stands)

    losing_next : (i < next) × (next ≤ end)
    losing_next = omega (arith, next_is, f.until, size_pos f.term)

    pub losing_gone : get_or s (16 * i) 0 < 6 → Losing s a p end t (gone + (next - i - 1)) next
    losing_gone k =
        let z = kind-gone a i f.term (omega (arith, here_kind)) in
        rw next_is (record { ahead = f.rest; row = f.row; ends = f.until; count = omega (arith, z, f.count, size_pos f.term) })

    pub losing_kept : get_or s (16 * i) 0 ≡ 7 → (ltb a i || leb next a) ≡ true → Losing s a p end t gone next
    losing_kept k q =
        let z = kind-kept a i f.term (sym here_kind ∙ k) (rw next_is at q) in
        rw next_is (record { ahead = f.rest; row = f.row; ends = f.until; count = omega (arith, z, f.count) })

    -- past a leaf, into a record with one child, and into one with two
    past_leaf : (x : Basic) → f.term ≡ leaf x → Losing s a p end t gone (suc i)
    unfolding size left
    past_leaf x q =
        let n : i + size f.term ≡ suc i = omega (arith, ap size q) in
        record {
          ahead = f.rest;
          row = subst (λ k. Row s k f.rest) n f.row;
          ends = omega (arith, f.until);
          count = omega (arith, f.count, ap (left a i) q, ap (λ k. lefts a k f.rest) n);
        }

    into_one : (u : Prefix) (c : Term) → f.term ≡ under u c → left a i (under u c) ≡ suc (left a (suc i) c) → Losing s a p end t gone (suc i)
    unfolding size
    into_one u c q z =
        let x : size f.term ≡ suc (size c) = ap size q in
        let n : i + size f.term ≡ suc i + size c = omega arith in
        let w : StandsIn s (16 * i + 16) c = stands_under u c (subst (StandsIn s (16 * i)) q f.stands) in
        record {
          ahead = c ∷ f.rest;
          row = (subst (λ k. StandsIn s k c) (omega arith) w, subst (λ k. Row s k f.rest) n f.row);
          ends = omega (arith, f.until);
          count = omega (arith, f.count, ap (left a i) q ∙ z, ap (λ k. lefts a k f.rest) n);
        }

    into_two : (j : Join) (c d : Term) → f.term ≡ both j c d → left a i (both j c d) ≡ suc (left a (suc i) c + left a (suc i + size c) d) → Losing s a p end t gone (suc i)
    unfolding size
    into_two j c d q z =
        let x : size f.term ≡ suc (size c + size d) = ap size q in
        let n : i + size f.term ≡ suc i + size c + size d = omega arith in
        let w : StandsIn s (16 * i) (both j c d) = subst (StandsIn s (16 * i)) q f.stands in
        record {
          ahead = c ∷ d ∷ f.rest;
          row = (
            subst (λ k. StandsIn s k c) (omega arith) (stands_left j c d w),
            (stands_right j c d (16 * (suc i + size c)) (omega (arith, length-encode c)) w, subst (λ k. Row s k f.rest) n f.row),
          );
          ends = omega (arith, f.until);
          count = omega (arith, f.count, ap (left a i) q ∙ z, ap (λ k. lefts a k f.rest) n);
        }

    -- a record passed alone: a leaf, or one whose children the kill reaches
    pub losing_alone : (3 ≤ get_or s (16 * i) 0 → 6 ≤ get_or s (16 * i) 0) → (get_or s (16 * i) 0 ≡ 7 → (ltb a i || leb next a) ≡ false) → Losing s a p end t gone (i + 1)
    unfolding kind_of left root
    losing_alone k q = rw (add-one i) (go f.term refl (subst (λ n. 3 ≤ n → 6 ≤ n) here_kind k))
      where
        go : (r : Term) → f.term ≡ r → (3 ≤ kind_of r → 6 ≤ kind_of r) → Losing s a p end t gone (suc i)
        go (leaf x) y m = past_leaf x y
        go (under (receive u o ws) c) y m = absurd (omega (arith, m (omega arith)))
        go (under (wait n) c) y m = absurd (omega (arith, m (omega arith)))
        go (under protection c) y m =
            let z : next ≡ i + suc (size c) = unfold size in (next_is ∙ ap (λ r. i + size r) y) in
            into_one protection c y (rw (← z, q (here_kind ∙ ap kind_of y)))
        go (under (delimitation d) c) y m = into_one (delimitation d) c y refl
        go (under replication c) y m = into_one replication c y refl
        go (both choice c d) y m = absurd (omega (arith, m (omega arith)))
        go (both parallel c d) y m = into_two parallel c d y refl

-- the end of the term at place i, for code that knows of some table
pub losing_on : {s ends : List ℕ} (q : Known s ends) {a p end gone i : ℕ} → ((t : Term) → Table s ends t → Losing s a p end (sub t p) gone i) → i < end
    → {next : ℕ} → next ≡ get_or ends i 0 → (i < next) × (next ≤ end)
losing_on {s} {ends} q {a} {p} {end} {gone} {i} v l {next} at = losing_next s ends q.table.end a p end (sub q.term p) gone i (v q.term q.table) l next at
