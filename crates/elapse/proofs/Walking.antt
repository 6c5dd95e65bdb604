-- A walk over a table as time goes: from its place on stand terms, one behind the other.
use mathlib.Core.Path.{◌≡◌, refl, sym, ap, ◌∙◌}
use mathlib.Core.Logic.{◌≢◌}
use mathlib.Core.Bool.{Bool, true, false, cond, ◌&&◌}
use mathlib.Core.List.{List, [], ◌∷◌, ◌++◌, append_assoc, append-nil, flat_map}
use Prim.Native.Nat.{ℕ, ◌+◌, ◌*◌, ◌≤◌, ◌<◌}
use native.Mathlib.Omega.{arith}
use lib.Dec.{leb}
use borrow.Author.Tests.{le-leb}
use Rattle.std.proofs.lemmas.Bool.{leb-true}
use lib.ListN.{length, drop, get_or, length-append, length-drop}
use lib.Seq.{drop_at, drop-drop}
use Rattle.cows.specs.Terms.{Term, leaf, under, both, size}
use Rattle.cows.specs.Kinds.{prefix, join, root, kind_of, live_kind, open_kinds}
use Rattle.cows.specs.Format.{record16, encode}
use Rattle.cows.proofs.Basics.{clash, cond_case, lt_case, and_true, true_and}
use Rattle.cows.proofs.Cut.{flat_map_append}
use Rattle.cows.proofs.Format.{length-encode}
use Rattle.cows.proofs.Places.{size_pos}
use Rattle.cows.proofs.Rows.{kind-range}
use Rattle.records.specs.Ends.{EndsFrom}
use Rattle.records.specs.Rewrites.{StandsIn, unchanged}
use Rattle.records.proofs.Shapes.{end_stands}
use Rattle.records.proofs.StandsIn.{long, encode-leaf, encode-under, encode-both, stands_fits}
use Rattle.ways.specs.Known.{Known}

-- the tables of terms one behind the other, of each what f makes of it
abbrev pub tables : (Term → Term) → List Term → List ℕ
tables f ts = flat_map (λ t. encode (f t)) ts

-- the first bytes of the first of them, and the terms that these leave of it
pub tables_first : (f : Term → Term) (t : Term) (b : List ℕ) (ts rest : List Term) → encode (f t) ≡ b ++ tables f ts → tables f (t ∷ rest) ≡ b ++ tables f (ts ++ rest)
unfolding flat_map
tables_first f t b ts rest e =
    ap (λ x. x ++ tables f rest) e ∙ (append_assoc b (tables f ts) (tables f rest) ∙ ap (λ x. b ++ x) (sym (flat_map_append (λ t. encode (f t)) ts rest)))

-- the kinds that time leaves as they are, and those that it goes through
abbrev pub Still : Term → Type 0
Still t = 4 ≤ kind_of t → 9 ≤ kind_of t

abbrev pub Through : Term → Type 0
Through t = (5 ≤ kind_of t) × (kind_of t ≢ 9)

-- the two by what the code tests
live-range : (k : ℕ) → (leb 5 k && leb k 8) ≡ live_kind k
unfolding open_kinds
live-range = kind-range 5 8 live_kind (omega arith) (refl, refl, refl, refl, refl, refl, refl, refl, refl, refl) (λ n. refl)

pub live-through : (k : ℕ) → live_kind k ≡ true → (5 ≤ k) × (k ≢ 9)
live-through k e = let (a, b) = and_true (leb 5 k) (leb k 8) (live-range k ∙ e) in omega (arith, leb-true 5 k a, leb-true k 8 b)

pub shut-still : (k : ℕ) → live_kind k ≡ false → k ≢ 4 → 4 ≤ k → 9 ≤ k
shut-still k e n l = lt_case (9 ≤ k) 8 k (λ m. m) (λ m. clash (sym (live-range k) ∙ true_and (le-leb 5 k (omega arith)) (le-leb k 8 m)) e)

-- behind a wait
pub past_wait : (p : ℕ) {k end r : ℕ} → k ≡ 4 → r ≡ cond (live_kind k) (p + 1) end → r ≡ end
unfolding open_kinds
past_wait p {end = end} w e = e ∙ ap (λ j. cond (live_kind j) (p + 1) end) w

abbrev pub child_terms : Term → List Term
child_terms (leaf x) = []
child_terms (under u t) = t ∷ []
child_terms (both j l r) = l ∷ r ∷ []

-- a table is its first record and its children's tables
pub encode-children : (t : Term) → encode t ≡ record16 (root t) ++ tables unchanged (child_terms t)
unfolding root flat_map
encode-children (leaf x) = encode-leaf x ∙ sym (append-nil _)
encode-children (under u t) = encode-under u t ∙ ap (λ x. record16 (prefix u) ++ x) (sym (append-nil (encode t)))
encode-children (both j l r) = encode-both j l r ∙ ap (λ x. record16 (join j) ++ (encode l ++ x)) (sym (append-nil (encode r)))

-- The terms that stand from place p of a table on.
pub record Ahead (s : List ℕ) (p : ℕ) : Type 0 where
  pub terms : List Term
  pub stand : drop (16 * p) s ≡ tables unchanged terms

unfoldable pub ahead-start : (s : List ℕ) (t : Term) → s ≡ encode t → Ahead s 0
unfolding flat_map
ahead-start s t h = record { terms = t ∷ []; stand = h ∙ sym (append-nil (encode t)) }

module _ (s : List ℕ) (p : ℕ) (h : Ahead s p) where
  pub ahead_none : length s ≤ 16 * p → h.terms ≡ []
  unfolding flat_map
  ahead_none l = go h.terms h.stand
    where
      go : (ts : List Term) → drop (16 * p) s ≡ tables unchanged ts → ts ≡ []
      go [] e = refl
      go (r ∷ rs) e = absurd (omega (arith, ap length e, length-drop (16 * p) s, length-append (encode r) (tables unchanged rs), long r))

  -- the first of them
  pub record First : Type 0 where
    pub term : Term
    pub rest : List Term
    pub is : h.terms ≡ term ∷ rest
    pub stands : StandsIn s (16 * p) term

  pub first : 16 * p < length s → First
  unfolding flat_map
  first l = go h.terms refl
    where
      go : (ts : List Term) → h.terms ≡ ts → First
      go [] e = absurd (omega (arith, ap length (h.stand ∙ ap (tables unchanged) e), length-drop (16 * p) s))
      go (r ∷ rs) e = record { term = r; rest = rs; is = e; stands = record { rest = tables unchanged rs; is = h.stand ∙ ap (tables unchanged) e } }

  module _ (f : First) where
    -- behind its first bytes
    unfoldable pub ahead_past : (b : List ℕ) (ts : List Term) {next : ℕ} → encode f.term ≡ b ++ tables unchanged ts → 16 * next ≡ 16 * p + length b → Ahead s next
    ahead_past b ts {next} e n = record {
      terms = ts ++ f.rest;
      stand =
          rw n (sym (drop-drop (length b) (16 * p) s)
          ∙ (ap (drop (length b)) (h.stand ∙ (ap (tables unchanged) f.is ∙ tables_first unchanged f.term b ts f.rest e))
          ∙ drop_at b _ (length b) refl));
    }

    module _ {ends : List ℕ} (e : EndsFrom s ends 0) {next : ℕ} (at : next ≡ get_or ends p 0) where
      pub next_is : next ≡ p + size f.term
      next_is = at ∙ (e.end p (omega arith) (omega (arith, stands_fits f.term f.stands, long f.term)) ∙ end_stands s f.term p f.stands)

      pub next-bytes : 16 * next ≡ 16 * p + length (encode f.term)
      next-bytes = omega (arith, next_is, length-encode f.term)

      next_fits : (p < next) × (16 * next ≤ length s)
      next_fits = omega (arith, next_is, size_pos f.term, next-bytes, stands_fits f.term f.stands)

-- where the walk goes on behind a term, for code that knows of some table
pub ahead-next : (s ends : List ℕ) (p : ℕ) (q : Known s ends) → Ahead s p → 16 * p < length s → {next : ℕ} → next ≡ get_or ends p 0 → (p < next) × (16 * next ≤ length s)
ahead-next s ends p q h l at = next_fits s p h (first s p h l) q.table.end at

-- where it goes on: at the next record, or there
pub ahead-past : (s ends : List ℕ) (p : ℕ) (q : Known s ends) → Ahead s p → 16 * p < length s → {next : ℕ} → next ≡ get_or ends p 0 → (b : Bool) {r : ℕ} → r ≡ cond b (p + 1) next → (p < r) × (16 * r ≤ length s)
ahead-past s ends p q h l {next} at b e = let a = ahead-next s ends p q h l at in rw e (cond_case (λ x. (p < x) × (16 * x ≤ length s)) b (λ i. omega arith) (λ i. a))
