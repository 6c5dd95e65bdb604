-- A known table (specs/Known): its ends, the way to each of its places, and whether a live record stands there.
use mathlib.Core.Path.{◌≡◌, refl, subst, sym, ap, ◌∙◌}
use mathlib.Core.Logic.{◌≢◌}
use mathlib.Core.Bool.{Bool, true, false, not, ◌&&◌}
use mathlib.Core.List.{List, [], ◌∷◌}
use Prim.Native.Nat.{ℕ, zero, suc, ◌*◌, ◌/◌, ◌≤◌, ◌<◌}
use native.Mathlib.Omega.{arith}
use lib.Dec.{ltb}
use lib.ListN.{length, get_or}
use borrow.Author.Tests.{not-true, not-false, lt-ltb, le-ltb, ltb-true, eq-eqb, ne_eqb, eqb-true}
use Rattle.cows.specs.Terms.{Term, size, depth, delimits_at}
use Rattle.cows.specs.Kinds.{kind_of}
use Rattle.cows.specs.Places.{way_to, sub}
use Rattle.cows.specs.Active.{live}
use Rattle.cows.proofs.Basics.{clash, found_none, not_so, and_none, true_and, and_true}
use Rattle.cows.proofs.Places.{fill_spot}
use Rattle.cows.proofs.Ways.{depth_pos, depth_part}
use Rattle.cows.specs.Format.{AreBytes}
use Rattle.cows.specs.Basics.{Result, refuse, accept}
use Rattle.cows.specs.Tables.{judge}
use Rattle.cows.proofs.Tables.{judge-encode, judge-within, within-judge}
use Rattle.cows.proofs.Format.{encode_injective, length-encode, encode-bytes}
use Rattle.records.proofs.StandsIn.{holds_size, holds_kind, holds_stands}
use Rattle.records.specs.Answers.{found_of}
use Rattle.records.proofs.Shapes.{end_stands}
use Rattle.cows.proofs.Reach.{enclosed_reaches}
use Rattle.ways.specs.declared.Place.{Place}
use Rattle.ways.specs.Known.{Table, Known, EndPlaces, is_accepted, WellFormed}
use Rattle.ways.specs.Ways.{Over, FirstAbove, start_of, scope_of, parent_of, live_there, LivePlace, Placed, LiveAt}
use Rattle.ways.proofs.Starts.{scope_found}
use Rattle.ways.proofs.Descending.{stop_scope}
use Rattle.std.specs.Prelude as rust
use Rattle.std.specs.Prelude.{Some, None}

-- a table holds one term
pub one_table : (s ends : List ℕ) (t u : Term) → Table s ends t → Table s ends u → t ≡ u
one_table s ends t u h k = encode_injective t u h.holds.right k.holds.right (sym h.holds.is ∙ k.holds.is)

pub table_size : (s ends : List ℕ) (t : Term) → Table s ends t → length s / 16 ≡ size t
table_size s ends t h = holds_size s t h.holds

pub table_ended : (s ends : List ℕ) (t : Term) → Table s ends t → EndPlaces ends t
table_ended s ends t h j l =
    h.end.end j (omega arith) (omega (arith, table_size s ends t h)) ∙ end_stands s (sub t j) j (holds_stands s t j h.holds l)

pub table_inside : (s ends : List ℕ) (t : Term) → Table s ends t → (a : ℕ) → a < length s / 16 → a < size t
table_inside s ends t h a l = omega (arith, table_size s ends t h)

-- no more than 255 records are above a place
pub way_short : (t : Term) (a : ℕ) → depth t ≤ 256 → length (way_to t a) < 256
way_short t a h = omega (arith, depth_part (way_to t a) (sub t a), ap depth (fill_spot t a), depth_pos (sub t a))

-- no live record of the kind: past the end, of another kind, or not live
module _ (s ends : List ℕ) (t : Term) (h : Table s ends t) (a kind : ℕ) where
  pub past_end : length s / 16 ≤ a → live_there t a kind ≡ false
  past_end l = rw (le-ltb a (size t) (omega (arith, table_size s ends t h)))

  pub other_kind : a < length s / 16 → get_or s (16 * a) 0 ≢ kind → live_there t a kind ≡ false
  other_kind l e =
      rw (ne_eqb (kind_of (sub t a)) kind (λ z. e (holds_kind s t a h.holds (omega (arith, table_size s ends t h)) ∙ z)))
      (and_none (ltb a (size t) && live (way_to t a)))

  pub not_live : live (way_to t a) ≡ false → live_there t a kind ≡ false
  not_live e = rw (e, and_none (ltb a (size t)))

-- a live record of the kind
pub live_there_lem : (s ends : List ℕ) (t : Term) (h : Table s ends t) (a kind : ℕ) → a < length s / 16 → get_or s (16 * a) 0 ≡ kind → live (way_to t a) ≡ true → live_there t a kind ≡ true
live_there_lem s ends t h a kind l e v =
    let i = table_inside s ends t h a l in
    true_and (true_and (lt-ltb a (size t) i) v) (eq-eqb (kind_of (sub t a)) kind (sym (holds_kind s t a h.holds i) ∙ e))

there_live : {s ends : List ℕ} {t : Term} {a kind : ℕ} → Table s ends t → live_there t a kind ≡ true → LiveAt s t a kind
there_live {t = t} {a = a} {kind = kind} h e =
    let (x, k) = and_true (ltb a (size t) && live (way_to t a)) _ e in
    let (i, l) = and_true (ltb a (size t)) _ x in
    record { holds = h.holds; inside = ltb-true a (size t) i; live = l; kind_is = eqb-true (kind_of (sub t a)) kind k }

live_placed : {s ends : List ℕ} {t : Term} {a kind : ℕ} → Table s ends t → LiveAt s t a kind → a < length s / 16
live_placed {s = s} {ends = ends} {t = t} h l = omega (arith, table_size s ends t h, l.inside)

-- what is said of a place where no such record stands
pub placed_nowhere : {t : Term} (a kind : ℕ) → live_there t a kind ≡ false → Placed t a kind None
placed_nowhere a kind e = record { none = λ n. e; some = λ p n. cc }

-- and of one where such a record stands
pub placed_there : {t : Term} {a kind : ℕ} {p : Place} → LivePlace t a kind p → Placed t a kind (Some p)
placed_there {p = p} h = record { none = λ n. cc; some = λ q e. subst (LivePlace _ _ _) (let z : p ≡ q = cc in z) h }

-- what a caller has of what is said of a place
module _ {s ends : List ℕ} {a kind : ℕ} {r : rust.Option Place} (f : (t : Term) → Table s ends t → Placed t a kind r) where
  pub none-live : {t : Term} → Table s ends t → r ≡ None → live_there t a kind ≡ false
  none-live {t = t} h e = (f t h).none e

  module _ {p : Place} (e : r ≡ Some p) where
    pub found_told : {t : Term} → Table s ends t → LivePlace t a kind p
    found_told {t = t} h = (f t h).some p e

    pub found-live : {t : Term} → Table s ends t → LiveAt s t a kind
    found-live h = there_live h (found_told h).told

    pub found_inside : Known s ends → a < length s / 16
    found_inside k = live_placed k.table (found-live k.table)

    pub found_above : {t : Term} → Table s ends t → p.above ≡ length (way_to t a)
    found_above h = (found_told h).above_is

    pub found_parent : {t : Term} → Table s ends t → p.parent ≡ parent_of (way_to t a)
    found_parent h = (found_told h).parent_is

    pub found-start : {t : Term} → Table s ends t → p.start ≡ start_of a (way_to t a)
    found-start h = (found_told h).start_is

-- the bytes of a slice are bytes
pub each_byte : (s : List ℕ) → ((k : ℕ) → get_or s k 0 < 256) → AreBytes s
each_byte [] h = tt
each_byte (x ∷ s) h = (h 0, each_byte s (λ k. h (suc k)))

-- a well-formed table is the table of a term
pub known_of : {s ends : List ℕ} → WellFormed s ends → Known s ends
known_of {s = s} {ends = ends} h = go (judge s) refl h.accepted
  where
    go : (x : Result Term) → judge s ≡ x → is_accepted x ≡ true → Known s ends
    go (refuse n p) e a = clash a refl
    go (accept t) e a =
        let b = each_byte s h.bytes in
        let w = judge-within s t b e in
        let i = sym (judge-encode s t b e) in
        record {
          term = t;
          table = record { holds = record { is = i; right = w.right }; within = w; end = h.end };
          whole = omega (arith, ap length i, length-encode t);
          few = h.end.few;
          room = h.end.room;
        }

each_below : (s : List ℕ) → AreBytes s → (k : ℕ) → get_or s k 0 < 256
each_below [] h k = omega arith
each_below (x ∷ s) h zero = h.0
each_below (x ∷ s) h (suc k) = each_below s h.1 k

-- the table of a term is a well-formed table
pub well_formed : {s ends : List ℕ} → Known s ends → WellFormed s ends
well_formed {s = s} k = record {
  bytes = each_below s (subst AreBytes (sym k.table.holds.is) (encode-bytes k.term k.table.within.right));
  accepted = ap is_accepted (ap judge k.table.holds.is ∙ within-judge k.term k.table.within);
  end = k.table.end;
}

-- the first record above a place that delimits an atom is the delimitation that encloses the place
module _ {s ends : List ℕ} {t : Term} {a : ℕ} (h : Table s ends t) (l : a < length s / 16) (d : ℕ) {test : ℕ → Bool → Type 0}
    (tells : (p : ℕ) (b : Bool) → p < size t → test p b → b ≡ delimits_at d (sub t p)) where
  pub scope_first : (r : rust.Option ℕ) → FirstAbove test t a r → r ≡ found_of (scope_of d (way_to t a))
  scope_first None f = ap found_of (sym (found_none _ (sym (scope_found d (way_to t a)) ∙ not_so (λ e.
      let (q, m, x, i) = enclosed_reaches t d a (table_inside _ _ t h a l) e in
      let o : Over t q a = record { inside = omega (arith, table_inside _ _ t h a l); low = omega arith; over = i } in
      clash x (sym (tells q false o.inside (f.none refl q o m)))))))
  scope_first (Some p) f =
      let (o, m, e, b) = f.some p refl in
      ap found_of (sym (stop_scope h.within.formed (table_inside _ _ t h a l) o m d (sym (tells p true o.inside e))))
