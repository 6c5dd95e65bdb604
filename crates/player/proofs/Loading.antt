-- The load of a table's bytes (specs/Loads) is the load of the term that stands there.
use mathlib.Core.Path.{◌≡◌, refl, sym, ap, subst, ◌∙◌}
use mathlib.Core.Logic.{◌≢◌}
use mathlib.Core.Bool.{◌&&◌}
use mathlib.Core.List.{List}
use Prim.Native.Nat.{ℕ, zero, suc, ◌+◌, ◌*◌, ◌-◌, ◌/◌, ◌≤◌, ◌<◌}
use native.Mathlib.Omega.{arith}
use native.Mathlib.Numerals.{add-one}
use lib.ListN.{length, get_or}
use mir.Val.{bool_byte}
use Rattle.cows.specs.Basics.{Result, refuse, accept}
use Rattle.cows.specs.Terms.{Prefix, Term, leaf, under, both, size, below}
use Rattle.cows.specs.Kinds.{root, kind_of, weight_of, open_kinds}
use Rattle.cows.specs.Places.{sub}
use Rattle.cows.specs.Format.{encode}
use Rattle.cows.specs.Tables.{judge}
use Rattle.cows.specs.Load.{load}
use Rattle.cows.proofs.Places.{spot_fits, spot_under}
use Rattle.cows.proofs.Format.{length-encode}
use Rattle.records.specs.Holds.{Holds}
use Rattle.records.specs.Rewrites.{StandsIn}
use Rattle.records.proofs.StandsIn.{whole_stands, stands_kind, stands_under, stands_left, stands_right, holds_stands, holds_size}
use Rattle.ways.specs.Known.{Table, Known}
use Rattle.ways.proofs.KnownTables.{table_size, table_ended}
use Rattle.tables.specs.declared.Reply.{Reply}
use Rattle.tables.specs.Verdict.{check_reply, Checked}
use Rattle.stepper.proofs.Stepping.{Read}
use Rattle.player.specs.Loads.{load_from, load_between, load_reply}
use Rattle.cows.proofs.Rows.{unknown, kind-cases}
use borrow.Author.Tests.{le-leb, lt-leb}
use lib.Dec.{leb}

-- what a record weighs, as the code counts it: at most one for each record
abbrev Counted : ℕ → Type 0
Counted k = (bool_byte (leb 1 k && leb k 4) ≡ weight_of k) × (weight_of k ≤ 1)

pub weight_counted : (k : ℕ) → Counted k
unfolding open_kinds
weight_counted =
    kind-cases Counted
    ((refl, omega arith), (refl, omega arith), (refl, omega arith), (refl, omega arith), (refl, omega arith), (refl, omega arith), (refl, omega arith), (refl, omega arith), (refl, omega arith), (refl, omega arith))
    (λ n. rw (le-leb 1 (unknown n) (omega arith), lt-leb (unknown n) 4 (omega arith)) (refl, omega arith))

few_from : (s : List ℕ) (i n : ℕ) → load_from s i n ≤ n
unfolding load_from
few_from s i zero = omega arith
few_from s i (suc n) = omega (arith, few_from s (suc i) n, weight_counted (get_or s (16 * i) 0))

module _ (s : List ℕ) (i j : ℕ) where
  pub load_few : load_between s i j ≤ j
  unfolding load_between
  load_few = omega (arith, few_from s i (j - i))

  -- one record more; no record
  pub load-next : i < j → load_between s i j ≡ weight_of (get_or s (16 * i) 0) + load_between s (i + 1) j
  unfolding load_between load_from
  load-next h = let z : j - i ≡ suc (j - (i + 1)) = omega arith in rw (z, add-one i)

  pub load-none : j ≤ i → load_between s i j ≡ 0
  unfolding load_between load_from
  load-none h = let z : j - i ≡ 0 = omega arith in rw z

-- two parts, one behind the other
load_append : (s : List ℕ) (i m n : ℕ) → load_from s i (m + n) ≡ load_from s i m + load_from s (i + m) n
unfolding load_from
load_append s i zero n =
    let y : 0 + n ≡ n = omega arith in
    let z : i + 0 ≡ i = omega arith in
    rw (y, z) (omega arith)
load_append s i (suc m) n =
    let y : suc m + n ≡ suc (m + n) = omega arith in
    let z : i + suc m ≡ suc i + m = omega arith in
    rw (y, z) (omega (arith, load_append s (suc i) m n))

-- the records of a term have its load
pub stands_load : (s : List ℕ) (i : ℕ) (t : Term) → StandsIn s (16 * i) t → load_from s i (size t) ≡ load t
unfolding load_from size load kind_of root
stands_load s i (leaf x) h = omega (arith, ap weight_of (stands_kind (leaf x) h))
stands_load s i (under u t) h =
    let g : StandsIn s (16 * suc i) t = subst (λ k. StandsIn s k t) (omega arith) (stands_under u t h) in
    omega (arith, ap weight_of (stands_kind (under u t) h), stands_load s (suc i) t g)
stands_load s i (both j l r) h =
    let g : StandsIn s (16 * suc i) l = subst (λ k. StandsIn s k l) (omega arith) (stands_left j l r h) in
    let k : StandsIn s (16 * (suc i + size l)) r = stands_right j l r (16 * (suc i + size l)) (omega (arith, length-encode l)) h in
    omega (arith, ap weight_of (stands_kind (both j l r) h), load_append s (suc i) (size l) (size r), stands_load s (suc i) l g, stands_load s (suc i + size l) r k)

-- the term at place i, which ends at place j
pub load_stands : (s : List ℕ) (i j : ℕ) (t : Term) → StandsIn s (16 * i) t → j ≡ i + size t → load_between s i j ≡ load t
unfolding load_between
load_stands s i j t h e = let z : j - i ≡ size t = omega arith in rw z (stands_load s i t h)

-- a term's own table: so its load is at most the number of its records
pub load-size : (t : Term) → load t ≤ size t
load-size t = omega (arith, few_from (encode t) 0 (size t), stands_load (encode t) 0 t (whole_stands t refl))

-- a table that holds a term; what stands behind the prefix at place a
pub holds_load : (s : List ℕ) (t : Term) → Holds s t → load_between s 0 (length s / 16) ≡ load t
holds_load s t h = load_stands s 0 (length s / 16) t (whole_stands t h.is) (omega (arith, holds_size s t h))

module _ (s ends : List ℕ) (t : Term) (h : Table s ends t) where
  pub table_load : load_between s 0 (length s / 16) ≡ load t
  table_load = holds_load s t h.holds

  pub body-load : (a : ℕ) → a < size t → (u : Prefix) (c : Term) → sub t a ≡ under u c → load_between s (a + 1) (get_or ends a 0) ≡ load (below (sub t a))
  unfolding size below
  body-load a l u c e =
      let (i, z, w) = spot_under t a u c l e in
      let g : StandsIn s (16 * (a + 1)) c = rw (add-one a, ← z) (holds_stands s t (suc a) h.holds i) in
      load_stands s (a + 1) (get_or ends a 0) c g (omega (arith, table_ended s ends t h a l, ap size e)) ∙ ap (λ r. load (below r)) (sym e)

-- its places, for code that counts it
pub body_places : (s ends : List ℕ) → Known s ends → (a : ℕ) → a < length s / 16 → (16 * get_or ends a 0 ≤ length s) × (get_or ends a 0 ≤ 2048)
body_places s ends k a l =
    let n = table_size s ends k.term k.table in
    let e = table_ended s ends k.term k.table a (omega arith) in
    let f = spot_fits k.term a (omega arith) in
    omega (arith, k.few)

-- the load of a judged table: of a refused one, and of one that is read
pub load-refused : (s ends : List ℕ) (r : Reply) → Checked s ends r → r.answer ≢ 0 → r ≡ load_reply (judge s)
load-refused s ends r h z = go (judge s) h.reply
  where
    go : (x : Result Term) → r ≡ check_reply x → r ≡ load_reply x
    go (refuse n p) e = e
    go (accept t) e = absurd (z (ap (λ q. q.answer) e))

pub load_read : (s ends : List ℕ) (q : Read s ends) (n : ℕ) → n ≡ load_between s 0 (length s / 16) → record { answer = 0; place = 0; records = n } ≡ load_reply (judge s)
load_read s ends q n e = rw (q.judged, e, table_load s ends q.term q.table)
