-- From what the parts of check find to the judgement of the table: one law for each answer.
use mathlib.Core.Path.{◌≡◌, refl, sym}
use mathlib.Core.Logic.{◌≢◌}
use mathlib.Core.Bool.{true, false, ◌||◌}
use mathlib.Core.Option.{Option, none, some}
use mathlib.Core.List.{List, [], ◌∷◌, map}
use Prim.Native.Nat.{ℕ, suc, ◌/◌, ◌%◌, ◌<◌, min}
use native.Mathlib.Omega.{arith}
use lib.ListN.{length, get_or}
use lib.Dec.{eqb, ltb}
use borrow.Author.Tests.{ne_eqb, le-ltb, eqb-false}
use Rattle.cows.specs.Basics.{place_if, ◌>>◌, forbid}
use Rattle.cows.specs.Terms.{Term, size}
use Rattle.cows.specs.Places.{first}
use Rattle.cows.specs.Format.{AreBytes, read_node, records, decode}
use Rattle.cows.specs.Tables.{wrong_length, first_wrong, too_deep, no_guard, unbound, clash, judge_term, judge}
use Rattle.cows.proofs.Basics.{lt_case, or_false}
use Rattle.cows.proofs.Tables.{records_hold, right_length}
use Rattle.records.specs.Holds.{Holds}
use Rattle.records.specs.Ends.{end_at}
use Rattle.records.proofs.Shapes.{end_shape}
use Rattle.std.specs.Prelude as rust
use Rattle.std.specs.Prelude.{Ok, Err}
use Rattle.scopes.specs.declared.ScopeFault.{ScopeFault}
use Rattle.scopes.specs.declared.ScopeFault.TheVariants.{Open, Clash}
use Rattle.tables.specs.declared.Fault.{Fault}
use Rattle.tables.specs.declared.Fault.TheVariants.{Length, Record, Shape, Deep, Choice}
use Rattle.scopes.specs.Scopes.{scoping_of}
use Rattle.index.specs.Index.{ScopesRight}
use Rattle.tables.specs.Verdict.{scope_fault, verdict_reply, check_reply, judge_scopes, judge_shape, WholeRecords}

-- 6 and 7
scoping_fine : (p q : Option ℕ) → Ok tt ≡ scoping_of p q → (p ≡ none) × (q ≡ none)
scoping_fine none none e = (refl, refl)
scoping_fine none (some q) e = (refl, cc)
scoping_fine (some p) q e = (cc, cc)

scoping_open : (p q : Option ℕ) (i : ℕ) → Err (Open i) ≡ scoping_of p q → p ≡ some i
scoping_open none none i e = cc
scoping_open none (some q) i e = cc
scoping_open (some p) q i e = cc

scoping_clash : (p q : Option ℕ) (i : ℕ) → Err (Clash i) ≡ scoping_of p q → (p ≡ none) × (q ≡ some i)
scoping_clash none none i e = (refl, cc)
scoping_clash none (some q) i e = (refl, cc)
scoping_clash (some p) q i e = (cc, cc)

pub judge-bound : (t : Term) (n : ℕ) → ScopesRight t → n ≡ size t → verdict_reply (Ok n) ≡ check_reply (judge_scopes t)
unfolding judge_scopes ◌>>◌ forbid
judge-bound t n b h = rw (b.0, b.1, h)

pub judge-fine : (t : Term) (n : ℕ) → Ok tt ≡ scoping_of (first unbound t) (first (clash t) t) → n ≡ size t → verdict_reply (Ok n) ≡ check_reply (judge_scopes t)
judge-fine t n e h = judge-bound t n (scoping_fine (first unbound t) (first (clash t) t) e) h

pub judge-scoping : (t : Term) (f : ScopeFault) → Err f ≡ scoping_of (first unbound t) (first (clash t) t) → verdict_reply (Err (scope_fault f)) ≡ check_reply (judge_scopes t)
unfolding judge_scopes ◌>>◌ forbid
judge-scoping t (Open i) e = rw (scoping_open (first unbound t) (first (clash t) t) i e)
judge-scoping t (Clash i) e = let (p, q) = scoping_clash (first unbound t) (first (clash t) t) i e in rw (p, q)

-- 4 and 5, and what comes behind them
pub judge-deep : (t : Term) (p : ℕ) → first too_deep t ≡ some p → verdict_reply (Err (Deep p)) ≡ check_reply (judge_term t)
unfolding judge_term ◌>>◌ forbid
judge-deep t p e = rw e

pub judge-choice : (t : Term) (p : ℕ) → first too_deep t ≡ none → first no_guard t ≡ some p → verdict_reply (Err (Choice p)) ≡ check_reply (judge_term t)
unfolding judge_term ◌>>◌ forbid
judge-choice t p d e = rw (d, e)

pub judge_rest : (t : Term) (v : rust.Result ℕ Fault) → first too_deep t ≡ none → first no_guard t ≡ none → verdict_reply v ≡ check_reply (judge_scopes t) → verdict_reply v ≡ check_reply (judge_term t)
unfolding judge_term judge_scopes ◌>>◌ forbid
judge_rest t v d g q = rw (d, g) q

-- the bytes of a slice are bytes
pub slice_bytes : (s : List ℕ) → ((k : ℕ) → get_or s k 0 < 256) → AreBytes s
slice_bytes [] h = tt
slice_bytes (x ∷ s) h = (h 0, slice_bytes s (λ k. h (suc k)))

-- 3, by the end e of the term at place 0
module _ (b : List ℕ) (e : ℕ) (right : first_wrong 0 (records b) ≡ none) (end : e ≡ end_at b 0) where
  pub judge_apart : e ≢ length b / 16 → verdict_reply (Err (Shape (min e (length b / 16)))) ≡ check_reply (judge_shape b)
  unfolding judge_shape ◌>>◌ forbid
  judge_apart n =
      lt_case _ e (length b / 16)
      (λ l. let m : min e (length b / 16) ≡ e = omega arith in rw (m, (end_shape b right).1 (omega arith), end))
      (λ l. let m : min e (length b / 16) ≡ length b / 16 = omega arith in rw (m, (end_shape b right).2 (omega arith)))

  pub judge_whole : AreBytes b → length b % 16 ≡ 0 → e ≡ length b / 16 → (v : rust.Result ℕ Fault) → ((t : Term) → Holds b t → verdict_reply v ≡ check_reply (judge_term t))
      → verdict_reply v ≡ check_reply (judge_shape b)
  unfolding judge_shape ◌>>◌ forbid
  judge_whole k z l v f =
      let q = (end_shape b right).0 (omega arith) in
      let (y, g) = records_hold b k z right q in
      rw q (f (decode (map read_node (records b))) (record { is = sym y; right = g }))

-- 1 and 2
pub judge-length : (b : List ℕ) → wrong_length b ≡ true → verdict_reply (Err Length) ≡ check_reply (judge b)
unfolding judge ◌>>◌ forbid place_if
judge-length b e = rw e

pub judge_record : (b : List ℕ) (p : ℕ) → wrong_length b ≡ false → first_wrong 0 (records b) ≡ some p → verdict_reply (Err (Record p)) ≡ check_reply (judge b)
unfolding judge ◌>>◌ forbid place_if
judge_record b p e f = rw (e, f)

pub judge_all : (b : List ℕ) (v : rust.Result ℕ Fault) → wrong_length b ≡ false → first_wrong 0 (records b) ≡ none → verdict_reply v ≡ check_reply (judge_shape b) → verdict_reply v ≡ check_reply (judge b)
unfolding judge judge_shape ◌>>◌ forbid place_if
judge_all b v e f q = rw (e, f) q

-- whole records, some and not too many, by the code's test
pub whole_length : (b : List ℕ) → WholeRecords b → wrong_length b ≡ false
unfolding wrong_length
whole_length b w = rw (ne_eqb (length b) 0 (omega (arith, w.some)), le-ltb 32768 (length b) w.short, w.whole)

pub whole_records : (b : List ℕ) → wrong_length b ≡ false → WholeRecords b
unfolding wrong_length
whole_records b e =
    let (l, z) = right_length b e in
    let (f, g) = or_false (eqb (length b) 0 || ltb 32768 (length b)) _ e in
    record { some = omega (arith, eqb-false (length b) 0 (or_false (eqb (length b) 0) _ f).0); short = l; whole = z }
