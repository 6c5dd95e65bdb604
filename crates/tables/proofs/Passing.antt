-- What the parts of the quick test find, and what the searches find that come behind it: the term that a table holds, and its judgement.
use mathlib.Core.Path.{◌≡◌, refl, sym, ap, ◌∙◌}
use mathlib.Core.Bool.{true}
use mathlib.Core.List.{List, map}
use mathlib.Core.Option.{none}
use Prim.Native.Nat.{ℕ, ◌*◌, ◌/◌, ◌<◌, ◌≤◌}
use native.Mathlib.Omega.{arith}
use lib.ListN.{length, take}
use Rattle.cows.specs.Terms.{Term}
use Rattle.cows.specs.Places.{first}
use Rattle.cows.specs.Format.{AreBytes, read_node, records, decode}
use Rattle.cows.specs.Tables.{first_wrong, too_deep, judge_term}
use Rattle.cows.proofs.Tables.{records_hold}
use Rattle.cows.proofs.Basics.{never}
use Rattle.std.specs.Result.{is_ok}
use Rattle.cows.proofs.Refusals.{shallow_first}
use Rattle.std.specs.Prelude as rust
use Rattle.std.specs.Prelude.{Some, None, Ok, Err}
use Rattle.records.specs.Answers.{found_of}
use Rattle.records.specs.Ends.{end_at, EndsFrom}
use Rattle.records.specs.Holds.{Holds}
use Rattle.records.proofs.Laws.{found_at, found_nothing}
use Rattle.records.proofs.Shapes.{end_shape}
use Rattle.records.proofs.StandsIn.{holds_size, whole_stands}
use Rattle.ranges.proofs.FieldRanges.{none_wrong}
use Rattle.ranges.specs.Ranges.{ranged}
use Rattle.ranges.proofs.Gaps.{no_gap}
use Rattle.ranges.proofs.Lists.{listed_cut}
use Rattle.depths.specs.Depths.{Standing}
use Rattle.depths.proofs.Deep.{standing}
use Rattle.depths.proofs.Searches.{deep-first}
use Rattle.depths.proofs.TooDeep.{FirstDeep}
use Rattle.readers.specs.Reads.{Readable}
use Rattle.readers.specs.Terms.{ReadTo}
use Rattle.readers.proofs.Terms.{read_tells}
use Rattle.index.specs.Index.{ScopesRight, ShowsPatterns}
use Rattle.tables.specs.declared.Fault.{Fault}
use Rattle.tables.specs.declared.Fault.TheVariants.{Deep, Choice}
use Rattle.tables.specs.Verdict.{verdict_reply, check_reply, judge_scopes, WholeRecords}
use Rattle.shapes.specs.Shaped.{Shaped}
use Rattle.tables.specs.Quick.{Sound, Passes}
use Rattle.tables.proofs.Judging.{judge-bound, judge-deep, judge-choice, judge_rest, judge_whole}

-- right records of one shape hold a term, which can be read from the first on
pub readable : (s ends : List ℕ) → AreBytes s → WholeRecords s → first_wrong 0 (records s) ≡ none → end_at s 0 ≡ length s / 16 → EndsFrom s ends 0 → Readable s ends 0
readable s ends b w right whole e =
    let (y, g) = records_hold s b w.whole right ((end_shape s right).0 (omega arith)) in
    record { term = decode (map read_node (records s)); holds = record { is = sym y; right = g }; end = e; inside = omega (arith, w.some, w.whole) }

-- it stands at the first place
pub read_standing : (s ends : List ℕ) → Readable s ends 0 → Standing s ends 0
read_standing s ends r = standing r.term (whole_stands r.term r.holds.is) r.end

-- what the search for a record that is too deep tells
deep_is : (s : List ℕ) (x : rust.Option ℕ) (t : Term) → Holds s t → FirstDeep s 0 1 x → x ≡ found_of (first too_deep t)
deep_is s x t h f = f t (whole_stands t h.is) ∙ ap found_of (deep-first t)

-- the verdict by what the searches find: 4, 5, and what is found of the scopes
module _ (s ends : List ℕ) (e : EndsFrom s ends 0) (x : rust.Option ℕ) (f : FirstDeep s 0 1 x) where
  pub found-deep : (p : ℕ) → x ≡ Some p → (t : Term) → Holds s t → verdict_reply (Err (Deep p)) ≡ check_reply (judge_term t)
  found-deep p q t h = judge-deep t p (found_at _ p (sym q ∙ deep_is s x t h f))

  module _ (shallow : x ≡ None) (r : rust.Result ℕ ℕ) (y : ReadTo s ends 0 r) where
    not_deep : (t : Term) → Holds s t → first too_deep t ≡ none
    not_deep t h = found_nothing _ (sym shallow ∙ deep_is s x t h f)

    pub found-choice : (p : ℕ) → r ≡ Err p → (t : Term) → Holds s t → verdict_reply (Err (Choice p)) ≡ check_reply (judge_term t)
    found-choice p q t h = judge-choice t p (not_deep t h) ((read_tells r h e y).unguarded p q)

    pub found_rest : (n : ℕ) → r ≡ Ok n → (v : rust.Result ℕ Fault) (t : Term) → Holds s t → verdict_reply v ≡ check_reply (judge_scopes t) → verdict_reply v ≡ check_reply (judge_term t)
    found_rest n q v t h z = judge_rest t v (not_deep t h) ((read_tells r h e y).guarded n q).1 z

-- what the shape of a table tells, with its records in their ranges and its lists cut behind their last places
pub shape_sound : (s ends marks users : List ℕ) → length s / 16 < length marks → length s / 16 < length users → ((i : ℕ) → i < length s / 16 → ranged s (16 * i) ≡ true)
    → (h m u : ℕ) → Shaped s ends marks users h m u → (m ≤ length marks) × (u ≤ length users) × Sound s ends (take m marks) (take u users)
shape_sound s ends marks users l k fields h m u e =
    let p : m ≤ length marks = omega (arith, e.mark.few) in
    let q : u ≤ length users = omega (arith, e.user.few) in (
      p,
      q,
      record {
        fields = fields;
        whole = e.whole;
        low = e.low;
        lists = record { end = e.end; delimitations = listed_cut s 8 8 marks _ m p e.mark; uses = listed_cut s 1 3 users _ u q e.user };
      },
    )

-- A table whose records, shape and depth are found right, and whose scopes and patterns are: its records are right, and if its guards are too, it is accepted.
module _ (s ends marks users : List ℕ) (b : AreBytes s) (w : WholeRecords s) (x : Sound s ends marks users) (bound : (t : Term) → Holds s t → ScopesRight t)
    (patterns : ShowsPatterns true s) where
  pub sound_right : first_wrong 0 (records s) ≡ none
  sound_right = none_wrong s x.fields (λ i l k. patterns refl i l k (no_gap s (16 * i) (x.fields i l)))

  pub sound_readable : Readable s ends 0
  sound_readable = readable s ends b w sound_right x.whole x.lists.end

  pub sound_passes : (r : rust.Result ℕ ℕ) → ReadTo s ends 0 r → is_ok r ≡ true → Passes s ends
  sound_passes (Err p) y q = never q
  sound_passes (Ok n) y q = record {
    right = sound_right;
    reply =
        judge_whole s (length s / 16) sound_right (sym x.whole) b w.whole refl (Ok (length s / 16))
        (λ t h. judge_rest t (Ok (length s / 16)) (shallow_first t (x.low t h)) ((read_tells (Ok n) h x.lists.end y).guarded n refl).1 (judge-bound t _ (bound t h) (holds_size s t h)));
    end = x.lists.end;
  }
