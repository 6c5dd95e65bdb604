-- The judgement of any bytes, step by step (specs/Judging): 30, then 31, then 32, then 20 and 21.
use mathlib.Core.Path.{◌≡◌, refl, ap, ◌∙◌}
use mathlib.Core.Bool.{true, false, ◌||◌}
use mathlib.Core.Option.{Option, none, some}
use mathlib.Core.List.{List, []}
use Prim.Native.Nat.{ℕ, ◌*◌, ◌≤◌, ◌<◌}
use native.Mathlib.Omega.{arith}
use lib.Dec.{ltb}
use lib.ListN.{length}
use borrow.Author.Tests.{lt-ltb, le-ltb}
use Rattle.cows.specs.Basics.{Result, refuse, accept, place_if, ◌>>=◌, ◌>>◌, forbid}
use Rattle.cows.specs.Terms.{size}
use Rattle.cows.specs.Cut.{cut, first_failing}
use Rattle.cows.specs.Format.{AreBytes, encode}
use Rattle.cows.specs.Within.{nowhere}
use Rattle.cows.specs.Step.{over_limits, fitted, reply_to, written}
use Rattle.records.specs.Rewrites.{put}
use Rattle.stepper.specs.Replies.{Answers}
use Rattle.stepper.proofs.Moved.{put-encode}
use Rattle.orc.specs.Expressions.{Orc, records_in}
use Rattle.orc.specs.Scripts.{right_record8, nodes_of, expression, wrong_script, wrong_endpoint, misplaced, misbound, judge_script}
use Rattle.orc.specs.Translation.{translation, judge_orc}
use Rattle.orc.proofs.Format.{length-script}
use Rattle.orc.proofs.Scripts.{right_start, records_script}
use Rattle.orc.proofs.Clauses.{translation_clauses}
use Rattle.scripts.specs.Standing.{ScriptOf}
use Rattle.extents.specs.Extents.{out_size, out_depth}
use Rattle.extents.proofs.Sizes.{size_translates, depth_translates}
use Rattle.translator.specs.Judging.{judge_output, judge_bindings, judge_nesting, RightScript, KnownScript}

-- 30
pub wrong_start : (b : List ℕ) (p o room : ℕ) → (wrong_script b || wrong_endpoint p o) ≡ true → judge_orc b p o room ≡ refuse 30 0
unfolding judge_orc judge_script place_if ◌>>=◌ ◌>>◌ forbid
wrong_start b p o room e = rw e

pub wrong_record : (b : List ℕ) (p o room n : ℕ) → (wrong_script b || wrong_endpoint p o) ≡ false → first_failing right_record8 0 (cut 8 b) ≡ some n → judge_orc b p o room ≡ refuse 30 n
unfolding judge_orc judge_script place_if ◌>>=◌ ◌>>◌ forbid
wrong_record b p o room n e f = rw (e, f)

-- two tests before an accepted value, and the rest of the judgement behind them
tests_before : {A B : Type 0} (m n : ℕ) (x y : Option ℕ) (a : A) (k : A → Result B) → ((forbid m x >> (forbid n y >> accept a)) >>= k) ≡ (forbid m x >> (forbid n y >> k a))
unfolding ◌>>=◌ ◌>>◌ forbid
tests_before m n none none a k = refl
tests_before m n none (some q) a k = refl
tests_before m n (some p) y a k = refl

pub right_records : (b : List ℕ) (p o room : ℕ) → (wrong_script b || wrong_endpoint p o) ≡ false → first_failing right_record8 0 (cut 8 b) ≡ none → judge_orc b p o room ≡ judge_nesting b p o room
unfolding judge_orc judge_script judge_nesting judge_bindings place_if ◌>>◌ forbid
right_records b p o room e f = rw (e, f) (unfold forbid in unfold ◌>>◌ in tests_before 31 32 (misplaced (nodes_of b)) (misbound nowhere [] 0 (expression (nodes_of b))) (expression (nodes_of b)) (λ e. fitted room (translation p o e)))

pub right_script : (b : List ℕ) (p o : ℕ) → (wrong_script b || wrong_endpoint p o) ≡ false → first_failing right_record8 0 (cut 8 b) ≡ none → RightScript b p o
right_script b p o e f = let (l, z, x, y) = right_start b p o e in record { short = l; whole = z; right = f; partner = x; operation = y }

-- 31
pub wrong_nesting : (b : List ℕ) (p o room n : ℕ) → misplaced (nodes_of b) ≡ some n → judge_nesting b p o room ≡ refuse 31 n
unfolding judge_nesting ◌>>◌ forbid
wrong_nesting b p o room n e = rw e

module _ (b : List ℕ) (p o : ℕ) (bytes : AreBytes b) (r : RightScript b p o) (e : misplaced (nodes_of b) ≡ none) where
  pub known_expression : ScriptOf b (expression (nodes_of b))
  known_expression = let (s, k, d) = records_script b bytes r.whole r.right e in record { is = s; right = k }

  pub known_script : KnownScript b p o
  known_script =
      record {
        expression = expression (nodes_of b);
        stands = known_expression;
        few = omega (arith, r.short, length-script (expression (nodes_of b)), ap length known_expression.is);
        partner = r.partner;
        operation = r.operation;
      }

  pub right_nesting : (room : ℕ) → judge_nesting b p o room ≡ judge_bindings (expression (nodes_of b)) p o room
  unfolding judge_nesting ◌>>◌ forbid
  right_nesting room = rw e

-- 32
pub wrong_binding : (e : Orc) (p o room n : ℕ) → misbound nowhere [] 0 e ≡ some n → judge_bindings e p o room ≡ refuse 32 n
unfolding judge_bindings ◌>>◌ forbid
wrong_binding e p o room n h = rw h

pub right_bindings : (e : Orc) (p o room : ℕ) → misbound nowhere [] 0 e ≡ none → judge_bindings e p o room ≡ judge_output e p o room
unfolding judge_bindings ◌>>◌ forbid
right_bindings e p o room h = rw h

-- 20 and 21, by the size and the depth that are read off the expression
module _ (e : Orc) (p o : ℕ) (few : records_in e ≤ 512) where
  pub translation-size : size (translation p o e) ≡ out_size e
  translation-size = size_translates (translation_clauses p o e few)

  pub limits_extent : over_limits (translation p o e) ≡ (ltb 2048 (out_size e) || ltb 256 (out_depth e))
  unfolding over_limits
  limits_extent = rw (translation-size, depth_translates (translation_clauses p o e few))

  pub too_large : (room : ℕ) → (ltb 2048 (out_size e) || ltb 256 (out_depth e)) ≡ true → judge_output e p o room ≡ refuse 20 0
  unfolding fitted place_if ◌>>◌ forbid
  too_large room h = rw (limits_extent, h)

  module _ (room : ℕ) (h : (ltb 2048 (out_size e) || ltb 256 (out_depth e)) ≡ false) where
    pub no_room : room < 16 * out_size e → judge_output e p o room ≡ refuse 21 0
    unfolding fitted place_if ◌>>◌ forbid
    no_room l = rw (limits_extent, h, translation-size, lt-ltb room (16 * out_size e) l)

    pub fits_output : 16 * out_size e ≤ room → judge_output e p o room ≡ accept (translation p o e)
    unfolding fitted place_if ◌>>◌ forbid
    fits_output l = rw (limits_extent, h, translation-size, le-ltb room (16 * out_size e) l)

  pub written_answers : (out after : List ℕ) → (ltb 2048 (out_size e) || ltb 256 (out_depth e)) ≡ false → 16 * out_size e ≤ length out → after ≡ put out 0 (encode (translation p o e))
      → (n : ℕ) → n ≡ out_size e → Answers (judge_output e p o (length out)) out after (record { answer = 0; place = 0; records = n })
  unfolding reply_to written
  written_answers out after h l w n q =
      let x = fits_output (length out) h l in
      record { replies = rw (x, translation-size, q); output = rw x (w ∙ put-encode out (translation p o e) (omega (arith, translation-size))) }
