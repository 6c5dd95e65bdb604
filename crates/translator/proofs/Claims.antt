-- The request's claims hold of whatever meets the equations of `translate` (specs/Judging: Translated, OrcClaims); `translate` promises both.
use mathlib.Core.Path.{◌≡◌, refl, ap, ◌∙◌}
use mathlib.Core.Logic.{◌≢◌}
use mathlib.Core.List.{List}
use Prim.Native.Nat.{ℕ}
use native.Mathlib.Omega.{arith}
use lib.ListN.{length}
use Rattle.cows.specs.Basics.{Result, refuse, accept}
use Rattle.cows.specs.Terms.{Term}
use Rattle.cows.specs.Format.{AreBytes}
use Rattle.cows.specs.Step.{reply_to, written}
use Rattle.tables.specs.declared.Reply.{Reply}
use Rattle.stepper.specs.Replies.{reply_of, Answers}
use Rattle.orc.specs.Translation.{judge_orc, orc_reply, orc_output}
use Rattle.orc.proofs.Bounds.{below_orc}
use Rattle.orc.proofs.Theorems.{accepted_output, output_within, script_one}
use Rattle.translator.specs.Judging.{Translated, Given, OrcClaims}

-- the answers to the judgement are those of the definition
pub translated : {b : List ℕ} {p o : ℕ} {out after : List ℕ} {r : Reply} → Answers (judge_orc b p o (length out)) out after r → Translated b p o out after r
unfolding orc_reply orc_output
translated h = record { replies = h.replies; output = h.output }

module _ (b : List ℕ) (p o : ℕ) (out after : List ℕ) (r : Reply) (bytes : AreBytes b) (h : Answers (judge_orc b p o (length out)) out after r) where
  reply_is : (x : Result Term) → judge_orc b p o (length out) ≡ x → r ≡ reply_of (reply_to x)
  reply_is x e = h.replies ∙ ap (λ y. reply_of (reply_to y)) e

  output_is : (x : Result Term) → judge_orc b p o (length out) ≡ x → after ≡ written x out
  output_is x e = h.output ∙ ap (λ y. written y out) e

  given : (t : Term) → judge_orc b p o (length out) ≡ accept t → Given b p o out after r
  unfolding reply_to written
  given t e =
      let (f, s, w, l) = accepted_output b p o (length out) t bytes e in
      record {
        expression = f;
        is = s;
        only = λ g k. script_one b g f k s;
        term = t;
        clauses = w;
        within = output_within w;
        records = ap (λ (y : Reply). y.records) (reply_is (accept t) e);
        bytes = output_is (accept t) e;
      }

  pub claims : OrcClaims b p o out after r
  unfolding reply_to written
  claims = record { accepted = λ z. on_accepted (judge_orc b p o (length out)) refl z; refused = λ z. on_refused (judge_orc b p o (length out)) refl z }
    where
      on_accepted : (x : Result Term) → judge_orc b p o (length out) ≡ x → r.answer ≡ 0 → Given b p o out after r
      on_accepted (refuse n q) e z =
          let k = ap (λ (y : Reply). y.answer) (reply_is (refuse n q) e) in
          let m = rw e at (below_orc 513 (omega arith) b p o (length out)) in
          absurd (omega (arith, m.0))
      on_accepted (accept t) e z = given t e

      on_refused : (x : Result Term) → judge_orc b p o (length out) ≡ x → r.answer ≢ 0 → (r.records ≡ 0) × (after ≡ out)
      on_refused (refuse n q) e z = (ap (λ (y : Reply). y.records) (reply_is (refuse n q) e), output_is (refuse n q) e)
      on_refused (accept t) e z = absurd (z (ap (λ (y : Reply). y.answer) (reply_is (accept t) e)))
