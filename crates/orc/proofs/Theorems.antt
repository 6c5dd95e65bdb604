-- The theorems of 2026-03: what an accepted script gives, from its bytes to the output's; and every such output is given.
use mathlib.Core.Path.{◌≡◌, sym, subst, ◌∙◌}
use mathlib.Core.Bool.{true, false}
use mathlib.Core.List.{List}
use Prim.Native.Nat.{ℕ, ◌*◌, ◌≤◌}
use lib.Dec.{ltb}
use borrow.Author.Tests.{ltb-false, le-ltb}
use Rattle.cows.specs.Basics.{place_if, accept, ◌>>=◌, ◌>>◌, forbid}
use Rattle.cows.specs.Terms.{Term, value, size, depth}
use Rattle.cows.specs.Moves.{renaming}
use Rattle.cows.specs.Format.{AreBytes, encode}
use Rattle.cows.specs.Tables.{judge}
use Rattle.cows.specs.Within.{Formed, Within}
use Rattle.cows.specs.Step.{over_limits, fitted}
use Rattle.cows.proofs.Basics.{or_false, place_if-none, bind-accept, forbid-accept, same_accept}
use Rattle.cows.proofs.Tables.{within-judge}
use Rattle.orc.specs.Expressions.{Orc, Admissible}
use Rattle.orc.specs.Scripts.{script, judge_script}
use Rattle.orc.specs.Translation.{introduced, taken_by, translation, judge_orc}
use Rattle.orc.specs.Clauses.{Translates, Fresh, Output}
use Rattle.orc.proofs.Format.{script_injective}
use Rattle.orc.proofs.Scripts.{ScriptAccepted, judge-accepted, admissible_judge}
use Rattle.orc.proofs.Clauses.{renames-fresh, translation-renames, translation_clauses, one_translation}
use Rattle.orc.proofs.Formed.{formed_translates, within_translates}

-- What the clauses make of an expression within its limits is well formed, with any fresh atoms.
pub clauses_formed : (e : Orc) (p o : ℕ) (t : Term) (ns : List ℕ) → Admissible e → value p ≡ true → value o ≡ true → Translates e p o t ns → Fresh (taken_by p o e) ns → Formed t
clauses_formed e p o t ns h x y c f = formed_translates e p o t ns c x y h.right h.closed h.unique f

-- The output is within the limits: so it is a table, and the one of its term.
pub output_within : {e : Orc} {p o : ℕ} {t : Term} → Output e p o t → Within t
output_within {e = e} {p = p} {o = o} {t = t} h =
    within_translates e p o t _ h.clauses h.partner h.operation h.within.right h.within.closed h.within.unique (renames-fresh h.smallest) h.small h.shallow

pub output_table : {e : Orc} {p o : ℕ} {t : Term} → Output e p o t → judge (encode t) ≡ accept t
output_table {t = t} h = within-judge t (output_within h)

-- An expression has one output at most: the clauses' term with the smallest atoms in record order is the translation.
pub output_translation : {e : Orc} {p o : ℕ} {t : Term} → Output e p o t → t ≡ translation p o e
output_translation {e = e} {p = p} {o = o} {t = t} h = one_translation p o e h.within.small t h.choice h.smallest h.clauses

-- 20 and 21
limits : (t : Term) → over_limits t ≡ false → (size t ≤ 2048) × (depth t ≤ 256)
unfolding over_limits
limits t h = let (k, l) = or_false (ltb 2048 (size t)) (ltb 256 (depth t)) h in (ltb-false 2048 (size t) k, ltb-false 256 (depth t) l)

within_limits : (t : Term) → size t ≤ 2048 → depth t ≤ 256 → over_limits t ≡ false
unfolding over_limits
within_limits t k l = rw (le-ltb 2048 (size t) k, le-ltb 256 (depth t) l)

fitted-accept : (room : ℕ) (s t : Term) → fitted room s ≡ accept t → (s ≡ t) × (over_limits s ≡ false) × (16 * size s ≤ room)
unfolding fitted
fitted-accept room s t h =
    let (h₁, k₁) = forbid-accept 20 (place_if (over_limits s) 0) _ t h in
    let (h₂, k₂) = forbid-accept 21 (place_if (ltb room (16 * size s)) 0) _ t k₁ in
    (same_accept k₂, place_if-none _ 0 h₁, ltb-false room (16 * size s) (place_if-none _ 0 h₂))

made : (b : List ℕ) (p o : ℕ) (e : Orc) → ScriptAccepted b p o e → over_limits (translation p o e) ≡ false → Output e p o (translation p o e)
made b p o e a h =
    let (l, d) = limits (translation p o e) h in
    record {
      within = a.within;
      partner = a.partner;
      operation = a.operation;
      choice = renaming (taken_by p o e) (introduced e);
      smallest = translation-renames p o e a.within.small;
      clauses = translation_clauses p o e a.within.small;
      small = l;
      shallow = d;
    }

-- An accepted script is that of an expression, and what is given is the expression's output, for which there is room.
pub accepted_output : (b : List ℕ) (p o room : ℕ) (t : Term) → AreBytes b → judge_orc b p o room ≡ accept t → (e : Orc) × (b ≡ script e) × Output e p o t × (16 * size t ≤ room)
unfolding judge_orc
accepted_output b p o room t k h =
    let (e, he, hf) = bind-accept (judge_script b p o) _ t h in
    let (q, l, r) = fitted-accept room (translation p o e) t hf in
    let a = judge-accepted b p o e k he in
    (e, a.is, subst (Output e p o) q (made b p o e a l), rw (← q) r)

-- And every output of an expression is given, where there is room for it.
pub output_accepted : (e : Orc) (p o room : ℕ) (t : Term) → Output e p o t → 16 * size t ≤ room → judge_orc (script e) p o room ≡ accept t
unfolding judge_orc fitted ◌>>=◌ ◌>>◌ forbid place_if
output_accepted e p o room t h r =
    rw (admissible_judge e p o h.within h.partner h.operation, ← output_translation h, within_limits t h.small h.shallow, le-ltb room (16 * size t) r)

-- An accepted script stands for one expression.
pub script_one : (b : List ℕ) (e f : Orc) → b ≡ script e → b ≡ script f → e ≡ f
script_one b e f h k = script_injective e f (sym h ∙ k)
