-- The whole translation is written (translating, specs/Writing): the pass may start at the first record with the first value and the first label, and what it leaves is
-- the translation.
use mathlib.Core.Path.{◌≡◌, sym, ap, subst, ◌∙◌}
use mathlib.Core.Bool.{Bool, true, false}
use mathlib.Core.List.{List, [], ◌∷◌, ◌++◌}
use Prim.Native.Nat.{ℕ, ◌+◌, ◌*◌, ◌≤◌}
use native.Mathlib.Omega.{arith}
use lib.Dec.{eqb}
use lib.ListN.{length, drop}
use borrow.Author.Tests.{eqb-true}
use Rattle.cows.specs.Basics.{any, member}
use Rattle.cows.specs.Terms.{value, variable, datum, label, optional}
use Rattle.cows.specs.Format.{encode}
use Rattle.cows.proofs.Basics.{never, clash, not_so, or_left, or_right, or_case, member_append}
use Rattle.cows.proofs.Sets.{in-values, in-variables, value-range, variable-range}
use Rattle.records.specs.Rewrites.{put}
use Rattle.orc.specs.Expressions.{nothing, call, sequential, symmetric, asymmetric, Orc, act, composed, records_in, bound, act_uses, occurring, RightOrc}
use Rattle.orc.specs.Translation.{taken_by, translation}
use Rattle.orc.specs.Clauses.{Translates}
use Rattle.orc.proofs.Format.{script_injective}
use Rattle.orc.proofs.Clauses.{one_translation}
use Rattle.scripts.specs.Standing.{ScriptOf}
use Rattle.scripts.proofs.Standing.{whole_at}
use Rattle.spares.specs.Spares.{total, Holding}
use Rattle.extents.specs.Extents.{out_size}
use Rattle.translating.specs.Writing.{Writable, Wrote, Writes}
use Rattle.translating.specs.declared.Pass.{Pass}
use Rattle.translating.proofs.Steps.{pass}
use Rattle.translating.proofs.Asks.{writable}
use Rattle.translating.proofs.Supply.{taken_start, supplied_chosen}
use Rattle.translator.specs.Judging.{KnownScript}

-- the marks from place 1 on are no more than all
total_rest : (used : List Bool) → total (drop 1 used) ≤ total used
unfolding total
total_rest [] = omega arith
total_rest (x ∷ xs) = omega arith

pub start_writable : {s out : List ℕ} {used : List Bool} (p o : ℕ) (e : Orc) → ScriptOf s e → records_in e ≤ 512 → 16 * out_size e ≤ length out → Holding used (taken_by p o e) → total used ≤ 2 + 3 * records_in e → Writable s used (pass 0 0 1 49152) out
start_writable {used = used} p o e h few room holds l = writable e (record {
  stands = whole_at e h.is;
  room = omega arith;
  start = omega arith;
  values = omega (arith, total_rest used);
  first = omega arith;
  labels = omega arith;
})

-- A script's atoms are no labels.
datum-label : (a : ℕ) → datum a ≡ true → label a ≡ false
unfolding datum
datum-label a h = or_case (label a ≡ false) (value a) (variable a) h
    (λ e. let (l, u) = value-range a e in (in-values a l u).2) (λ e. let (l, u) = variable-range a e in (in-variables a l u).2)

value-label : (a : ℕ) → value a ≡ true → label a ≡ false
unfolding datum
value-label a h = datum-label a (or_left (value a) (variable a) h)

abbrev Unlabelled : List ℕ → Type 0
Unlabelled l = (a : ℕ) → member a l ≡ true → label a ≡ false

no_member : Unlabelled []
unfolding member any
no_member a m = never m

one_more : (b : ℕ) (l : List ℕ) → label b ≡ false → Unlabelled l → Unlabelled (b ∷ l)
unfolding member any
one_more b l h k a m = or_case (label a ≡ false) (eqb a b) (any (eqb a) l) m (λ e. ap label (eqb-true a b e) ∙ h) (k a)

both-parts : (l m : List ℕ) → Unlabelled l → Unlabelled m → Unlabelled (l ++ m)
both-parts l m h k a q = or_case (label a ≡ false) (member a l) (member a m) (sym (member_append a l m) ∙ q) (h a) (k a)

variable-label : (x : ℕ) → variable x ≡ true → label x ≡ false
unfolding datum
variable-label x h = datum-label x (or_right (value x) (variable x) h)

no_labels : (e : Orc) → RightOrc e → Unlabelled (occurring e)
unfolding occurring act_uses optional bound
no_labels (act nothing) h = no_member
no_labels (act (call s q w)) h = one_more s _ (value-label s h.0) (one_more q _ (value-label q h.1) (one_more w _ (datum-label w h.2) no_member))
no_labels (composed (sequential x) f g) h = one_more x _ (variable-label x h.0) (both-parts (occurring f) (occurring g) (no_labels f h.1) (no_labels g h.2))
no_labels (composed symmetric f g) h = both-parts (occurring f) (occurring g) (no_labels f h.1) (no_labels g h.2)
no_labels (composed (asymmetric x) f g) h = one_more x _ (variable-label x h.0) (both-parts (occurring f) (occurring g) (no_labels f h.1) (no_labels g h.2))

taken_unlabelled : (p o : ℕ) (e : Orc) → RightOrc e → value p ≡ true → value o ≡ true → (a : ℕ) → label a ≡ true → member a (taken_by p o e) ≡ false
taken_unlabelled p o e r x y a h = not_so (λ m. clash {A = ⊥} h (one_more p _ (value-label p x) (one_more o _ (value-label o y) (no_labels e r)) a m))

-- What the pass wrote from there is the translation.
module _ {s out after : List ℕ} {used : List Bool} {p o : ℕ} {r : Pass} (e : Orc) (h : ScriptOf s e) (few : records_in e ≤ 512) (x : value p ≡ true) (y : value o ≡ true) (holds : Holding used (taken_by p o e)) where
  term_is : (w : Wrote used e (pass 0 0 1 49152) p o out after r) → w.term ≡ translation p o e
  term_is w =
      let c = supplied_chosen used (taken_by p o e) holds (taken_unlabelled p o e h.right x y) w.supplied (omega (arith, w.labels)) (taken_by p o e) (taken_start (taken_by p o e)) in
      one_translation p o e few w.term c.choice c.smallest (subst (Translates e p o w.term) (sym c.are) w.clauses)

  pub whole_written : Writes s used (pass 0 0 1 49152) p o out after r → after ≡ put out 0 (encode (translation p o e))
  whole_written w = let z = w.done e (whole_at e h.is) in z.bytes ∙ ap (λ t. put out 0 (encode t)) (term_is z)

-- the expression of a known script is the only one
pub known_few : {s : List ℕ} {p o : ℕ} → KnownScript s p o → (e : Orc) → ScriptOf s e → records_in e ≤ 512
known_few k e h = subst (λ f. records_in f ≤ 512) (script_injective k.expression e (sym k.stands.is ∙ h.is)) k.few
