-- 002's clauses once more, as a relation: any atoms of the right sets for those that a clause introduces; and what it is that they are fresh.
use Rattle.std.specs.Prelude.{◌≡◌, true, false, List, [], ◌∷◌, ◌++◌, ℕ, ◌≤◌}
use Rattle.cows.specs.Limits.{max_records, max_depth}
use Rattle.cows.specs.Basics.{member}
use Rattle.cows.specs.Terms.{nil, invoke, parallel, Term, leaf, both, value, label, size, depth}
use Rattle.cows.specs.Moves.{Substitution}
use Rattle.cows.specs.Allows.{Renames}
use Rattle.orc.specs.Expressions.{nothing, call, sequential, symmetric, asymmetric, Orc, act, composed, Admissible}
use Rattle.orc.specs.Translation.{sequenced, pruned, introduced, seconds, taken_by}

-- Translates e p o t ns: by the clauses, in 002's order, t is the term of e with the result endpoint p·o; ns are the atoms that the clauses introduce, in the order of
-- t's records, a partner before its operation.
pub data Translates : Orc → (p o : ℕ) → Term → List ℕ → Type 0 where
  by_nothing : {p o : ℕ} → Translates (act nothing) p o (leaf nil) []
  by_symmetric : {p o : ℕ} {f g : Orc} {s t : Term} {ms ns : List ℕ} → Translates f p o s ms → Translates g p o t ns → Translates (composed symmetric f g) p o (both parallel s t) (ms ++ ns)
  by_call : {p o s q w : ℕ} → Translates (act (call s q w)) p o (leaf (invoke s q (w ∷ p ∷ o ∷ []))) []
  by_sequential : {p o q r x : ℕ} {f g : Orc} {s t : Term} {ms ns : List ℕ} → value q ≡ true → value r ≡ true → Translates f q r s ms → Translates g p o t ns → Translates (composed (sequential x) f g) p o (sequenced q r x s t) (q ∷ r ∷ (ms ++ ns))
  by_asymmetric : {p o q r x k : ℕ} {f g : Orc} {s t : Term} {ms ns : List ℕ} → value q ≡ true → value r ≡ true → label k ≡ true → Translates g p o s ms → Translates f q r t ns → Translates (composed (asymmetric x) g f) p o (pruned q r x k s t) (q ∷ r ∷ (ms ++ (k ∷ ns)))

-- Fresh atoms: none is taken, and no two are the same.
abbrev pub Fresh : (taken : List ℕ) → List ℕ → Type 0
Fresh taken [] = Unit {0}
Fresh taken (n ∷ ns) = (member n taken ≡ false) × Fresh (n ∷ taken) ns

-- The table that an expression is to have: the clauses' term, with the smallest new atoms in record order (`Renames` is the rule of unfolding's new atoms), within the limits.
pub record Output (e : Orc) (p o : ℕ) (t : Term) : Type 0 where
  pub within : Admissible e
  pub partner : value p ≡ true
  pub operation : value o ≡ true
  pub choice : Substitution
  pub smallest : Renames (taken_by p o e) (introduced e) choice
  pub clauses : Translates e p o t (seconds choice)
  pub small : size t ≤ max_records
  pub shallow : depth t ≤ max_depth
