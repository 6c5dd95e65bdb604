-- What the pass says that reads the expression at a place of a script and writes its translation at a byte of an output.
use Rattle.std.specs.Prelude.{◌≡◌, Bool, List, [], ◌∷◌, ℕ, ◌+◌, ◌*◌, ◌<◌, ◌≤◌, length, drop}
use Rattle.cows.specs.Limits.{first_label, no_atom}
use Rattle.cows.specs.Terms.{Term}
use Rattle.cows.specs.Format.{encode}
use Rattle.records.specs.Rewrites.{put}
use Rattle.orc.specs.Expressions.{Orc, records_in}
use Rattle.orc.specs.Translation.{introduced}
use Rattle.orc.specs.Clauses.{Translates}
use Rattle.scripts.specs.Standing.{ScriptAt}
use Rattle.spares.specs.Spares.{total, NextSpare}
use Rattle.extents.specs.Extents.{out_size}
use Rattle.translating.specs.declared.Pass.{Pass}

-- The new atoms of the sets ds, taken in their order from the value v and the label k on, are ns: a value is the next without a mark, a label the next; v' and k' are the
-- first of each that are then still to be had.
pub data Supplied (used : List Bool) : (v k : ℕ) → List ℕ → List ℕ → (v' k' : ℕ) → Type 0 where
  none_left : {v k : ℕ} → Supplied used v k [] [] v k
  a_value : {v k n v' k' : ℕ} {ds ns : List ℕ} → NextSpare used v n → Supplied used (n + 1) k ds ns v' k' → Supplied used v k (1 ∷ ds) (n ∷ ns) v' k'
  a_label : {v k v' k' : ℕ} {ds ns : List ℕ} → Supplied used v (k + 1) ds ns v' k' → Supplied used v k (first_label ∷ ds) (k ∷ ns) v' k'

-- the marks from v on, and v: what is passed and taken in a supply of m values is at most m more
abbrev pub spent : List Bool → ℕ → ℕ
spent used v = v + total (drop v used)

-- What the pass asks: an expression stands where it is, there is room for its translation, and there are enough values and labels. `inside` and `space` follow; they
-- are here for `omega`.
pub record Writable (s : List ℕ) (used : List Bool) (at : Pass) (out : List ℕ) : Type 0 where
  pub expression : Orc
  pub stands : ScriptAt s at.place expression
  pub room : at.byte + 16 * out_size expression ≤ length out
  pub start : 1 ≤ at.value
  pub values : spent used at.value + 2 * records_in expression < 4096
  pub first : first_label ≤ at.label
  pub labels : at.label + records_in expression < no_atom
  pub inside : 8 * at.place + 8 ≤ length s
  pub space : at.byte + 16 ≤ length out

-- What it does to the expression e: the clauses' term with the atoms that are supplied is written, and the pass goes on behind both.
pub record Wrote (used : List Bool) (e : Orc) (at : Pass) (p o : ℕ) (out after : List ℕ) (r : Pass) : Type 0 where
  pub next : r.place ≡ at.place + records_in e
  pub then : r.byte ≡ at.byte + 16 * out_size e
  pub values : spent used r.value ≤ spent used at.value + 2 * records_in e
  pub labels : (at.label ≤ r.label) × (r.label ≤ at.label + records_in e)
  pub start : at.value ≤ r.value
  pub news : List ℕ
  pub supplied : Supplied used at.value at.label (introduced e) news r.value r.label
  pub term : Term
  pub clauses : Translates e p o term news
  pub bytes : after ≡ put out at.byte (encode term)

-- What the pass gives: this of whichever expression stands there.
pub record Writes (s : List ℕ) (used : List Bool) (at : Pass) (p o : ℕ) (out after : List ℕ) (r : Pass) : Type 0 where
  pub past : at.place < r.place
  pub done : (e : Orc) → ScriptAt s at.place e → Wrote used e at p o out after r
