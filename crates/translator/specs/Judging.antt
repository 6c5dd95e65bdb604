-- What the translation of any bytes gives, and what is judged at each of its steps.
use Rattle.std.specs.Prelude.{◌≡◌, ◌≢◌, true, List, [], ◌++◌, ℕ, ◌*◌, ◌%◌, ◌≤◌, length, drop}
use mathlib.Core.Option.{none}
use Rattle.cows.specs.Basics.{Result, ◌>>◌, forbid}
use Rattle.cows.specs.Terms.{Term, value, size}
use Rattle.cows.specs.Cut.{cut, first_failing}
use Rattle.cows.specs.Format.{encode}
use Rattle.cows.specs.Within.{Within, nowhere}
use Rattle.cows.specs.Step.{fitted}
use Rattle.tables.specs.declared.Reply.{Reply}
use Rattle.stepper.specs.Replies.{reply_of}
use Rattle.orc.specs.Expressions.{Orc, max_script_records, records_in}
use Rattle.orc.specs.Scripts.{script, right_record8, nodes_of, expression, misplaced, misbound}
use Rattle.orc.specs.Translation.{translation, orc_reply, orc_output}
use Rattle.orc.specs.Clauses.{Output}
use Rattle.scripts.specs.Standing.{ScriptOf}

-- The reply and every byte of the output are those of the definition.
pub record Translated (b : List ℕ) (p o : ℕ) (out after : List ℕ) (r : Reply) : Type 0 where
  pub replies : r ≡ reply_of (orc_reply b p o out)
  pub output : after ≡ orc_output b p o out

-- The request's claims. ScriptAccepted, the script is that of one expression, and the output begins with the table of the clauses' term, well formed, with the smallest new
-- atoms in record order; the bytes behind it are as they were. Refused, there is no record, and no byte has changed.
pub record Given (b : List ℕ) (p o : ℕ) (out after : List ℕ) (r : Reply) : Type 0 where
  pub expression : Orc
  pub is : b ≡ script expression
  pub only : (f : Orc) → b ≡ script f → f ≡ expression
  pub term : Term
  pub clauses : Output expression p o term
  pub within : Within term
  pub records : r.records ≡ size term
  pub bytes : after ≡ encode term ++ drop (16 * size term) out

pub record OrcClaims (b : List ℕ) (p o : ℕ) (out after : List ℕ) (r : Reply) : Type 0 where
  pub accepted : r.answer ≡ 0 → Given b p o out after r
  pub refused : r.answer ≢ 0 → (r.records ≡ 0) × (after ≡ out)

-- 20 and 21, of an expression with the result endpoint p·o; 32 before them; 31 before those, of right records
abbrev pub judge_output : Orc → (p o room : ℕ) → Result Term
judge_output e p o room = fitted room (translation p o e)

unfoldable pub judge_bindings : Orc → (p o room : ℕ) → Result Term
judge_bindings e p o room = do
  forbid 32 (misbound nowhere [] 0 e)
  judge_output e p o room

unfoldable pub judge_nesting : List ℕ → (p o room : ℕ) → Result Term
judge_nesting b p o room = do
  forbid 31 (misplaced (nodes_of b))
  judge_bindings (expression (nodes_of b)) p o room

-- the bytes are whole records, not too many, and each is right, and the result endpoint is a pair of values: 30 does not apply
pub record RightScript (b : List ℕ) (p o : ℕ) : Type 0 where
  pub short : length b ≤ 8 * max_script_records
  pub whole : length b % 8 ≡ 0
  pub right : first_failing right_record8 0 (cut 8 b) ≡ none
  pub partner : value p ≡ true
  pub operation : value o ≡ true

-- the bytes are the script of an expression of at most 512 records, and the result endpoint is a pair of values
pub record KnownScript (b : List ℕ) (p o : ℕ) : Type 0 where
  pub expression : Orc
  pub stands : ScriptOf b expression
  pub few : records_in expression ≤ max_script_records
  pub partner : value p ≡ true
  pub operation : value o ≡ true
