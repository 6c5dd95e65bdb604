-- The verdict on a table, and document 01's number and place for each of its cases.
use Rattle.std.specs.Prelude.{◌≡◌, List, map, ℕ, ◌%◌, ◌≤◌, ◌<◌, length}
use mathlib.Core.Option.{none}
use Rattle.cows.specs.Limits.{max_bytes}
use Rattle.cows.specs.Basics.{Result, refuse, accept, ◌>>◌, forbid}
use Rattle.cows.specs.Terms.{Term, size}
use Rattle.cows.specs.Places.{first}
use Rattle.cows.specs.Format.{read_node, records, decode}
use Rattle.cows.specs.Tables.{first_wrong, misshapen, unbound, clash, judge_term, judge}
use Rattle.records.specs.Ends.{EndsFrom}
use Rattle.std.specs.Prelude as rust
use Rattle.std.specs.Prelude.{Ok, Err}
use Rattle.scopes.specs.declared.ScopeFault.{ScopeFault}
use Rattle.scopes.specs.declared.ScopeFault.TheVariants.{Open as OpenUse, Clash as Clashes}
use Rattle.tables.specs.declared.Fault.{Fault}
use Rattle.tables.specs.declared.Fault.TheVariants.{Length, Record, Shape, Deep, Choice, Open, Clash}
use Rattle.tables.specs.declared.Reply.{Reply}

-- a refusal: its number, its place and no records
abbrev pub refusal : ℕ → ℕ → Reply
refusal n p = record { answer = n; place = p; records = 0 }

-- what is accepted: 0, place 0 and its records
abbrev pub accepted : ℕ → Reply
accepted n = record { answer = 0; place = 0; records = n }

abbrev pub scope_fault : ScopeFault → Fault
scope_fault (OpenUse p) = Open p
scope_fault (Clashes p) = Clash p

abbrev pub verdict_reply : rust.Result ℕ Fault → Reply
verdict_reply (Ok n) = accepted n
verdict_reply (Err Length) = refusal 1 0
verdict_reply (Err (Record p)) = refusal 2 p
verdict_reply (Err (Shape p)) = refusal 3 p
verdict_reply (Err (Deep p)) = refusal 4 p
verdict_reply (Err (Choice p)) = refusal 5 p
verdict_reply (Err (Open p)) = refusal 6 p
verdict_reply (Err (Clash p)) = refusal 7 p

-- the reply to a judgement of a table: 0, 0 and its records, or the refusal, its place and 0
abbrev pub check_reply : Result Term → Reply
check_reply (refuse n p) = refusal n p
check_reply (accept t) = accepted (size t)

-- What the check of a table gives: the reply, and the ends of the terms of an accepted table.
pub record Checked (s ends : List ℕ) (r : Reply) : Type 0 where
  pub reply : r ≡ check_reply (judge s)
  pub end : r.answer ≡ 0 → EndsFrom s ends 0

-- the rules on scopes, of a term whose depth and choices are in order
unfoldable pub judge_scopes : Term → Result Term
judge_scopes t = do
  forbid 6 (first unbound t)
  forbid 7 (first (clash t) t)
  accept t

-- shape and all that comes behind it, of records that are right
unfoldable pub judge_shape : List ℕ → Result Term
judge_shape b = do
  forbid 3 (misshapen (map read_node (records b)))
  judge_term (decode (map read_node (records b)))

-- the bytes are whole records, some and not too many: refusal 1 does not apply
pub record WholeRecords (b : List ℕ) : Type 0 where
  pub some : 0 < length b
  pub short : length b ≤ max_bytes
  pub whole : length b % 16 ≡ 0

-- each record is right besides: nor does refusal 2
pub record RightRecords (b : List ℕ) : Type 0 where
  pub bytes : WholeRecords b
  pub right : first_wrong 0 (records b) ≡ none
