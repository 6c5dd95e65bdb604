-- The script of an expression, 8 bytes a record, little-endian, in prefix order, and refusals 30 to 32 in their order, each at its first place (2026-03).
use Rattle.std.specs.Prelude.{Bool, not, ◌&&◌, ◌||◌, ℕ, suc, ◌+◌, ◌*◌, ◌%◌, ltb, eqb, length, get_or, replicate}
use mathlib.Core.List.{List, [], ◌∷◌, ◌++◌, map, flat_map}
use mathlib.Core.Option.{Option, none}
use Rattle.cows.specs.Basics.{any, member, found_with, place_if, or_else, Result, accept, ◌>>◌, forbid}
use Rattle.cows.specs.Terms.{value, variable, datum, bindable, optional}
use Rattle.cows.specs.Kinds.{unused}
use Rattle.cows.specs.Cut.{cut, first_failing}
use Rattle.cows.specs.Format.{bytes2, byte, word, build}
use Rattle.cows.specs.Tables.{end_of, wrong_end}
use Rattle.cows.specs.Within.{nowhere}
use Rattle.orc.specs.Expressions.{Act, nothing, call, Composition, sequential, symmetric, asymmetric, Orc, act, composed, max_script_records, max_nesting, records_in, bound, over_left, over_right, act_uses, bound_in}

-- One record without its parts; how many it has; the records of an expression: a record, then its parts, left first.
pub data OrcNode : Type 0 where
  single : Act → OrcNode
  joining : Composition → OrcNode

unfoldable pub parts : OrcNode → ℕ
parts (single x) = 0
parts (joining c) = 2

unfoldable pub orc_nodes : Orc → List OrcNode
orc_nodes (act x) = single x ∷ []
orc_nodes (composed c f g) = joining c ∷ (orc_nodes f ++ orc_nodes g)

-- Byte 0 kind, byte 1 zero, then the atom (the parameter, or the variable bound) and a site's partner and operation, 16 bits each.
unfoldable pub layout8 : ℕ → ℕ → ℕ → ℕ → List ℕ
layout8 kind a s q = kind ∷ 0 ∷ bytes2 a ++ bytes2 s ++ bytes2 q

-- The kinds, written: 0 nothing, 1 site call, 2 sequence, 3 parallel, 4 where; every field that a kind does not use is 0.
unfoldable pub record8 : OrcNode → List ℕ
record8 (single nothing) = layout8 0 0 0 0
record8 (single (call s q w)) = layout8 1 w s q
record8 (joining (sequential x)) = layout8 2 x 0 0
record8 (joining symmetric) = layout8 3 0 0 0
record8 (joining (asymmetric x)) = layout8 4 x 0 0

unfoldable pub script : Orc → List ℕ
script e = flat_map record8 (orc_nodes e)

-- The kinds, tested: what the atom and the endpoint may be.
pub record OrcRow : Type 0 where
  pub atom : ℕ → Bool
  pub partner : ℕ → Bool
  pub operation : ℕ → Bool

abbrev pub orc_row : (atom partner operation : ℕ → Bool) → OrcRow
orc_row a s q = record { atom = a; partner = s; operation = q }

unfoldable pub orc_kinds : List OrcRow
orc_kinds =
    orc_row unused unused unused  -- 0 nothing
    ∷ orc_row datum value value  -- 1 site call
    ∷ orc_row variable unused unused  -- 2 sequence
    ∷ orc_row unused unused unused  -- 3 parallel
    ∷ orc_row variable unused unused  -- 4 where
    ∷ []

unfoldable pub right_row : OrcRow → List ℕ → Bool
right_row r b = r.atom (word b 2) && r.partner (word b 4) && r.operation (word b 6)

unfoldable pub right_record8 : List ℕ → Bool
right_record8 b = ltb (byte b 0) (length orc_kinds) && unused (byte b 1) && right_row (get_or orc_kinds (byte b 0) (orc_row unused unused unused)) b

-- The kinds, read (an unknown kind reads as nothing, and is no right record).
unfoldable pub read_orc_node : List ℕ → OrcNode
read_orc_node b =
    get_or
    (single nothing
    ∷ single (call (word b 4) (word b 6) (word b 2))
    ∷ joining (sequential (word b 2))
    ∷ joining symmetric
    ∷ joining (asymmetric (word b 2))
    ∷ [])
    (byte b 0) (single nothing)

-- a script cut into its records, and read
abbrev pub nodes_of : List ℕ → List OrcNode
nodes_of b = map read_orc_node (cut 8 b)

-- Reading from the last record back: each record takes its parts off the front of the expressions read so far.
unfoldable pub attach : OrcNode → List Orc → List Orc
attach (single x) es = act x ∷ es
attach (joining c) [] = []
attach (joining c) (f ∷ []) = []
attach (joining c) (f ∷ g ∷ es) = composed c f g ∷ es

unfoldable pub expression : List OrcNode → Orc
expression ns = get_or (build attach ns) 0 (act nothing)

-- 30: zero bytes, over 512 records, or not a multiple of 8; or a result endpoint p·o that is no pair of values; or else a malformed record.
unfoldable pub wrong_script : List ℕ → Bool
wrong_script b = eqb (length b) 0 || ltb (8 * max_script_records) (length b) || not (eqb (length b % 8) 0)

unfoldable pub wrong_endpoint : ℕ → ℕ → Bool
wrong_endpoint p o = not (value p && value o)

-- 31: the lowest place of a wrong depth (as in 4) and a wrong shape (as in 3). Expressions of the depths ds are still to come at record n; a record behind the end
-- has no depth, so one that is too deep comes before the place of a wrong shape.
unfoldable pub first_deep : List ℕ → ℕ → List OrcNode → Option ℕ
first_deep [] n [] = none
first_deep [] n (r ∷ rs) = none
first_deep (d ∷ ds) n [] = none
first_deep (d ∷ ds) n (r ∷ rs) = or_else (place_if (ltb max_nesting d) n) (first_deep (replicate (parts r) (suc d) ++ ds) (suc n) rs)

unfoldable pub misplaced : List OrcNode → Option ℕ
misplaced ns = or_else (first_deep (1 ∷ []) 0 ns) (wrong_end (length ns) (end_of parts 1 0 ns))

-- 32: the first record that uses a variable outside its scope (E holds of those whose scope it is in) or binds one that an earlier record binds (`seen`).
unfoldable pub out_of_scope : (ℕ → Bool) → Act → Bool
out_of_scope E x = any (λ a. bindable a && not (E a)) (act_uses x)

unfoldable pub misbound : (ℕ → Bool) → List ℕ → ℕ → Orc → Option ℕ
misbound E seen n (act x) = place_if (out_of_scope E x) n
misbound E seen n (composed c f g) =
    or_else (place_if (found_with (λ x. member x seen) (bound c)) n)
    (or_else (misbound (over_left c E) (optional (bound c) ++ seen) (suc n) f)
    (misbound (over_right c E) (bound_in f ++ (optional (bound c) ++ seen)) (suc n + records_in f) g))

-- The expression that a script stands for, or the refusal; p·o is the result endpoint.
unfoldable pub judge_script : List ℕ → ℕ → ℕ → Result Orc
judge_script b p o = do
  forbid 30 (place_if (wrong_script b || wrong_endpoint p o) 0)
  forbid 30 (first_failing right_record8 0 (cut 8 b))
  forbid 31 (misplaced (nodes_of b))
  forbid 32 (misbound nowhere [] 0 (expression (nodes_of b)))
  accept (expression (nodes_of b))

-- (for computed checks) to unfold this is to unfold every definition of this file
unfoldable pub open_scripts : Unit {0}
unfolding parts orc_nodes layout8 record8 script orc_kinds right_row right_record8 read_orc_node attach expression wrong_script wrong_endpoint first_deep misplaced out_of_scope misbound judge_script
open_scripts = tt
