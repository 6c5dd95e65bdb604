-- Which bytes are a well-formed table: refusals 1 to 7 in their order, each at its first place (01, Who can cause which refusal).
use Rattle.std.specs.Prelude.{Bool, false, not, ◌&&◌, ◌||◌, List, [], ◌∷◌, map, ℕ, zero, suc, ◌+◌, ◌%◌, ltb, eqb, length}
use mathlib.Core.Option.{Option, none, some}
use Rattle.cows.specs.Limits.{max_bytes, max_depth}
use Rattle.cows.specs.Basics.{any, member, found_with, found, place_if, first_from, Result, accept, ◌>>◌, forbid}
use Rattle.cows.specs.Terms.{Term, value, bindable, uses, binders, delimits, delimits_at, prefixed}
use Rattle.cows.specs.Kinds.{Node, kind, children_of, guard}
use Rattle.cows.specs.Places.{Way, Spot, sub, first, enclosed, frame_chooses}
use Rattle.cows.specs.Format.{right_record, read_node, records, decode}
use Rattle.cows.specs.Cut.{first_failing}

-- 1: zero bytes, over 32,768, or not a multiple of 16.
unfoldable pub wrong_length : List ℕ → Bool
wrong_length b = eqb (length b) 0 || ltb max_bytes (length b) || not (eqb (length b % 16) 0)

-- 2: the first record, of all that there are, that is not right.
abbrev pub first_wrong : ℕ → List (List ℕ) → Option ℕ
first_wrong n bs = first_failing right_record n bs

-- Records of any kind in prefix order, each with as many terms behind it as it wants: the place behind so many terms, read from place n on; none where the records run out.
unfoldable pub end_of : {A : Type 0} → (A → ℕ) → (terms n : ℕ) → List A → Option ℕ
end_of wants zero n [] = some n
end_of wants zero n (r ∷ rs) = some n
end_of wants (suc w) n [] = none
end_of wants (suc w) n (r ∷ rs) = end_of wants (wants r + w) (suc n) rs

-- 3: the term ends before the n records do (the first one over), or the records first (their number).
unfoldable pub wrong_end : ℕ → Option ℕ → Option ℕ
wrong_end n none = some n
wrong_end n (some e) = place_if (ltb e n) e

abbrev pub children : Node → ℕ
children r = children_of (kind r)

unfoldable pub misshapen : List Node → Option ℕ
misshapen ns = wrong_end (length ns) (end_of children 1 0 ns)

-- 4: depth over 256; the root has depth 1.
unfoldable pub too_deep : ℕ → Spot → Bool
too_deep n z = ltb max_depth (suc (length z.way))

-- 5: a choice's child that is no guard.
unfoldable pub in_choice : Way → Bool
in_choice [] = false
in_choice (f ∷ w) = frame_chooses f

unfoldable pub no_guard : ℕ → Spot → Bool
no_guard n z = in_choice z.way && not (guard z.here)

-- 6: a variable or label used outside every delimitation of it.
unfoldable pub unbound : ℕ → Spot → Bool
unbound n z = any (λ a. bindable a && not (enclosed a z.way)) (uses z.here)

-- 7: a second delimitation of an atom (an earlier record of the table t delimits it) ..
unfoldable pub delimited_before : Term → ℕ → ℕ → Bool
delimited_before t n d = found (first_from (λ m. delimits_at d (sub t m)) 0 n)

unfoldable pub again : Term → ℕ → Spot → Bool
again t n z = found_with (delimited_before t n) (prefixed delimits z.here)

-- .. or a value that t delimits, before or behind, used outside every delimitation of it.
unfoldable pub escaped : Term → ℕ → Spot → Bool
escaped t n z = any (λ v. (value v && member v (binders t)) && not (enclosed v z.way)) (uses z.here)

unfoldable pub clash : Term → ℕ → Spot → Bool
clash t n z = again t n z || escaped t n z

unfoldable pub judge_term : Term → Result Term
judge_term t = do
  forbid 4 (first too_deep t)
  forbid 5 (first no_guard t)
  forbid 6 (first unbound t)
  forbid 7 (first (clash t) t)
  accept t

-- The term that a well-formed table stands for, or the table's refusal.
unfoldable pub judge : List ℕ → Result Term
judge b = do
  forbid 1 (place_if (wrong_length b) 0)
  forbid 2 (first_wrong 0 (records b))
  forbid 3 (misshapen (map read_node (records b)))
  judge_term (decode (map read_node (records b)))

-- (for computed checks) to unfold this is to unfold every definition of this file
unfoldable pub open_tables : Unit {0}
unfolding wrong_length end_of wrong_end misshapen too_deep in_choice no_guard unbound delimited_before again escaped clash judge_term judge
open_tables = tt
