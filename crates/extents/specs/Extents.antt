-- The size and the depth of a translation, read off the expression: the new atoms and the endpoint play no part.
use Rattle.std.specs.Prelude.{◌≡◌, cond, List, ℕ, ◌+◌, ◌*◌, ◌<◌, ◌≤◌, max, eqb, length}
use Rattle.orc.specs.Expressions.{Composition, sequential, symmetric, asymmetric, Orc, act, composed, max_script_records, records_in}
use Rattle.scripts.specs.Standing.{ScriptAt}
use Rattle.extents.specs.declared.Extent.{Extent}

-- the number of a composition's kind
abbrev pub composition_kind : Composition → ℕ
composition_kind (sequential x) = 2
composition_kind symmetric = 3
composition_kind (asymmetric x) = 4

-- the records that the clause of a composition, by its kind, adds to those of its parts; the depth of its term by those of its parts
abbrev pub added_by : ℕ → ℕ
added_by k = cond (eqb k 3) 1 (cond (eqb k 2) 6 8)

abbrev pub deepened_by : (k left right : ℕ) → ℕ
deepened_by k m n = cond (eqb k 3) (1 + max m n) (cond (eqb k 2) (max (3 + m) (6 + n)) (max (4 + m) (max (6 + n) 8)))

unfoldable pub out_size : Orc → ℕ
out_size (act x) = 1
out_size (composed c f g) = added_by (composition_kind c) + out_size f + out_size g

unfoldable pub out_depth : Orc → ℕ
out_depth (act x) = 1
out_depth (composed c f g) = deepened_by (composition_kind c) (out_depth f) (out_depth g)

-- What measuring asks: an expression of at most 512 records stands at place n. `inside` follows; it is here for `omega`.
pub record Measurable (s : List ℕ) (n : ℕ) : Type 0 where
  pub expression : Orc
  pub stands : ScriptAt s n expression
  pub few : records_in expression ≤ max_script_records
  pub inside : 8 * n + 8 ≤ length s

-- What measuring gives: whichever expression stands at place n, the place behind it and its extent.
pub record Measured (s : List ℕ) (n : ℕ) (r : Extent) : Type 0 where
  pub past : n < r.end
  pub is : (e : Orc) → ScriptAt s n e → (r.end ≡ n + records_in e) × (r.records ≡ out_size e) × (r.depth ≡ out_depth e)
