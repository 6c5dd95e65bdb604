-- Orc expressions without expression calls (source document 002; request 2026-03), and what is read off them. A variable or a value is an atom of cows.
use Rattle.std.specs.Prelude.{◌≡◌, Bool, true, ◌||◌, List, [], ◌∷◌, ◌++◌, ℕ, suc, ◌+◌, ◌≤◌, max, eqb}
use mathlib.Core.Option.{Option, none, some}
use Rattle.cows.specs.Basics.{found_with, one_if}
use Rattle.cows.specs.Terms.{value, variable, datum, bindable, optional}
use Rattle.cows.specs.Within.{Bound, nowhere}

-- No part: 0, and the site call S(w), by S's partner and operation and by w.
pub data Act : Type 0 where
  nothing : Act
  call : ℕ → ℕ → ℕ → Act

-- Two parts: f >x> g, sequential; f | g, symmetric; g where x :∈ f, asymmetric (its left part is g).
pub data Composition : Type 0 where
  sequential : ℕ → Composition
  symmetric : Composition
  asymmetric : ℕ → Composition

pub data Orc : Type 0 where
  act : Act → Orc
  composed : Composition → Orc → Orc → Orc

-- The request's limits.
abbrev pub max_script_records : ℕ
max_script_records = 512

abbrev pub max_nesting : ℕ
max_nesting = 64

-- the number of records; the depth, the root's being 1
unfoldable pub records_in : Orc → ℕ
records_in (act x) = 1
records_in (composed c f g) = suc (records_in f + records_in g)

unfoldable pub nesting : Orc → ℕ
nesting (act x) = 1
nesting (composed c f g) = suc (max (nesting f) (nesting g))

-- the variable that a composition binds
unfoldable pub bound : Composition → Option ℕ
bound (sequential x) = some x
bound symmetric = none
bound (asymmetric x) = some x

-- A variable's scope is the right part of its sequence or the left part of its "where". E holds of the variables whose scope is around.
unfoldable pub over_left : Composition → (ℕ → Bool) → ℕ → Bool
over_left (sequential x) E a = E a
over_left symmetric E a = E a
over_left (asymmetric x) E a = eqb a x || E a

unfoldable pub over_right : Composition → (ℕ → Bool) → ℕ → Bool
over_right (sequential x) E a = eqb a x || E a
over_right symmetric E a = E a
over_right (asymmetric x) E a = E a

-- the atoms that a call uses; the variables that an expression binds, in record order; every atom that occurs in it
unfoldable pub act_uses : Act → List ℕ
act_uses nothing = []
act_uses (call s q w) = s ∷ q ∷ w ∷ []

unfoldable pub bound_in : Orc → List ℕ
bound_in (act x) = []
bound_in (composed c f g) = optional (bound c) ++ (bound_in f ++ bound_in g)

unfoldable pub occurring : Orc → List ℕ
occurring (act x) = act_uses x
occurring (composed c f g) = optional (bound c) ++ (occurring f ++ occurring g)

-- What each kind holds.
abbrev pub RightAct : Act → Type 0
RightAct nothing = Unit {0}
RightAct (call s q w) = (value s ≡ true) × (value q ≡ true) × (datum w ≡ true)

abbrev pub RightComposition : Composition → Type 0
RightComposition (sequential x) = variable x ≡ true
RightComposition symmetric = Unit {0}
RightComposition (asymmetric x) = variable x ≡ true

abbrev pub RightOrc : Orc → Type 0
RightOrc (act x) = RightAct x
RightOrc (composed c f g) = RightComposition c × RightOrc f × RightOrc g

-- Every use of an atom of which K holds lies in the scope of a binding of it.
abbrev pub InScope : (ℕ → Bool) → (ℕ → Bool) → Orc → Type 0
InScope K E (act x) = Bound K E (act_uses x)
InScope K E (composed c f g) = InScope K (over_left c E) f × InScope K (over_right c E) g

-- how often a variable is bound
abbrev pub times_bound : ℕ → Orc → ℕ
times_bound a (act x) = 0
times_bound a (composed c f g) = one_if (found_with (eqb a) (bound c)) + times_bound a f + times_bound a g

-- An expression within the limits: right records, no variable unbound, none bound a second time, at most 512 records, depth 64.
pub record Admissible (e : Orc) : Type 0 where
  pub right : RightOrc e
  pub closed : InScope bindable nowhere e
  pub unique : (a : ℕ) → times_bound a e ≤ 1
  pub small : records_in e ≤ max_script_records
  pub shallow : nesting e ≤ max_nesting

-- (for computed checks) to unfold this is to unfold every definition of this file
unfoldable pub open_expressions : Unit {0}
unfolding records_in nesting bound over_left over_right act_uses bound_in occurring
open_expressions = tt
