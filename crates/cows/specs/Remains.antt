-- What a whole meeting leaves, record by record (01, Moves): the invoke becomes nil; the receive, with the whole choice around it, becomes its continuation;
-- each bound variable is replaced, and its delimitation goes. The rule itself is in specs/Allows, by contexts; theorem meeting_records has the two agree.
use Rattle.std.specs.Prelude.{◌≡◌, ◌≢◌, true, false, List, [], ◌∷◌, ◌++◌, map, ℕ, ◌+◌, ◌≤◌, ◌<◌}
use Rattle.cows.specs.Basics.{member}
use Rattle.cows.specs.Terms.{nil, delimitation, Term, size}
use Rattle.cows.specs.Places.{Way, way_to, sub}
use Rattle.cows.specs.Kinds.{Node, basic, prefix, root}
use Rattle.cows.specs.Proposed.{Substitution}
use Rattle.cows.specs.Allows.{Choice, Rewritten, InOrder}

-- the whole choice around the guard at place a begins at place c (at a itself, if there is none)
pub record Begins (t : Term) (a c : ℕ) : Type 0 where
  pub placed : c < size t
  pub inner : Way
  pub way : way_to t a ≡ inner ++ way_to t c
  pub choice : Choice inner (way_to t c)

-- place n lies in the term at place c; it lies below the record at place a
abbrev pub InTerm : Term → ℕ → ℕ → Type 0
InTerm t c n = (c ≤ n) × (n < c + size (sub t c))

abbrev pub InBody : Term → ℕ → ℕ → Type 0
InBody t a n = (a < n) × (n < a + size (sub t a))

-- the variables that a substitution binds
abbrev pub keys : Substitution → List ℕ
keys σ = map (λ (p : ℕ × ℕ). p.0) σ

-- A record when they take their values: the delimitation of one of them goes; every other record stays, with every atom replaced.
pub data BoundRecord (σ : Substitution) : Node → List Node → Type 0 where
  binder_goes : {x : ℕ} → member x (keys σ) ≡ true → BoundRecord σ (prefix (delimitation x)) []
  is_replaced : {x y : Node} → ((d : ℕ) → x ≡ prefix (delimitation d) → member d (keys σ) ≡ false) → Rewritten σ x y → BoundRecord σ x (y ∷ [])

-- Of the invoke at b there is nil; of the choice at c, nothing but the continuation of the receive at a; everything else stays, bound.
pub data Remains (t : Term) (a b c : ℕ) (σ : Substitution) : ℕ → List Node → Type 0 where
  of_invoke : Remains t a b c σ b (basic nil ∷ [])
  of_choice : {n : ℕ} → n ≢ b → InTerm t c n → (InBody t a n → ⊥) → Remains t a b c σ n []
  of_continuation : {n : ℕ} {l : List Node} → n ≢ b → InBody t a n → BoundRecord σ (root (sub t n)) l → Remains t a b c σ n l
  of_others : {n : ℕ} {l : List Node} → n ≢ b → (InTerm t c n → ⊥) → BoundRecord σ (root (sub t n)) l → Remains t a b c σ n l

-- the records that a meeting of the receive at a and the invoke at b leaves
pub record MeetingLeaves (t : Term) (a b : ℕ) (σ : Substitution) (s : Term) : Type 0 where
  pub from : ℕ
  pub begins : Begins t a from
  pub records : InOrder t (Remains t a b from σ) s
