-- The request's words on a list of kills as relations (2026-06): a live kill, its scope by the place of its delimitation, two that clash, and the first listed of which
-- something holds. Nothing is searched for and nothing refused.
use Rattle.std.specs.Prelude.{◌≡◌, ◌⊎◌, List, ◌∷◌, ◌++◌, ℕ, ◌+◌, ◌≤◌, ◌<◌, length}
use Rattle.cows.specs.Basics.{All}
use Rattle.cows.specs.Terms.{kill, delimitation, Term, leaf, under, size}
use Rattle.cows.specs.Places.{sub}
use Rattle.cows.specs.Allows.{Stands, StandsLive}
use Rattle.joint.specs.Joint.{max_kills}

-- 1 to 8 places
pub record RightNumber (ps : List ℕ) : Type 0 where
  pub some-kill : 1 ≤ length ps
  pub few : length ps ≤ max_kills

-- A live kill stands at place a; its scope, the delimitation of its label, stands at place p.
pub record LiveKill (t : Term) (a : ℕ) : Type 0 where
  pub label : ℕ
  pub kill : StandsLive t a (leaf (kill label))

pub record HasScope (t : Term) (a p : ℕ) : Type 0 where
  pub live : LiveKill t a
  pub body : Term
  pub scope : Stands t p (under (delimitation live.label) body)

-- the record at place q is the one at place p, or lies inside it
abbrev pub Covers : Term → ℕ → ℕ → Type 0
Covers t p q = (p ≤ q) × (q < p + size (sub t p))

-- The scope of one of the two lies inside the other's, or is the same.
pub record Clashing (t : Term) (a b : ℕ) : Type 0 where
  pub first : ℕ
  pub second : ℕ
  pub first_scope : HasScope t a first
  pub second_scope : HasScope t b second
  pub overlap : Covers t first second ⊎ Covers t second first

-- a, listed between those before and those behind, clashes with none of them
abbrev pub Alone : Term → (before : List ℕ) → ℕ → (behind : List ℕ) → Type 0
Alone t before a behind = All (λ b. Clashing t a b → ⊥) (before ++ behind)

-- the same of each of the first n places of a list, and of all
abbrev pub FirstAlone : Term → List ℕ → ℕ → Type 0
FirstAlone t ps n = (before behind : List ℕ) (a : ℕ) → ps ≡ before ++ (a ∷ behind) → length before < n → Alone t before a behind

abbrev pub AllAlone : Term → List ℕ → Type 0
AllAlone t ps = FirstAlone t ps (length ps)

-- 11 is due at a: it is the first of the list at which no live kill stands.
pub record FirstDead (t : Term) (ps : List ℕ) (a : ℕ) : Type 0 where
  pub before : List ℕ
  pub behind : List ℕ
  pub listed : ps ≡ before ++ (a ∷ behind)
  pub live_before : All (LiveKill t) before
  pub dead : LiveKill t a → ⊥

-- 26 is due at a: it is the first of the list that clashes with another.
pub record FirstClashing (t : Term) (ps : List ℕ) (a : ℕ) : Type 0 where
  pub before : List ℕ
  pub behind : List ℕ
  pub listed : ps ≡ before ++ (a ∷ behind)
  pub alone_before : FirstAlone t ps (length before)
  pub clashes : Alone t before a behind → ⊥
