-- A term within the limits: every rule of document 01's section Records, said of the term itself, with no word of bytes or of judging.
use Rattle.std.specs.Prelude.{◌≡◌, Bool, true, false, ◌&&◌, ◌||◌, List, ℕ, ◌+◌, ◌≤◌, ◌<◌, length}
use Rattle.cows.specs.Limits.{max_records, max_depth, max_slots, no_interval}
use Rattle.cows.specs.Basics.{every, member, All, one_if}
use Rattle.cows.specs.Terms.{Basic, nil, kill, invoke, Prefix, receive, wait, protection, delimitation, replication, Join, choice, parallel, Term, leaf, under, both, value, label, datum, atom, bindable, size, depth, delimits_atom, uses_basic, uses_prefix, binders}
use Rattle.cows.specs.Kinds.{distinct, guard}

-- The table of kinds: what each uses. A tuple is at most four values and variables.
abbrev pub RightTuple : List ℕ → Type 0
RightTuple ws = (length ws ≤ max_slots) × (every datum ws ≡ true)

abbrev pub RightBasic : Basic → Type 0
RightBasic nil = Unit {0}
RightBasic (kill k) = label k ≡ true
RightBasic (invoke p o ws) = (datum p ≡ true) × (datum o ≡ true) × RightTuple ws

abbrev pub RightPrefix : Prefix → Type 0
RightPrefix (receive p o ws) = (value p ≡ true) × (value o ≡ true) × RightTuple ws × (distinct ws ≡ true)
RightPrefix (wait n) = n < no_interval
RightPrefix protection = Unit {0}
RightPrefix (delimitation d) = atom d ≡ true
RightPrefix replication = Unit {0}

abbrev pub Right : Term → Type 0
Right (leaf x) = RightBasic x
Right (under u t) = RightPrefix u × Right t
Right (both j s t) = Right s × Right t

-- The children of a choice are guards.
abbrev pub Guards : Join → Term → Term → Type 0
Guards choice s t = (guard s ≡ true) × (guard t ≡ true)
Guards parallel s t = Unit {0}

abbrev pub Guarded : Term → Type 0
Guarded (leaf x) = Unit {0}
Guarded (under u t) = Guarded t
Guarded (both j s t) = Guards j s t × Guarded s × Guarded t

-- Every use of an atom of which K holds lies inside a delimitation of it; E holds of the atoms delimited around the term.
abbrev pub Bound : (ℕ → Bool) → (ℕ → Bool) → List ℕ → Type 0
Bound K E l = All (λ a. K a ≡ true → E a ≡ true) l

abbrev pub Scoped : (ℕ → Bool) → (ℕ → Bool) → Term → Type 0
Scoped K E (leaf x) = Bound K E (uses_basic x)
Scoped K E (under u t) = Bound K E (uses_prefix u) × Scoped K (λ a. delimits_atom a u || E a) t
Scoped K E (both j s t) = Scoped K E s × Scoped K E t

abbrev pub nowhere : ℕ → Bool
nowhere a = false

-- how often an atom is delimited
abbrev pub counts : ℕ → Term → ℕ
counts a (leaf x) = 0
counts a (under u t) = one_if (delimits_atom a u) + counts a t
counts a (both j s t) = counts a s + counts a t

-- the values that a term delimits
abbrev pub restricted : Term → ℕ → Bool
restricted t a = value a && member a (binders t)

-- The rules on scopes. Closed: every variable or label occurrence lies inside its delimitation. No atom is delimited twice.
-- A delimited value occurs nowhere outside its delimitation.
pub record Formed (t : Term) : Type 0 where
  pub guarded : Guarded t
  pub closed : Scoped bindable nowhere t
  pub unique : (a : ℕ) → counts a t ≤ 1
  pub private : Scoped (restricted t) nowhere t

-- The limits: 1 to 2,048 records; no depth exceeds 256.
pub record Within (t : Term) : Type 0 where
  pub right : Right t
  pub formed : Formed t
  pub small : size t ≤ max_records
  pub shallow : depth t ≤ max_depth
