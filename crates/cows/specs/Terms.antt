-- Terms: the services of COWS with waits (source documents 000 and 001), their atoms, and what is read off them.
use Rattle.std.specs.Prelude.{Bool, ◌&&◌, ◌||◌, List, [], ◌∷◌, ◌++◌, ℕ, suc, ◌+◌, max, leb, ltb, eqb}
use mathlib.Core.Option.{Option, none, some}
use Rattle.cows.specs.Limits.{first_variable, first_label, no_atom}
use Rattle.cows.specs.Basics.{found_with}

-- The ten kinds of record by their number of children; an atom is a number.
-- No child: nil, kill(k) (document 01: stop), the invoke p·o!⟨ws⟩ (document 01: message).
pub data Basic : Type 0 where
  nil : Basic
  kill : ℕ → Basic
  invoke : ℕ → ℕ → List ℕ → Basic

-- One child: the receive p·o?⟨ws⟩.t, the wait ⊖n.t, the protection ⟦t⟧, the delimitation [d]t, the replication *t.
pub data Prefix : Type 0 where
  receive : ℕ → ℕ → List ℕ → Prefix
  wait : ℕ → Prefix
  protection : Prefix
  delimitation : ℕ → Prefix
  replication : Prefix

-- Two children: the choice s + t and the parallel s | t.
pub data Join : Type 0 where
  choice : Join
  parallel : Join

pub data Term : Type 0 where
  leaf : Basic → Term
  under : Prefix → Term → Term
  both : Join → Term → Term → Term

-- The three disjoint sets of atoms (01, Records): values, variables, labels. A datum is a value or a variable; 0 is no atom.
unfoldable pub value : ℕ → Bool
value a = leb 1 a && ltb a first_variable

unfoldable pub variable : ℕ → Bool
variable a = leb first_variable a && ltb a first_label

unfoldable pub label : ℕ → Bool
label a = leb first_label a && ltb a no_atom

unfoldable pub datum : ℕ → Bool
datum a = value a || variable a

unfoldable pub atom : ℕ → Bool
atom a = datum a || label a

-- the atoms that must stand inside a delimitation of theirs
abbrev pub bindable : ℕ → Bool
bindable a = variable a || label a

-- the number of records; the depth, the root's being 1
unfoldable pub size : Term → ℕ
size (leaf x) = 1
size (under u t) = suc (size t)
size (both j s t) = suc (size s + size t)

unfoldable pub depth : Term → ℕ
depth (leaf x) = 1
depth (under u t) = suc (depth t)
depth (both j s t) = suc (max (depth s) (depth t))

-- The endpoint and the tuple of an invoke or a receive: partner, operation, tuple.
pub record Action : Type 0 where
  pub partner : ℕ
  pub operation : ℕ
  pub tuple : List ℕ

-- the invoke and the receive of an endpoint with its tuple
abbrev pub invoke_of : Action → Basic
invoke_of m = invoke m.partner m.operation m.tuple

abbrev pub receive_of : Action → Prefix
receive_of r = receive r.partner r.operation r.tuple

-- What a term's first record says, if it is of the kind.
unfoldable pub kills : Term → Option ℕ
kills (leaf nil) = none
kills (leaf (kill k)) = some k
kills (leaf (invoke p o ws)) = none
kills (under u t) = none
kills (both j s t) = none

unfoldable pub invokes : Term → Option Action
invokes (leaf nil) = none
invokes (leaf (kill k)) = none
invokes (leaf (invoke p o ws)) = some (record { partner = p; operation = o; tuple = ws })
invokes (under u t) = none
invokes (both j s t) = none

unfoldable pub prefixed : {A : Type 0} → (Prefix → Option A) → Term → Option A
prefixed f (leaf x) = none
prefixed f (under u t) = f u
prefixed f (both j s t) = none

unfoldable pub receives : Prefix → Option Action
receives (receive p o ws) = some (record { partner = p; operation = o; tuple = ws })
receives (wait n) = none
receives protection = none
receives (delimitation d) = none
receives replication = none

unfoldable pub waits : Prefix → Option ℕ
waits (receive p o ws) = none
waits (wait n) = some n
waits protection = none
waits (delimitation d) = none
waits replication = none

unfoldable pub delimits : Prefix → Option ℕ
delimits (receive p o ws) = none
delimits (wait n) = none
delimits protection = none
delimits (delimitation d) = some d
delimits replication = none

unfoldable pub replicates : Prefix → Option (Unit {0})
replicates (receive p o ws) = none
replicates (wait n) = none
replicates protection = none
replicates (delimitation d) = none
replicates replication = some tt

-- the prefix is a delimitation of d
unfoldable pub delimits_atom : ℕ → Prefix → Bool
delimits_atom d u = found_with (eqb d) (delimits u)

-- the term is a delimitation of d
abbrev pub delimits_at : ℕ → Term → Bool
delimits_at d t = found_with (eqb d) (prefixed delimits t)

-- what stands behind a prefix: a continuation, a body
unfoldable pub below : Term → Term
below (leaf x) = leaf nil
below (under u t) = t
below (both j s t) = leaf nil

-- The atoms that a record uses; a delimitation is no use of its own atom.
unfoldable pub uses_basic : Basic → List ℕ
uses_basic nil = []
uses_basic (kill k) = k ∷ []
uses_basic (invoke p o ws) = p ∷ o ∷ ws

unfoldable pub uses_prefix : Prefix → List ℕ
uses_prefix (receive p o ws) = p ∷ o ∷ ws
uses_prefix (wait n) = []
uses_prefix protection = []
uses_prefix (delimitation d) = []
uses_prefix replication = []

unfoldable pub uses : Term → List ℕ
uses (leaf x) = uses_basic x
uses (under u t) = uses_prefix u
uses (both j s t) = []

-- the atoms that a term delimits, in record order; every atom that occurs in a term
unfoldable pub optional : Option ℕ → List ℕ
optional none = []
optional (some d) = d ∷ []

unfoldable pub binders : Term → List ℕ
binders (leaf x) = []
binders (under u t) = optional (delimits u) ++ binders t
binders (both j s t) = binders s ++ binders t

unfoldable pub atoms : Term → List ℕ
atoms (leaf x) = uses_basic x
atoms (under u t) = uses_prefix u ++ optional (delimits u) ++ atoms t
atoms (both j s t) = atoms s ++ atoms t

-- (for computed checks) to unfold this is to unfold every definition of this file
unfoldable pub open_terms : Unit {0}
unfolding value variable label datum atom size depth kills invokes prefixed receives waits delimits replicates delimits_atom below uses_basic uses_prefix uses optional binders atoms
open_terms = tt
