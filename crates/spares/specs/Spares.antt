-- The marks of the values in use, and the next value without one.
use Rattle.std.specs.Prelude.{◌≡◌, Bool, true, false, List, [], ◌∷◌, ◌++◌, ℕ, ◌+◌, ◌<◌, ◌≤◌, length, get_or, drop}
use Rattle.cows.specs.Basics.{member, one_if}
use Rattle.orc.specs.Expressions.{act_uses}
use Rattle.orc.specs.Scripts.{OrcNode, single, joining}

-- how many marks are set
unfoldable pub total : List Bool → ℕ
total [] = 0
total (b ∷ bs) = one_if b + total bs

-- The marks are set for the atoms below 4,096 that are in the list, and no others.
pub record Holding (used : List Bool) (atoms : List ℕ) : Type 0 where
  pub all : length used ≡ 4096
  pub is : (a : ℕ) → a < 4096 → get_or used a false ≡ member a atoms

-- The atom a is marked too, if it has a mark.
pub record HeldToo (used : List Bool) (a : ℕ) (after : List Bool) : Type 0 where
  pub all : length after ≡ 4096
  pub few : total after ≤ total used + 1
  pub marks : (atoms : List ℕ) → Holding used atoms → Holding after (a ∷ atoms)

-- The atoms of a record that can have marks are those of a call: the variable that a composition binds lies above them all.
unfoldable pub call_atoms : OrcNode → List ℕ
call_atoms (single x) = act_uses x
call_atoms (joining c) = []

-- The atoms of the record n are marked too.
pub record HeldIn (used : List Bool) (n : OrcNode) (after : List Bool) : Type 0 where
  pub all : length after ≡ 4096
  pub few : total after ≤ total used + 3
  pub marks : (atoms : List ℕ) → Holding used atoms → Holding after (call_atoms n ++ atoms)

-- n is the first from v on without a mark. `few`: the values passed had marks, so a list of choices comes to no more than what is marked and what is chosen.
pub record NextSpare (used : List Bool) (v n : ℕ) : Type 0 where
  pub from : v ≤ n
  pub below : n < 4096
  pub free : get_or used n false ≡ false
  pub passed : (m : ℕ) → v ≤ m → m < n → get_or used m false ≡ true
  pub few : n + 1 + total (drop (n + 1) used) ≤ v + 1 + total (drop v used)
