-- The entries of a list of moves: the places that have a role, and the moves that are written for them.
use Rattle.std.specs.Prelude.{◌≡◌, List, ℕ, ◌+◌, ◌*◌, ◌≤◌, length}
use Rattle.cows.specs.Limits.{max_records}
use Rattle.cows.specs.Papers.{move_bytes}
use Rattle.records.specs.Rewrites.{put}
use Rattle.roles.specs.declared.Role.{Role}
use Rattle.roles.specs.Roles.{is_role, role_at}
use Rattle.opening.specs.Opening.{up_from, filter, each}

-- the first n places that have the role
abbrev pub places_of : (cast : List Role) (role : Role) (n : ℕ) → List ℕ
places_of cast role n = filter (λ i. is_role (role_at cast i) role) (up_from 0 n)

-- There is room for their moves behind m others.
pub record EntryRoom (cast : List Role) (role : Role) (n : ℕ) (out : List ℕ) (m : ℕ) : Type 0 where
  pub cast_all : n ≤ length cast
  pub few : n ≤ max_records
  pub fits : 6 * (m + length (places_of cast role n)) ≤ length out

-- The moves of the first i places are written behind m others, and nothing else; `count` moves stand there then.
pub record Entered (cast : List Role) (role : Role) (kind : ℕ) (out : List ℕ) (m i : ℕ) (after : List ℕ) (count : ℕ) : Type 0 where
  pub number : count ≡ m + length (places_of cast role i)
  pub is : after ≡ put out (6 * m) (each (λ a. move_bytes kind a 0) (places_of cast role i))
