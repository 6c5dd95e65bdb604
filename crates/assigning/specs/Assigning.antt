-- Assigning roles (roles, specs/Roles) record by record: what a ready record says of them.
use Rattle.std.specs.Prelude.{List, ℕ, ◌-◌, ◌/◌, ◌≤◌, ◌<◌, length, set}
use Rattle.cows.specs.Terms.{nil, kill, invoke, receive, wait, protection, delimitation, replication, Term}
use Rattle.cows.specs.Kinds.{Node, basic, prefix, join}
use Rattle.cows.specs.Within.{Within}
use Rattle.records.specs.Holds.{Holds}
use Rattle.roles.specs.declared.Role.{Role}
use Rattle.roles.specs.declared.Role.TheVariants.{Rival, Holder}
use Rattle.roles.specs.Roles.{behind_of}
use Rattle.chains.specs.Chains.{ByAtom}

-- The roles when the ready record at place n is noted: a kill says that the delimitation of its label holds back, a receive that it is a rival.
unfoldable pub noted : Term → ℕ → Node → List Role → List Role
noted t n (basic nil) cast = cast
noted t n (basic (kill k)) cast = set cast (behind_of t k - 1) Holder
noted t n (basic (invoke p o ws)) cast = cast
noted t n (prefix (receive p o ws)) cast = set cast n Rival
noted t n (prefix (wait i)) cast = cast
noted t n (prefix protection) cast = cast
noted t n (prefix (delimitation d)) cast = cast
noted t n (prefix replication) cast = cast
noted t n (join j) cast = cast

-- Place i is one of a table within the limits, whose delimitations are chained, and there is a role for each place.
pub record Notable (s heads next : List ℕ) (cast : List Role) (i : ℕ) : Type 0 where
  pub term : Term
  pub holds : Holds s term
  pub within : Within term
  pub chained : ByAtom s heads next
  pub room : length s / 16 ≤ length cast
  pub place : i < length s / 16
