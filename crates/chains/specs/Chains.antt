-- Chains of records by classes, as `heads` and `next` hold them.
use Rattle.std.specs.Prelude.{◌≡◌, Bool, true, ◌&&◌, List, ℕ, ◌+◌, ◌*◌, ◌/◌, ◌%◌, ◌≤◌, ◌<◌, eqb, length, get_or}
use Rattle.cows.specs.Limits.{max_records}
use Rattle.cows.specs.Format.{word}
use Rattle.roles.specs.declared.Role.{Role}
use Rattle.roles.specs.declared.Role.TheVariants.{Sender}
use Rattle.roles.specs.Roles.{is_role, role_at, first_of}

-- how many classes there are
abbrev pub classes : ℕ
classes = 256

abbrev pub Blank : List ℕ → Type 0
Blank l = (i : ℕ) → get_or l i 0 ≡ 0

-- the class of two numbers; that of the record at place i, by its first two atoms
unfoldable pub class_of_pair : ℕ → ℕ → ℕ
class_of_pair p o = (31 * p + o) % classes

unfoldable pub class_at : List ℕ → ℕ → ℕ
class_at s i = class_of_pair (word s (16 * i + 2)) (word s (16 * i + 4))

-- The record at place i is a delimitation, by its kind; it is an invoke that may be a party, by its role.
unfoldable pub scope_here : List ℕ → ℕ → Bool
scope_here s i = eqb (get_or s (16 * i) 0) 8

unfoldable pub sender_here : List Role → ℕ → Bool
sender_here cast i = is_role (role_at cast i) Sender

-- of those that pass, the ones of class c
unfoldable pub in_class : (ℕ → Bool) → (ℕ → ℕ) → ℕ → ℕ → Bool
in_class f class c i = f i && eqb (class i) c

-- Of the n places, those from i on that pass are chained.
pub record Chained (f : ℕ → Bool) (class : ℕ → ℕ) (n : ℕ) (heads next : List ℕ) (i : ℕ) : Type 0 where
  pub first : (c : ℕ) → c < classes → get_or heads c 0 ≡ first_of (in_class f class c) n i
  pub then : (j : ℕ) → i ≤ j → j < n → f j ≡ true → get_or next j 0 ≡ first_of (in_class f class (class j)) n (j + 1)

-- The bytes are whole records, not too many, and there is room for their chains, of which none has begun.
pub record Chainable (s heads next : List ℕ) : Type 0 where
  pub whole : length s ≡ 16 * (length s / 16)
  pub few : length s / 16 ≤ max_records
  pub wide : length heads ≡ classes
  pub bare : Blank heads
  pub room : length s / 16 ≤ length next

-- The delimitations of a table are chained. The other fields are here for `omega`.
pub record ByAtom (s heads next : List ℕ) : Type 0 where
  pub chained : Chained (scope_here s) (class_at s) (length s / 16) heads next 0
  pub wide : length heads ≡ classes
  pub room : length s / 16 ≤ length next
  pub whole : length s ≡ 16 * (length s / 16)

-- The invokes that may be a party, by their roles in `cast`, are chained. The other fields are here for `omega`.
pub record BySender (s : List ℕ) (cast : List Role) (heads next : List ℕ) : Type 0 where
  pub chained : Chained (sender_here cast) (class_at s) (length s / 16) heads next 0
  pub wide : length heads ≡ classes
  pub room : length s / 16 ≤ length next
  pub whole : length s ≡ 16 * (length s / 16)
