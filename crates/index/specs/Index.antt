-- The index of delimitations that the quick test of scopes makes: the slot of an atom, the entry of a delimitation, and what makes a use right by it.
use Rattle.std.specs.Prelude.{◌≡◌, Bool, true, cond, List, ℕ, ◌+◌, ◌*◌, ◌-◌, ◌/◌, ◌%◌, ◌^◌, ◌<◌, ◌≤◌, eqb, length, get_or}
use mathlib.Core.Option.{none}
use Rattle.std.specs.Int.Bits.{bit_and, bit_xor}
use Rattle.cows.specs.Terms.{Term}
use Rattle.cows.specs.Places.{first}
use Rattle.cows.specs.Format.{word}
use Rattle.cows.specs.Tables.{unbound, clash}
use Rattle.records.specs.Holds.{Holds}
use Rattle.records.specs.Ends.{EndsFrom}
use Rattle.ranges.specs.Lists.{Listed, Inside}
use Rattle.ranges.specs.Ranges.{pattern_right}

-- every atom has a slot in the index
pub record Slots (index : List ℕ) (shift mask : ℕ) : Type 0 where
  pub small : shift < 64
  pub room : mask < length index

-- the slot of an atom, at most mask: its low bits, and above shift also which set it is of
unfoldable pub slot_of : ℕ → ℕ → ℕ → ℕ
slot_of shift mask a = bit_and (bit_xor a ((a / 2 ^ 14 * 2 ^ shift) % 2 ^ 64)) mask

-- the entry of the delimitation at place d: from the low bits on, its place and 32,768, how far its end lies below 32,768, and its atom
unfoldable pub entry_of : List ℕ → List ℕ → ℕ → ℕ
entry_of s ends d = 32768 + d + 65536 * (32768 - get_or ends d 0) + 4294967296 * word s (16 * d + 2)

-- Delimitations to enter, at the places of a list, and an index with none.
pub record Entering (s ends marks index : List ℕ) (shift mask : ℕ) : Type 0 where
  pub end : EndsFrom s ends 0
  pub inside : Inside s marks
  pub kinds : (q : ℕ) → q < length marks → get_or s (16 * get_or marks q 0) 0 ≡ 8
  pub slots : Slots index shift mask
  pub free : (p : ℕ) → get_or index p 0 < 65536

-- a number of 65,536 or more in the index is the entry of a delimitation; the delimitation at place d has its entry
abbrev pub OnlyEntries : List ℕ → List ℕ → List ℕ → Type 0
OnlyEntries s ends index = (p : ℕ) → 65536 ≤ get_or index p 0 → (d : ℕ) × (d < length s / 16) × (get_or s (16 * d) 0 ≡ 8) × (get_or index p 0 ≡ entry_of s ends d)

abbrev pub HasEntry : List ℕ → List ℕ → List ℕ → ℕ → ℕ → ℕ → Type 0
HasEntry s ends index shift mask d = get_or index (slot_of shift mask (word s (16 * d + 2))) 0 ≡ entry_of s ends d

-- The index has the entries of the delimitations at the first m places of the list, and no other.
pub record Entered (s ends marks : List ℕ) (m : ℕ) (index : List ℕ) (shift mask : ℕ) : Type 0 where
  pub only : OnlyEntries s ends index
  pub all : (q : ℕ) → q < m → HasEntry s ends index shift mask (get_or marks q 0)

-- the fault of a use of a, by what its slot has, and by the index
unfoldable pub fault_of : ℕ → ℕ → ℕ → ℕ
fault_of e a at = cond (eqb (e / 4294967296) a) (e % 4294967296 + at) a

abbrev pub fault_by : List ℕ → ℕ → ℕ → ℕ → ℕ → ℕ
fault_by index shift mask a at = fault_of (get_or index (slot_of shift mask a) 0) a at

-- no fault: bits 15 and 31 are clear
pub record Clear (f : ℕ) : Type 0 where
  pub low : f / 32768 % 2 ≡ 0
  pub high : f / 2147483648 % 2 ≡ 0

-- the uses of the three atoms from byte k on have no fault
abbrev pub Fine : List ℕ → List ℕ → ℕ → ℕ → ℕ → ℕ → Type 0
Fine s index shift mask k at = (i : ℕ) → i < 3 → Clear (fault_by index shift mask (word s (k + 2 * i)) at)

-- the uses of the record at place j are right by the index, and no variable stands twice in it if it is a receive
pub record UsesRight (s index : List ℕ) (shift mask j : ℕ) : Type 0 where
  pub ends : Fine s index shift mask (16 * j + 2) (65535 * j)
  pub rest : 0 < word s (16 * j + 8) → Fine s index shift mask (16 * j + 8) (65535 * j)
  pub apart : 0 < word s (16 * j + 8) → get_or s (16 * j) 0 ≡ 3 → pattern_right s (16 * j) ≡ true

-- The ends of a table's terms, and the lists of its delimitations and of its records that use atoms.
pub record TableLists (s ends marks users : List ℕ) : Type 0 where
  pub end : EndsFrom s ends 0
  pub delimitations : Listed s 8 8 marks (length s / 16) (length marks)
  pub uses : Listed s 1 3 users (length s / 16) (length users)

-- an index with nothing in it
pub record BlankIndex (index : List ℕ) (shift mask : ℕ) : Type 0 where
  pub slots : Slots index shift mask
  pub empty : (p : ℕ) → get_or index p 0 ≡ 0

-- What the quick test of scopes shows, if its answer is true, of the term whose table the bytes are: refusals 6 and 7 do not apply.
abbrev pub ScopesRight : Term → Type 0
ScopesRight t = (first unbound t ≡ none) × (first (clash t) t ≡ none)

abbrev pub ShowsBound : Bool → List ℕ → Type 0
ShowsBound r s = r ≡ true → (t : Term) → Holds s t → ScopesRight t

-- Of a receive it shows that no variable stands twice, if the tuple has nothing behind an empty second slot.
abbrev pub ShowsPatterns : Bool → List ℕ → Type 0
ShowsPatterns r s = r ≡ true → (i : ℕ) → i < length s / 16 → get_or s (16 * i) 0 ≡ 3
    → (word s (16 * i + 8) ≡ 0 → (word s (16 * i + 10) ≡ 0) × (word s (16 * i + 12) ≡ 0)) → pattern_right s (16 * i) ≡ true
