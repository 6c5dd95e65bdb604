-- Lists of places of a table: those of the records of some kinds.
use Rattle.std.specs.Prelude.{◌≡◌, ℕ, ◌*◌, ◌/◌, ◌<◌, ◌≤◌, true, ◌&&◌, List, length, nat_le, slice_index}

-- The first m numbers of the list are the places below n of the records of kinds x to y.
pub record Listed (s : List ℕ) (x y : ℕ) (list : List ℕ) (n m : ℕ) : Type 0 where
  pub few : m ≤ n
  pub inside : (q : ℕ) → q < m → slice_index list q < n
  pub only : (q : ℕ) → q < m → (nat_le x (slice_index s (16 * slice_index list q)) && nat_le (slice_index s (16 * slice_index list q)) y) ≡ true
  pub all : (j : ℕ) → j < n → (nat_le x (slice_index s (16 * j)) && nat_le (slice_index s (16 * j)) y) ≡ true → (q : ℕ) × (q < m) × (slice_index list q ≡ j)

-- the numbers of the list are places of the table
abbrev pub Inside : (s list : List ℕ) → Type 0
Inside s list = (q : ℕ) → q < length list → slice_index list q < length s / 16
