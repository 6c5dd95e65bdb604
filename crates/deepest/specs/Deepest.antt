-- What the passes over a table leave in their arrays: the depth of the term at each place; how many records are above it; how deep what stands beside it reaches.
use Rattle.std.specs.Prelude.{◌≡◌, List, [], ◌∷◌, ℕ, suc, ◌+◌, ◌*◌, ◌/◌, ◌≤◌, ◌<◌, length, get_or}
use Rattle.cows.specs.Terms.{Term, size, depth}
use Rattle.cows.specs.Places.{inside, left_of, right_of, Way, way_to}
use Rattle.cows.specs.Records.{ahead}
use Rattle.records.specs.Rewrites.{StandsIn}
use Rattle.ways.specs.Known.{Table, Known}

-- `heights` has the depth of the term at each place from i on.
abbrev pub Heights : List ℕ → List ℕ → ℕ → Type 0
Heights s heights i = (m : ℕ) → i ≤ m → (t : Term) → StandsIn s (16 * m) t → get_or heights m 0 ≡ depth t

-- how deep what stands beside the place at the end of a way reaches, or 0
unfoldable pub side_of : Way → ℕ
side_of [] = 0
side_of (inside u ∷ w) = 0
side_of (left_of j r ∷ w) = suc (length w) + depth r
side_of (right_of j s ∷ w) = suc (length w) + depth s

-- the record above, if there is one, stands before place i
abbrev pub ParentBelow : ℕ → Way → Type 0
ParentBelow i [] = Unit {0}
ParentBelow i (f ∷ w) = length (ahead w) < i

-- The list has what f says of the way to a place, for each place of t whose record above stands before place i.
abbrev pub TellsPlaces : (Way → ℕ) → Term → List ℕ → ℕ → Type 0
TellsPlaces f t l i = (n : ℕ) → n < size t → ParentBelow i (way_to t n) → get_or l n 0 ≡ f (way_to t n)

-- `levels` and `sides` are told for these places.
abbrev pub Told : (s ends levels sides : List ℕ) → ℕ → Type 0
Told s ends levels sides i = (t : Term) → Table s ends t → TellsPlaces length t levels i × TellsPlaces side_of t sides i

-- All that is known at place i: the depths, and what is told. The lists are long enough.
pub record Telling (s ends heights levels sides : List ℕ) (i : ℕ) : Type 0 where
  pub known : Known s ends
  pub deep : Heights s heights 0
  pub told : Told s ends levels sides i
  pub inside : i < length s / 16
  pub height : length s / 16 ≤ length heights
  pub level : length s / 16 ≤ length levels
  pub side : length s / 16 ≤ length sides
