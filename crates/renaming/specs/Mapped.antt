-- Records whose atoms change: f of every atom of a record, said of the record and of its 16 bytes. Kind, tuple count and interval stay.
use Rattle.std.specs.Prelude.{List, [], ◌++◌, ℕ, zero, suc, ◌+◌, ◌*◌, ◌/◌, ◌%◌, get_or, take, drop}
use Rattle.cows.specs.Format.{bytes2, word}
unfoldable pub use Rattle.cows.specs.Moves.{map_node}

-- the four atoms of a tuple as bytes
unfoldable pub tuple_bytes : ℕ → ℕ → ℕ → ℕ → List ℕ
tuple_bytes w x y z = bytes2 w ++ (bytes2 x ++ (bytes2 y ++ bytes2 z))

-- the 16 bytes b with other numbers in the six fields for atoms: endpoint, then tuple
unfoldable pub with_atoms : List ℕ → ℕ → ℕ → ℕ → ℕ → ℕ → ℕ → List ℕ
with_atoms b p o w x y z =
    take 2 b ++ (bytes2 p ++ (bytes2 o ++ (tuple_bytes w x y z ++ take 2 (drop 14 b))))

-- f of every field for an atom, in use or not
unfoldable pub map_record : (ℕ → ℕ) → List ℕ → List ℕ
map_record f b =
    with_atoms b (f (word b 2)) (f (word b 4)) (f (word b 6)) (f (word b 8)) (f (word b 10)) (f (word b 12))

-- what g makes of each of the n records from place i on, one after the other; g may ask for the place, or not
unfoldable pub along : (ℕ → List ℕ → List ℕ) → List ℕ → ℕ → ℕ → List ℕ
along g s i zero = []
along g s i (suc n) = g i (take 16 (drop (16 * i) s)) ++ along g s (suc i) n

abbrev pub across : (List ℕ → List ℕ) → List ℕ → ℕ → ℕ → List ℕ
across g s i n = along (λ j. g) s i n

-- those records, each so mapped
abbrev pub mapped : (ℕ → ℕ) → List ℕ → ℕ → ℕ → List ℕ
mapped f s i n = across (map_record f) s i n

-- Names: an array with a number for each atom, or for the first atoms of each quarter of them. Where it has the atom a: the first of all four quarters, then the second of each, and so on. (No two numbers have one place: those from 65,536 on, which are no atoms, lie behind.)
unfoldable pub slot_of : ℕ → ℕ
slot_of a = 65536 * (a / 65536) + (4 * (a % 16384) + a / 16384 % 4)

-- the atom that stands for an atom; 0 where the array has no place for it
abbrev pub named : List ℕ → ℕ → ℕ
named names a = get_or names (slot_of a) 0
