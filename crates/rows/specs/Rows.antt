-- How the record check goes about its 16 bytes: ranges of atoms, slots of a tuple, and records without a tuple as two 64-bit numbers.
use Rattle.std.specs.Prelude.{ℕ, ◌+◌, ◌*◌, ◌/◌, ◌%◌, Bool, cond, ◌&&◌, List, leb, ltb, eqb}
use Rattle.cows.specs.Limits.{first_label}
use Rattle.cows.specs.Terms.{datum}
use Rattle.cows.specs.Kinds.{unused, data4, Contents, may}
use Rattle.cows.specs.Format.{word}

-- the 64-bit number at byte k
unfoldable pub quad : List ℕ → ℕ → ℕ
quad b k = word b k + 65536 * word b (k + 2) + 4294967296 * word b (k + 4) + 281474976710656 * word b (k + 6)

-- from low on, and below high
abbrev pub in_range : ℕ → ℕ → ℕ → Bool
in_range low high a = leb low a && ltb a high

-- slot j of a tuple of n
unfoldable pub slot_right : ℕ → ℕ → ℕ → Bool
slot_right n j a = cond (ltb j n) (datum a) (unused a)

-- what a kind with a tuple may hold, whose endpoint's atoms are below top
abbrev pub tuple_contents : ℕ → Contents
tuple_contents top = may (in_range 1 top) (in_range 1 top) data4 unused

-- a record without a tuple
unfoldable pub plain_right : ℕ → ℕ → ℕ → Bool
plain_right kind low high =
    cond (eqb kind 8) (eqb (low % 65536) 8 && leb 1 (low / 65536) && ltb (low / 65536) 65536 && eqb high 0)
    (cond (eqb kind 1) (eqb (low % 65536) 1 && leb first_label (low / 65536) && ltb (low / 65536) 65536 && eqb high 0)
    (cond (eqb kind 4) (eqb low 4 && eqb (high % 281474976710656) 0) (ltb low 10 && eqb high 0)))
