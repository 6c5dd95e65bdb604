-- Rewriting: what code says that reads the term at a byte of one table and writes what f makes of it at a byte of another.
-- Places are bytes here; f : Term → Term is what the code does.
use Rattle.std.specs.Prelude.{◌≡◌, List, ◌++◌, ℕ, ◌+◌, ◌≤◌, length, drop}
use lib.Seq.{sets}
use Rattle.cows.specs.Terms.{nil, Term, leaf}
use Rattle.cows.specs.Format.{encode}

-- d with the bytes bs written over it from byte i on, one after the other (those that d has no room for are lost): what code leaves in a table.
unfoldable pub put : List ℕ → ℕ → List ℕ → List ℕ
put d i bs = sets d i bs

-- The bytes bs stand in s from byte i on, whatever follows: what code finds in a table.
pub record Has (s : List ℕ) (i : ℕ) (bs : List ℕ) : Type 0 where
  pub rest : List ℕ
  pub is : drop i s ≡ bs ++ rest

-- the records of the term t stand in s from byte i on
abbrev pub StandsIn : List ℕ → ℕ → Term → Type 0
StandsIn s i t = Has s i (encode t)

-- p is the byte behind the term at byte i, whichever stands there: what `ends` tells code that does not go into the term.
-- `past` and `within` follow; they are here for `omega`.
pub record Passes (s : List ℕ) (i p : ℕ) : Type 0 where
  pub past : i + 16 ≤ p
  pub within : p ≤ length s
  pub end : (t : Term) → StandsIn s i t → p ≡ i + length (encode t)

-- What rewriting asks: some term stands at byte i of s, and d has room from byte j on for what f makes of it.
-- `inside` and `space` follow; they are here for `omega`.
pub record Rewritable (f : Term → Term) (s : List ℕ) (i : ℕ) (d : List ℕ) (j : ℕ) : Type 0 where
  pub term : Term
  pub stands : StandsIn s i term
  pub room : j + length (encode (f term)) ≤ length d
  pub inside : i + 16 ≤ length s
  pub space : j + 16 ≤ length d

-- What rewriting does to the term t: e is d with f t written at byte j, and reading and writing go on behind t and behind f t, at p and q.
pub record Done (f : Term → Term) (t : Term) (i : ℕ) (d : List ℕ) (j : ℕ) (e : List ℕ) (p q : ℕ) : Type 0 where
  pub next : p ≡ i + length (encode t)
  pub then : q ≡ j + length (encode (f t))
  pub bytes : e ≡ put d j (encode (f t))

-- What rewriting gives: whichever term stands at byte i of s is rewritten.
-- `past` follows from Rewritable; it is here for `omega`, and for the measure of the next call.
pub record Rewrites (f : Term → Term) (s : List ℕ) (i : ℕ) (d : List ℕ) (j : ℕ) (e : List ℕ) (p q : ℕ) : Type 0 where
  pub past : i + 16 ≤ p
  pub done : (t : Term) → StandsIn s i t → Done f t i d j e p q

-- a term kept whole, and nil for any term
abbrev pub unchanged : Term → Term
unchanged t = t

abbrev pub gone : Term → Term
gone t = leaf nil
