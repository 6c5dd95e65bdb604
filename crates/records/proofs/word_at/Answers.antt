use native.Mathlib.Numerals.{add-one}
use native.Mathlib.Omega.{arith}
use Rattle.cows.specs.Format.{word, byte}
use Rattle.records.proofs.word_at.Goals as goal

pub returns : goal.returns
unfolding word byte
returns c = rw (c.from_le_bytes.ensures, add-one) (omega arith)
