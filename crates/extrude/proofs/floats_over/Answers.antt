use mathlib.Core.Path.{◌≡◌, refl}
use mathlib.Core.Bool.{◌&&◌}
use Prim.Native.Nat.{ℕ}
use native.Mathlib.Omega.{arith}
use lib.Dec.{leb}
use borrow.Author.Tests.{le-leb, lt-leb}
use Rattle.cows.specs.Kinds.{floats_over, open_kinds}
use Rattle.cows.proofs.Rows.{kind-range}
use Rattle.extrude.proofs.floats_over.Goals as goal

by_range : (k : ℕ) → (leb 6 k && leb k 8) ≡ floats_over k
unfolding open_kinds
by_range k = kind-range 6 8 floats_over (omega arith) (refl, refl, refl, refl, refl, refl, refl, refl, refl, refl) (λ n. refl) k

pub returns-in-6-to-8 : goal.returns-in-6-to-8
returns-in-6-to-8 c = let k = c.args.kind in rw (le-leb 6 k (omega arith), le-leb k 8 (omega arith)) at (by_range k)

pub returns-in_default : goal.returns-in_default
returns-in_default c = let k = c.args.kind in rw (lt-leb 6 k (omega arith)) at (by_range k)

pub returns-in_default-2 : goal.returns-in_default-2
returns-in_default-2 c = let k = c.args.kind in rw (le-leb 6 k (omega arith), lt-leb k 8 (omega arith)) at (by_range k)
