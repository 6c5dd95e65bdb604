use mathlib.Core.Path.{refl}
use native.Mathlib.Omega.{arith}
use Rattle.cows.specs.Kinds.{ready_kind, open_kinds}
use Rattle.cows.proofs.Rows.{kind-range}
use Rattle.holding.proofs.ready_kind.Goals as goal

pub returns : goal.returns
unfolding open_kinds
returns c = kind-range 5 9 ready_kind (omega arith) (refl, refl, refl, refl, refl, refl, refl, refl, refl, refl) (λ n. refl) c.args.kind
