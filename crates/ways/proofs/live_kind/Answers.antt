use mathlib.Core.Path.{refl}
use native.Mathlib.Omega.{arith}
use Rattle.cows.specs.Kinds.{live_kind, open_kinds}
use Rattle.cows.proofs.Rows.{kind-range}
use Rattle.ways.proofs.live_kind.Goals as goal

pub returns : goal.returns
unfolding open_kinds
returns c = kind-range 5 8 live_kind (omega arith) (refl, refl, refl, refl, refl, refl, refl, refl, refl, refl) (λ n. refl) c.args.kind
