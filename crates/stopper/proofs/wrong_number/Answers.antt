use mathlib.Core.Path.{refl}
use Rattle.joint.specs.Joint.{wrong_number}
use Rattle.stopper.proofs.wrong_number.Goals as goal

pub returns : goal.returns
unfolding wrong_number
returns c = refl
