-- An expression that stands in a script.
use Rattle.std.specs.Prelude.{◌≡◌, List, ℕ, ◌*◌}
use Rattle.records.specs.Rewrites.{Has}
use Rattle.orc.specs.Expressions.{Orc, RightOrc}
use Rattle.orc.specs.Scripts.{script}

-- the records of the expression e stand in s from place n on
pub record ScriptAt (s : List ℕ) (n : ℕ) (e : Orc) : Type 0 where
  pub has : Has s (8 * n) (script e)

-- the bytes s are the script of the expression e, whose records are right
pub record ScriptOf (s : List ℕ) (e : Orc) : Type 0 where
  pub is : s ≡ script e
  pub right : RightOrc e
