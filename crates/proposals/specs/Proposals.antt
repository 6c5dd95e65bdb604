-- A move as the code has read it: document 01's move, or none.
use mathlib.Core.Option.{Option, none, some}
use Rattle.std.specs.Prelude as rust
use Rattle.std.specs.Prelude.{Some, None}
use Rattle.cows.specs.Moves as moves
use Rattle.proposals.specs.declared.Move.{Move}
use Rattle.proposals.specs.declared.Move.TheVariants.{Kill, Communicate, Timeout, Elapse, Unfold, Extrude}

abbrev pub move_of : Move → moves.Move
move_of (Kill a) = moves.Kill a
move_of (Communicate a b) = moves.Communicate a b
move_of (Timeout a) = moves.Timeout a
move_of (Elapse d) = moves.Elapse d
move_of (Unfold a) = moves.Unfold a
move_of (Extrude a) = moves.Extrude a

abbrev pub read_as : rust.Option Move → Option moves.Move
read_as (Some m) = some (move_of m)
read_as None = none
