-- The place of a move's plan, from which on the table changes.
use Rattle.std.specs.Prelude as rust
use Rattle.std.specs.Prelude.{Some, None, ℕ}
use Rattle.cows.specs.Terms.{Term}
use Rattle.cows.specs.Places.{way_to}
use Rattle.ways.specs.Ways.{start_of, parent_of}
use Rattle.proposals.specs.declared.Move.{Move}
use Rattle.proposals.specs.declared.Move.TheVariants.{Kill, Communicate, Timeout, Elapse, Unfold, Extrude}
use Rattle.kill.specs.Killing.{kill_scope}

-- [k], the start of the whole choice, the root, the replication, the record above
abbrev pub plan_place : Move → Term → ℕ
plan_place (Kill a) t = kill_scope t a
plan_place (Communicate a b) t = start_of a (way_to t a)
plan_place (Timeout a) t = start_of a (way_to t a)
plan_place (Elapse d) t = 0
plan_place (Unfold a) t = a
plan_place (Extrude a) t = parent_of (way_to t a)

-- the same of a move as it was read; none has no place, and 0 stands for it
abbrev pub read_place : rust.Option Move → Term → ℕ
read_place None t = 0
read_place (Some m) t = plan_place m t
