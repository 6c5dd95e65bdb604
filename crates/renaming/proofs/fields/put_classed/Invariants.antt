use mathlib.Core.Path.{◌≡◌}
use Prim.Native.Nat.{◌*◌}
use lib.ListN.{take}
use Rattle.records.specs.Rewrites.{put}
use Rattle.records.proofs.Pieces.{piece}
use Rattle.renaming.specs.Mapped.{map_record}
use Rattle.renaming.proofs.fields.put_classed.Given as goal

-- so many bytes of the record are written
abbrev pub invariant-loop-k : goal.invariant-loop-k
invariant-loop-k g l = l.dst ≡ put l.fn.dst l.at (take (2 * l.k) (map_record (g.M.ClassedMap.map l.m) (piece l.s (16 * l.i))))
