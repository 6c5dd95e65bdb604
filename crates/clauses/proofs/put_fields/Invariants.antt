use mathlib.Core.Path.{◌≡◌}
use lib.ListN.{take}
use Rattle.records.specs.Rewrites.{put}
use Rattle.clauses.specs.Parts.{words}
use Rattle.clauses.proofs.put_fields.Given as goal

abbrev pub invariant-loop-i : goal.invariant-loop-i
invariant-loop-i l = l.out ≡ put l.initial.out l.at (words (take l.i l.fields))
