use Prim.Native.Nat.{◌-◌, ◌+◌, ◌*◌}
use lib.ListN.{length}
use Rattle.translating.proofs.+write_write_parallel_write_sequence_write_where.Given as goal

-- twice the bytes behind the place, and one more before the record is handed on
abbrev pub decreases-write : goal.decreases-write
decreases-write l = 2 * (length l.s.now - l.at.place) + 1

abbrev pub decreases-write_parallel : goal.decreases-write_parallel
decreases-write_parallel l = 2 * (length l.s.now - l.at.place)

abbrev pub decreases-write_sequence : goal.decreases-write_sequence
decreases-write_sequence l = 2 * (length l.s.now - l.at.place)

abbrev pub decreases-write_where : goal.decreases-write_where
decreases-write_where l = 2 * (length l.s.now - l.at.place)
