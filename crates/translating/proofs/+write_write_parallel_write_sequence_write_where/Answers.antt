-- Each call is at a later place of the script, or hands the record at hand on by its kind; what the pass asks and gives at each kind is in proofs/Asks and proofs/Gives.
use borrow.Author.Rules.{rules}
use native.Mathlib.Omega.{arith}
use Rattle.orc.proofs.Format.{records_pos}
use Rattle.translating.proofs.Asks.{act-kind, asked-parallel, asked_sequence, asked_where, parallel-left, parallel_right}
use Rattle.translating.proofs.Asks.{sequence_room, sequence_left, sequence_middle_lem, sequence_right, where_room, where_left, where_middle_lem, where_right, where_tail_lem}
use Rattle.translating.proofs.Gives.{act_gives, parallel_gives, sequence_gives, where_gives}
use Rattle.translating.proofs.+write_write_parallel_write_sequence_write_where.Goals as goal

pub write-write_parallel-requires : goal.write-write_parallel-requires
write-write_parallel-requires t c = (omega (arith, c.well_formed, c.decreases, c.requires.inside), (c.requires, c.in-3.is))

pub write-write_sequence-requires : goal.write-write_sequence-requires
write-write_sequence-requires t c = (omega (arith, c.well_formed, c.decreases, c.requires.inside), (c.requires, c.in-2.is))

pub write-write_where-requires : goal.write-write_where-requires
write-write_where-requires t c = (omega (arith, c.well_formed, c.decreases, c.requires.inside), (c.requires, c.in-4.is))

pub write-returns-in_default : goal.write-returns-in_default
write-returns-in_default t c = act_gives (act-kind c.requires (λ e. omega arith) (λ e. omega arith) (λ e. omega arith)) c.put_act.ensures

pub write_parallel-write-left-requires : goal.write_parallel-write-left-requires
write_parallel-write-left-requires t c = let (f, g, a) = asked-parallel c.requires.1 c.requires.0 in
    (omega (arith, c.well_formed, c.decreases, c.requires.0.inside), parallel-left f g a (search rules))

pub write_parallel-write-requires : goal.write_parallel-write-requires
write_parallel-write-requires t c = let (f, g, a) = asked-parallel c.requires.1 c.requires.0 in
    let w = c.write-left.ensures in
    (omega (arith, c.well_formed, c.decreases, c.requires.0.inside, w.past), parallel_right f g a (search rules) w)

pub write_parallel-returns : goal.write_parallel-returns
write_parallel-returns t c = parallel_gives c.requires.1 c.put_parallel.ensures c.write-left.ensures c.write.ensures

pub write_sequence-next_endpoint-inner-requires : goal.write_sequence-next_endpoint-inner-requires
write_sequence-next_endpoint-inner-requires t c = omega (arith, c.well_formed, c.decreases, c.requires.0.values, records_pos c.requires.0.expression)

pub write_sequence-put_sequence_head-requires : goal.write_sequence-put_sequence_head-requires
write_sequence-put_sequence_head-requires t c = sequence_room (asked_sequence c.requires.1 c.requires.0)

pub write_sequence-write-left-requires : goal.write_sequence-write-left-requires
write_sequence-write-left-requires t c = let (x, f, g, a) = asked_sequence c.requires.1 c.requires.0 in
    (omega (arith, c.well_formed, c.decreases, c.requires.0.inside), sequence_left c.next_endpoint-inner.ensures.0 c.next_endpoint-inner.ensures.1 x f g a (search rules))

pub write_sequence-put_sequence_middle-requires : goal.write_sequence-put_sequence_middle-requires
write_sequence-put_sequence_middle-requires t c = let (x, f, g, a) = asked_sequence c.requires.1 c.requires.0 in
    omega (arith, c.well_formed, c.decreases, sequence_middle_lem c.next_endpoint-inner.ensures.0 c.next_endpoint-inner.ensures.1 x f g a c.write-left.ensures)

pub write_sequence-overflow_add-second : goal.write_sequence-overflow_add-second
write_sequence-overflow_add-second t c = let (x, f, g, a) = asked_sequence c.requires.1 c.requires.0 in
    omega (arith, c.well_formed, c.decreases, sequence_middle_lem c.next_endpoint-inner.ensures.0 c.next_endpoint-inner.ensures.1 x f g a c.write-left.ensures)

pub write_sequence-write-requires : goal.write_sequence-write-requires
write_sequence-write-requires t c = let (x, f, g, a) = asked_sequence c.requires.1 c.requires.0 in
    let w = c.write-left.ensures in
    (omega (arith, c.well_formed, c.decreases, c.requires.0.inside, w.past), sequence_right c.next_endpoint-inner.ensures.0 c.next_endpoint-inner.ensures.1 x f g a w (search rules))

pub write_sequence-returns : goal.write_sequence-returns
write_sequence-returns t c = sequence_gives c.requires.0.start c.next_endpoint-inner.ensures.0 c.next_endpoint-inner.ensures.1 c.word_at-x.ensures c.requires.1 c.put_sequence_head.ensures c.write-left.ensures c.put_sequence_middle.ensures c.write.ensures

pub write_where-next_endpoint-inner-requires : goal.write_where-next_endpoint-inner-requires
write_where-next_endpoint-inner-requires t c = omega (arith, c.well_formed, c.decreases, c.requires.0.values, records_pos c.requires.0.expression)

pub write_where-put_where_head-requires : goal.write_where-put_where_head-requires
write_where-put_where_head-requires t c = where_room (asked_where c.requires.1 c.requires.0)

pub write_where-write-left-requires : goal.write_where-write-left-requires
write_where-write-left-requires t c = let (x, g, f, a) = asked_where c.requires.1 c.requires.0 in
    (omega (arith, c.well_formed, c.decreases, c.requires.0.inside), where_left c.next_endpoint-inner.ensures.0 c.next_endpoint-inner.ensures.1 x g f a (search rules))

pub write_where-put_where_middle-requires : goal.write_where-put_where_middle-requires
write_where-put_where_middle-requires t c = let (x, g, f, a) = asked_where c.requires.1 c.requires.0 in
    let m = where_middle_lem c.next_endpoint-inner.ensures.0 c.next_endpoint-inner.ensures.1 x g f a c.write-left.ensures in
    omega (arith, c.well_formed, c.decreases, m.0)

pub write_where-overflow_add-second : goal.write_where-overflow_add-second
write_where-overflow_add-second t c = let (x, g, f, a) = asked_where c.requires.1 c.requires.0 in
    let m = where_middle_lem c.next_endpoint-inner.ensures.0 c.next_endpoint-inner.ensures.1 x g f a c.write-left.ensures in
    omega (arith, c.well_formed, c.decreases, m.0)

pub write_where-overflow_add-second-2 : goal.write_where-overflow_add-second-2
write_where-overflow_add-second-2 t c = let (x, g, f, a) = asked_where c.requires.1 c.requires.0 in
    let m = where_middle_lem c.next_endpoint-inner.ensures.0 c.next_endpoint-inner.ensures.1 x g f a c.write-left.ensures in
    omega (arith, c.well_formed, c.decreases, m.1)

pub write_where-write-right-requires : goal.write_where-write-right-requires
write_where-write-right-requires t c = let (x, g, f, a) = asked_where c.requires.1 c.requires.0 in
    let w = c.write-left.ensures in
    (omega (arith, c.well_formed, c.decreases, c.requires.0.inside, w.past), where_right c.next_endpoint-inner.ensures.0 c.next_endpoint-inner.ensures.1 x g f a w (search rules))

pub write_where-put_where_tail-requires : goal.write_where-put_where_tail-requires
write_where-put_where_tail-requires t c = let (x, g, f, a) = asked_where c.requires.1 c.requires.0 in
    omega (arith, c.well_formed, c.decreases, where_tail_lem c.next_endpoint-inner.ensures.0 c.next_endpoint-inner.ensures.1 x g f a c.write-left.ensures c.write-right.ensures)

pub write_where-overflow_add-result : goal.write_where-overflow_add-result
write_where-overflow_add-result t c = let (x, g, f, a) = asked_where c.requires.1 c.requires.0 in
    omega (arith, c.well_formed, c.decreases, where_tail_lem c.next_endpoint-inner.ensures.0 c.next_endpoint-inner.ensures.1 x g f a c.write-left.ensures c.write-right.ensures)

pub write_where-returns : goal.write_where-returns
write_where-returns t c = let (x, g, f, a) = asked_where c.requires.1 c.requires.0 in
    let m = where_middle_lem c.next_endpoint-inner.ensures.0 c.next_endpoint-inner.ensures.1 x g f a c.write-left.ensures in
    where_gives c.requires.0.start c.next_endpoint-inner.ensures.0 c.next_endpoint-inner.ensures.1 c.word_at-x.ensures c.requires.1 c.requires.0.first c.put_where_head.ensures c.write-left.ensures (omega (arith, m.1)) c.put_where_middle.ensures c.write-right.ensures c.put_where_tail.ensures
