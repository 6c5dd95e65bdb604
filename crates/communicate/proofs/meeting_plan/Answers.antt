use native.Mathlib.Omega.{arith}
use Rattle.communicate.proofs.Judged.{receive_span, records_left, meeting_planned}
use Rattle.communicate.proofs.meeting_plan.Goals as goal

pub left-requires : goal.left-requires
left-requires c = let p = c.requires in receive_span p.known.table p.live p.start

pub overflow_sub-result : goal.overflow_sub-result
overflow_sub-result c = let p = c.requires in omega (arith, c.left.ensures, records_left p.known.table p.live p.start p.meets)

pub returns : goal.returns
returns c t b z h f m = meeting_planned z h f m _ c.left.ensures
